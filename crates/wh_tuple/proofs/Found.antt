-- The row of a table in a tuple.
use Rattle.std.proofs.Common.{◌≡◌, ℕ, ◌+◌, ◌<◌, ◌≤◌, List, [], ◌∷◌, Bool, true, false, Some, None, cond, refl, sym, ◌∙◌, length, drop, get_or}
use Rattle.std.proofs.Math.ListN.{drop_of_length-le}
use Rattle.std.proofs.lemmas.Bool.{eqb-true}
use Rattle.std.proofs.lemmas.List.{drop_more}
use Rattle.std.specs.Prelude.{◌==◌, unwrap_or}
use Rattle.def_meaning.specs.Joined.{empty_row, row_of}
use Rattle.wh_base.specs.declared.tables.RowAt.{RowAt}
use Rattle.wh_tuple.specs.Meant.{row_found}

-- from one place on
pub found-at : (ns : List ℕ) (rs : List RowAt) (at table n : ℕ) (r : RowAt) → at < length ns → at < length rs → row_found (drop at ns) (drop at rs) table ≡ cond (get_or ns at n == table) (Some (get_or rs at r)) (row_found (drop (at + 1) ns) (drop (at + 1) rs) table)
found-at ns rs at table n r h k = rw (drop_more ns at n h, drop_more rs at r k) refl

-- it isn't the row at this place
pub found-later : (ns : List ℕ) (rs : List RowAt) (at table : ℕ) → at < length ns → at < length rs → (get_or ns at 0 ≡ table → ⊥) → row_found (drop (at + 1) ns) (drop (at + 1) rs) table ≡ row_found (drop at ns) (drop at rs) table
found-later ns rs at table h k differ = sym (found-at ns rs at table 0 empty_row h k ∙ by (get_or ns at 0 == table) refl)
  where
    by : (b : Bool) → (get_or ns at 0 == table) ≡ b → cond b (Some (get_or rs at empty_row)) (row_found (drop (at + 1) ns) (drop (at + 1) rs) table) ≡ row_found (drop (at + 1) ns) (drop (at + 1) rs) table
    by true e = absurd (differ (eqb-true (get_or ns at 0) table e))
    by false e = refl

pub found-past-tables : (ns : List ℕ) (rs : List RowAt) (at table : ℕ) → length ns ≤ at → row_found (drop at ns) rs table ≡ None
found-past-tables ns rs at table h = rw (drop_of_length-le ns h) refl

no_rows : (ns : List ℕ) (table : ℕ) → row_found ns [] table ≡ None
no_rows [] table = refl
no_rows (n ∷ ns) table = refl

pub found-past-rows : (ns : List ℕ) (rs : List RowAt) (at table : ℕ) → length rs ≤ at → row_found ns (drop at rs) table ≡ None
found-past-rows ns rs at table h = rw (drop_of_length-le rs h) (no_rows ns table)

-- the row itself, or what stands for one that isn't there
pub row-found : (ns : List ℕ) (rs : List RowAt) (table : ℕ) → row_of ns rs table ≡ unwrap_or (row_found ns rs table) empty_row
row-found [] rs table = refl
row-found (n ∷ ns) [] table = refl
row-found (n ∷ ns) (r ∷ rs) table = by (n == table) (row-found ns rs table)
  where
    by : (b : Bool) → row_of ns rs table ≡ unwrap_or (row_found ns rs table) empty_row → cond b r (row_of ns rs table) ≡ unwrap_or (cond b (Some r) (row_found ns rs table)) empty_row
    by true same = refl
    by false same = same

pub ruleset founds = (found-at, found-later, found-past-tables, found-past-rows)

pub ruleset rows = (row-found)
