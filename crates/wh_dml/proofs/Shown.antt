-- The rows that conditions pick at the places of a table, and the changes of them, are those of the table of the definitions.
use Rattle.std.proofs.Common.{◌≡◌, ◌∙◌, sym, ap, refl, arith, ℕ, zero, suc, ◌+◌, ◌≤◌, Bool, true, false, cond, List, [], ◌∷◌, map, length, None, Some, is_lt, slice_get}
use Rattle.std.proofs.lemmas.Option.{none-some, same_Some}
use Rattle.std.proofs.lemmas.Cmp.{nat_cmp_total, on_total}
use Rattle.std.proofs.lemmas.List.{length-map}
use Rattle.std.specs.List.{enumerate_from, filter}
use Rattle.std.specs.Ordering.{nat_cmp}
use Rattle.std.specs.declared.cmp.Ordering.{Ordering}
use Rattle.def_effect.specs.Block.{deleted_change, inserted_change, rows_met, updated_change, updated_row}
use Rattle.wh_base.specs.Lists.{put_in_order, sort_onto, sorted_by}
use Rattle.wh_base.specs.Tables.{Places, Row, live_rows, places_of, rowid_cmp, table_at}
use Rattle.wh_base.specs.declared.queries.RawCondition.{RawCondition}
use Rattle.wh_base.specs.declared.statements.SetColumn.{SetColumn}
use Rattle.wh_base.specs.declared.tables.TableDef.{TableDef}
use Rattle.wh_base.specs.declared.values.Value.{Value}
use Rattle.wh_dml.specs.Picking.{deleted_of, inserts_from, is_picked, picked_cmp, picked_from, picks, rows_picked, updates_from}
use Rattle.wh_dml.specs.declared.picking.Picked.{Picked}
use Rattle.wh_dml.proofs.Stable.{filter-sorted}
use Rattle.wh_dml.specs.Changes.{change_of}
use Rattle.wh_dml.specs.Changing.{filter_of, passes, row_set}
use Rattle.wh_dml.specs.declared.filter.Filter.{Filter}
use Rattle.wh_dml.specs.declared.set_list.SetList.{SetList}
use Rattle.wh_table.specs.Kept.{tables_at}
use Rattle.wh_table.specs.Stored.{Stored, base_seen, last_scn, live_count, places_at, plain_row, rows_living, seen}
use Rattle.wh_table.proofs.Seen.{laws_hold}

-- ---- tables by number

pub table_is : (at : ℕ) (tables : List Stored) (n : ℕ) (s : Stored) → slice_get tables n ≡ Some s → table_at (base_seen at tables) n ≡ seen at s
table_is at [] n s e = absurd (none-some s e)
table_is at (t ∷ tables) zero s e = ap (seen at) (same_Some t s e)
table_is at (t ∷ tables) (suc n) s e = table_is at tables n s e

pub places_are : (at : ℕ) (tables : List Stored) (n : ℕ) (s : Stored) → slice_get tables n ≡ Some s → places_of (tables_at at tables) n ≡ places_at at s
places_are at [] n s e = absurd (none-some s e)
places_are at (t ∷ tables) zero s e = ap (places_at at) (same_Some t s e)
places_are at (t ∷ tables) (suc n) s e = places_are at tables n s e

-- ---- a map of what is in order

module _ {A B : Type 0} (f : A → B) (cmp : A → A → Ordering) (order : B → B → Ordering) (same : (x y : A) → order (f x) (f y) ≡ cmp x y) where
  map_put : (x : A) (ys : List A) → map f (put_in_order cmp x ys) ≡ put_in_order order (f x) (map f ys)
  map_put x [] = refl
  map_put x (y ∷ ys) = by (is_lt (cmp x y)) (map_put x ys) ∙ sym (ap (λ o. cond (is_lt o) (f x ∷ f y ∷ map f ys) (f y ∷ put_in_order order (f x) (map f ys))) (same x y))
    where
      by : (b : Bool) → map f (put_in_order cmp x ys) ≡ put_in_order order (f x) (map f ys)
          → map f (cond b (x ∷ y ∷ ys) (y ∷ put_in_order cmp x ys)) ≡ cond b (f x ∷ f y ∷ map f ys) (f y ∷ put_in_order order (f x) (map f ys))
      by true rest = refl
      by false rest = ap (λ zs. f y ∷ zs) rest

  map_onto : (done xs : List A) → map f (sort_onto cmp done xs) ≡ sort_onto order (map f done) (map f xs)
  map_onto done [] = refl
  map_onto done (x ∷ xs) = map_onto (put_in_order cmp x done) xs ∙ ap (λ zs. sort_onto order zs (map f xs)) (map_put x done)

  map_sorted : (xs : List A) → map f (sorted_by cmp xs) ≡ sorted_by order (map f xs)
  map_sorted xs = map_onto [] xs

-- ---- rows

-- the row as the definitions have it
abbrev pub row_of : Picked → Row
row_of p = record { rowid = p.rowid; values = p.row.values }

abbrev row_cmp : Row → Row → Ordering
row_cmp a b = nat_cmp a.rowid b.rowid

rows_from : (from : ℕ) (ps : Places) → map row_of (picked_from from ps) ≡ map plain_row (live_rows ps)
rows_from from [] = refl
rows_from from (None ∷ ps) = rows_from (from + 1) ps
rows_from from (Some r ∷ ps) = ap (λ rows. plain_row r ∷ rows) (rows_from (from + 1) ps)

rows_passed : (f : Filter) (ps : List Picked) → map row_of (picks f ps) ≡ filter (λ r. passes f r.values) (map row_of ps)
rows_passed f [] = refl
rows_passed f (p ∷ ps) = by (is_picked f p) (rows_passed f ps)
  where
    by : (b : Bool) → map row_of (picks f ps) ≡ filter (λ r. passes f r.values) (map row_of ps)
        → map row_of (cond b (p ∷ picks f ps) (picks f ps)) ≡ cond b (row_of p ∷ filter (λ r. passes f r.values) (map row_of ps)) (filter (λ r. passes f r.values) (map row_of ps))
    by true rest = ap (λ rows. row_of p ∷ rows) rest
    by false rest = rest

-- the rows that pass are those of the table of the definitions
pub picked_are : (f : Filter) (s : Stored) (at : ℕ) → map row_of (rows_picked f (places_at at s)) ≡ filter (λ r. passes f r.values) (seen at s).rows
picked_are f s at =
    let all : List Picked = picked_from 0 (places_at at s) in
    let ordered : map row_of (sorted_by picked_cmp all) ≡ (seen at s).rows =
    map_sorted row_of picked_cmp row_cmp (λ p q. refl) all
    ∙ ap (sorted_by row_cmp) (rows_from 0 (places_at at s))
    ∙ sym (map_sorted plain_row rowid_cmp row_cmp (λ a b. refl) (rows_living at s)) in
    ap (map row_of) (sym (filter-sorted picked_cmp (on_total (λ p. p.rowid) nat_cmp_total) (is_picked f) all))
    ∙ rows_passed f (sorted_by picked_cmp all)
    ∙ ap (filter (λ r. passes f r.values)) ordered

pub met_are : (n : ℕ) (conditions : List RawCondition) (s : Stored) (at : ℕ) → map row_of (rows_picked (filter_of n s.def conditions) (places_at at s)) ≡ rows_met n (seen at s) conditions
met_are n conditions s at = picked_are (filter_of n s.def conditions) s at

-- ---- how many

length_put : {A : Type 0} (cmp : A → A → Ordering) (x : A) (ys : List A) → length (put_in_order cmp x ys) ≡ suc (length ys)
length_put cmp x [] = refl
length_put cmp x (y ∷ ys) = by (is_lt (cmp x y)) (length_put cmp x ys)
  where
    by : (b : Bool) → length (put_in_order cmp x ys) ≡ suc (length ys) → length (cond b (x ∷ y ∷ ys) (y ∷ put_in_order cmp x ys)) ≡ suc (suc (length ys))
    by true h = refl
    by false h = ap suc h

length_onto : {A : Type 0} (cmp : A → A → Ordering) (done xs : List A) → length (sort_onto cmp done xs) ≡ length xs + length done
length_onto cmp done [] = omega arith
length_onto cmp done (x ∷ xs) = omega (arith, length_onto cmp (put_in_order cmp x done) xs, length_put cmp x done)

-- as many rows are there as live
pub rows_count : (s : Stored) (at : ℕ) → last_scn s.versions ≤ at → length (seen at s).rows ≡ live_count s
rows_count s at h = length-map (sort_onto rowid_cmp [] (rows_living at s)) plain_row ∙ omega (arith, length_onto rowid_cmp [] (rows_living at s), laws_hold.settles s at h)

-- ---- changes

pub deletes_are : (ps : List Picked) → map change_of (map deleted_of ps) ≡ map deleted_change (map row_of ps)
deletes_are [] = refl
deletes_are (p ∷ ps) = ap (λ cs. deleted_change (row_of p) ∷ cs) (deletes_are ps)

pub updates_are : (d : TableDef) (list : List SetColumn) (sets : SetList) (place : ℕ) (ps : List Picked) → ((old : List Value) → row_set sets old ≡ updated_row d list old)
    → map change_of (updates_from sets place ps) ≡ map (updated_change d list) (map row_of ps)
updates_are d list sets place [] is = refl
updates_are d list sets place (p ∷ ps) is =
    (λ i. (record { rowid = p.rowid; old = Some p.row.values; new = Some (is p.row.values i) }) ∷ updates_are d list sets (place + 1) ps is i)

pub inserts_are : (rowid place : ℕ) (rows : List (List Value)) → map change_of (inserts_from rowid place rows) ≡ map inserted_change (enumerate_from rowid rows)
inserts_are rowid place [] = refl
inserts_are rowid place (vs ∷ rows) = ap (λ cs. inserted_change (rowid, vs) ∷ cs) (inserts_are (rowid + 1) (place + 1) rows)
