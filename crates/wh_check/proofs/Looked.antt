-- What is found of a table by its number, in the tables and in the base state that they are.
use Rattle.std.proofs.Common.{◌≡◌, ◌∙◌, sym, ap, subst, refl, arith, ℕ, zero, suc, ◌+◌, ◌<◌, ◌≤◌, Bool, true, false, cond, is_lt, List, [], ◌∷◌, length, Some, IfSome, IsTrue, slice_get, not-suc-le-zero, ◌==◌}
use Rattle.std.proofs.lemmas.Option.{none-some, same_Some}
use Rattle.std.proofs.lemmas.Bool.Decides.{nat_tests}
use Rattle.std.proofs.lemmas.List.{length-map}
use Rattle.std.specs.List.{All}
use Rattle.def_effect.specs.Block.{max_rows}
use Rattle.wh_base.specs.Lists.{put_in_order, sort_onto}
use Rattle.wh_base.specs.Tables.{Base, Table, defs_of as base_defs, rowid_cmp, table_at, with_table}
use Rattle.wh_base.specs.declared.tables.RowAt.{RowAt}
use Rattle.wh_dml.specs.Sized.{AreSized}
use Rattle.wh_load.specs.Sized.{is_sized_def}
use Rattle.wh_table.specs.Kept.{defs_of}
use Rattle.wh_table.specs.Stored.{IsStored, Stored, base_seen, last_scn, live_count, plain_row, rows_living, seen}
use Rattle.wh_table.proofs.Counting.{each_from, each_get}
use Rattle.wh_table.proofs.Seen.{laws_hold}

pub get_within : (tables : List Stored) (n : ℕ) → n < length tables → (s : Stored) × (slice_get tables n ≡ Some s)
get_within [] n h = absurd (not-suc-le-zero h)
get_within (s ∷ tables) zero h = (s, refl)
get_within (s ∷ tables) (suc n) h = get_within tables n (omega (arith, h))

pub if_there : (tables : List Stored) (n : ℕ) (s : Stored) (P : Stored → Type 0) → slice_get tables n ≡ Some s → IfSome (slice_get tables n) P → P s
if_there tables n s P e h = subst (λ o. IfSome o P) e h

pub there_if : (tables : List Stored) (n : ℕ) (s : Stored) (P : Stored → Type 0) → slice_get tables n ≡ Some s → P s → IfSome (slice_get tables n) P
there_if tables n s P e h = subst (λ o. IfSome o P) (sym e) h

-- ---- equal numbers

pub zero_suc : (n : ℕ) → (0 == suc n) ≡ false
zero_suc n = grind (arith, nat_tests)

pub suc_zero : (n : ℕ) → (suc n == 0) ≡ false
suc_zero n = grind (arith, nat_tests)

-- ---- in the base state

-- the table with this number in the base state
pub table_seen : (at : ℕ) (tables : List Stored) (n : ℕ) (s : Stored) → slice_get tables n ≡ Some s → table_at (base_seen at tables) n ≡ seen at s
table_seen at [] n s e = absurd (none-some s e)
table_seen at (t ∷ tables) zero s e = ap (seen at) (same_Some t s e)
table_seen at (t ∷ tables) (suc n) s e = table_seen at tables n s e

pub table_in : (base : Base) (n : ℕ) (t : Table) → n < length base → table_at (with_table base n t) n ≡ t
table_in [] n t h = absurd (not-suc-le-zero h)
table_in (u ∷ us) zero t h = refl
table_in (u ∷ us) (suc n) t h = table_in us n t (omega (arith, h))

pub defs_seen : (at : ℕ) (tables : List Stored) → base_defs (base_seen at tables) ≡ defs_of tables
defs_seen at [] = refl
defs_seen at (s ∷ tables) = ap (λ ds. s.def ∷ ds) (defs_seen at tables)

-- ---- how many rows

length_put : (x : RowAt) (ys : List RowAt) → length (put_in_order rowid_cmp x ys) ≡ suc (length ys)
length_put x [] = refl
length_put x (y ∷ ys) = by (is_lt (rowid_cmp x y)) (length_put x ys)
  where
    by : (b : Bool) → length (put_in_order rowid_cmp x ys) ≡ suc (length ys) → length (cond b (x ∷ y ∷ ys) (y ∷ put_in_order rowid_cmp x ys)) ≡ suc (suc (length ys))
    by true h = refl
    by false h = ap suc h

length_sort : (done xs : List RowAt) → length (sort_onto rowid_cmp done xs) ≡ length xs + length done
length_sort done [] = omega arith
length_sort done (x ∷ xs) = omega (arith, length_sort (put_in_order rowid_cmp x done) xs, length_put x done)

-- the rows of the base state are those that live
pub rows_seen : (at : ℕ) (s : Stored) → last_scn s.versions ≤ at → length (seen at s).rows ≡ live_count s
rows_seen at s h = length-map (sort_onto rowid_cmp [] (rows_living at s)) plain_row ∙ omega (arith, length_sort [] (rows_living at s), laws_hold.settles s at h)

pub live_few : (s : Stored) → IsStored s → live_count s ≤ max_rows
live_few s h =
    let few : length (rows_living (last_scn s.versions) s) ≤ max_rows = h.few (last_scn s.versions) in
    let count : length (rows_living (last_scn s.versions) s) ≡ live_count s = laws_hold.settles s (last_scn s.versions) (omega arith) in
    omega (arith, few, count)

-- ---- what holds of each

pub stored_at : (tables : List Stored) (n : ℕ) (s : Stored) → All IsStored tables → slice_get tables n ≡ Some s → IsStored s
stored_at tables n s h e = each_get IsStored tables n s e (each_from IsStored tables h)

pub settled_at : (scn : ℕ) (tables : List Stored) (n : ℕ) (s : Stored) → All (λ s. last_scn s.versions ≤ scn) tables → slice_get tables n ≡ Some s → last_scn s.versions ≤ scn
settled_at scn tables n s h e = each_get (λ s. last_scn s.versions ≤ scn) tables n s e (each_from (λ s. last_scn s.versions ≤ scn) tables h)

pub sized_at : (tables : List Stored) (n : ℕ) (s : Stored) → AreSized tables → slice_get tables n ≡ Some s → IsTrue (is_sized_def s.def)
sized_at tables n s h e = each_get (λ s. IsTrue (is_sized_def s.def)) tables n s e (each_from (λ s. IsTrue (is_sized_def s.def)) tables h.all)

pub ruleset looked = (live_few)
