-- What changes leave as it is: how many tables and indexes there are, and the indexes of other tables.
use Rattle.std.proofs.Common.{◌≡◌, ◌∙◌, ◌<◌, sym, ap, subst, refl, arith, List, [], ◌∷◌, Some, None, Option, Result, Ok, Err, ℕ, zero, suc, length}
use Rattle.std.proofs.lemmas.Option.{none-some}
use Rattle.std.specs.FinMap as fin
use Rattle.std.specs.Prelude.{map as each}
use Rattle.wh_base.specs.Lists.{◌>>=◌}
use Rattle.wh_base.specs.declared.tables.ForeignDef.{ForeignDef}
use Rattle.wh_base.specs.declared.tables.TableDef.{TableDef}
use Rattle.wh_dml.specs.declared.changes.RowChange.{RowChange}
use Rattle.wh_keyindex.specs.Children.{Values}
use Rattle.wh_keys.specs.Indexes.{Indexes, Places, keys_changed}
use Rattle.wh_keys.specs.Made.{AnswersKeys, all_keys_changed, all_values_changed, also_changed, empty_indexes, indexes_at, keys_made, with_indexes, with_keys_of}

ok_same : {A : Type 0} (x y : A) → ◌≡◌ {A = Result A ℕ} (Ok x) (Ok y) → x ≡ y
ok_same x y e = cc

ok_not_err : {A : Type 0} (x : A) (column : ℕ) → ◌≡◌ {A = Result A ℕ} (Err column) (Ok x) → ⊥
ok_not_err x column e = cc

-- ---- one table

pub length_keys : (columns : List ℕ) (cs : List RowChange) (ms ns : List Places) → length columns ≡ length ms → all_keys_changed columns cs ms ≡ Ok ns → length ns ≡ length ms
length_keys [] cs [] ns as_many is = ap length (sym (ok_same [] ns is))
length_keys [] cs (m ∷ ms) ns as_many is = absurd (omega arith)
length_keys (column ∷ columns) cs [] ns as_many is = absurd (omega arith)
length_keys (column ∷ columns) cs (m ∷ ms) ns as_many is =
    by (keys_changed column cs m) (all_keys_changed columns cs ms) refl is (λ ks rest. length_keys columns cs ms ks (omega arith) rest)
  where
    by : (o : Option Places) (r : Result (List Places) ℕ) → all_keys_changed columns cs ms ≡ r → also_changed column o r ≡ Ok ns
        → ((ks : List Places) → all_keys_changed columns cs ms ≡ Ok ks → length ks ≡ length ms) → length ns ≡ suc (length ms)
    by None r rest e more = absurd (ok_not_err ns column e)
    by (Some k) (Err other) rest e more = absurd (ok_not_err ns other e)
    by (Some k) (Ok ks) rest e more = ap length (sym (ok_same (k ∷ ks) ns e)) ∙ ap suc (more ks rest)

pub length_foreign : (fs : List ForeignDef) (cs : List RowChange) (ms : List Values) → length fs ≡ length ms → length (all_values_changed fs cs ms) ≡ length ms
length_foreign [] cs [] as_many = refl
length_foreign [] cs (m ∷ ms) as_many = absurd (omega arith)
length_foreign (f ∷ fs) cs [] as_many = absurd (omega arith)
length_foreign (f ∷ fs) cs (m ∷ ms) as_many = ap suc (length_foreign fs cs ms (omega arith))

-- ---- all tables

pub length_with : (n : ℕ) (i : Indexes) (all : List Indexes) → length (with_indexes n i all) ≡ length all
length_with n i [] = refl
length_with zero i (j ∷ all) = refl
length_with (suc n) i (j ∷ all) = ap suc (length_with n i all)

pub at_with : (n : ℕ) (i : Indexes) (all : List Indexes) → n < length all → indexes_at (with_indexes n i all) n ≡ i
at_with n i [] low = absurd (omega arith)
at_with zero i (j ∷ all) low = refl
at_with (suc n) i (j ∷ all) low = at_with n i all (omega arith)

-- the indexes of the other tables
pub others_with : (n m : ℕ) (i : Indexes) (all : List Indexes) → (n ≡ m → ⊥) → indexes_at (with_indexes n i all) m ≡ indexes_at all m
others_with n m i [] differ = refl
others_with zero zero i (j ∷ all) differ = absurd (differ refl)
others_with zero (suc m) i (j ∷ all) differ = refl
others_with (suc n) zero i (j ∷ all) differ = refl
others_with (suc n) (suc m) i (j ∷ all) differ = others_with n m i all (λ e. differ (ap suc e))

-- what changes of keys make is with the new indexes of the keys of that table
pub made_as : (n : ℕ) (columns : List ℕ) (cs : List RowChange) (all new : List Indexes) → keys_made n columns cs all ≡ Ok new
    → (ms : List Places) × (all_keys_changed columns cs (indexes_at all n).keys ≡ Ok ms) × (new ≡ with_keys_of n all ms)
made_as n columns cs all new is = by (all_keys_changed columns cs (indexes_at all n).keys) is
  where
    by : (r : Result (List Places) ℕ) → (r >>= (λ ms. Ok (with_keys_of n all ms))) ≡ Ok new → (ms : List Places) × (r ≡ Ok ms) × (new ≡ with_keys_of n all ms)
    by (Ok ms) e = (ms, refl, sym (ok_same (with_keys_of n all ms) new e))
    by (Err column) e = absurd (ok_not_err new column e)

pub tables_stay : (n : ℕ) (columns : List ℕ) (cs : List RowChange) (all new : List Indexes) → keys_made n columns cs all ≡ Ok new → length new ≡ length all
tables_stay n columns cs all new is =
    let made = made_as n columns cs all new is in
    ap length made.2 ∙ length_with n (record { keys = made.0; foreign = (indexes_at all n).foreign }) all

pub foreign_stay : (n : ℕ) (columns : List ℕ) (cs : List RowChange) (all new : List Indexes) → n < length all → keys_made n columns cs all ≡ Ok new
    → (indexes_at new n).foreign ≡ (indexes_at all n).foreign
foreign_stay n columns cs all new low is =
    let made = made_as n columns cs all new is in
    let i : Indexes = record { keys = made.0; foreign = (indexes_at all n).foreign } in
    ap (λ (is : List Indexes). (indexes_at is n).foreign) made.2 ∙ ap (λ (j : Indexes). j.foreign) (at_with n i all low)

pub keys_as_many : (n : ℕ) (columns : List ℕ) (cs : List RowChange) (all new : List Indexes) → n < length all → length columns ≡ length (indexes_at all n).keys → keys_made n columns cs all ≡ Ok new
    → length (indexes_at new n).keys ≡ length (indexes_at all n).keys
keys_as_many n columns cs all new low as_many is =
    let made = made_as n columns cs all new is in
    let i : Indexes = record { keys = made.0; foreign = (indexes_at all n).foreign } in
    ap (λ (is : List Indexes). length (indexes_at is n).keys) made.2 ∙ ap (λ (j : Indexes). length j.keys) (at_with n i all low)
    ∙ length_keys columns cs (indexes_at all n).keys made.0 as_many made.1

pub none_made : (made : Result (List Indexes) ℕ) (clash : Option ℕ) (new : List Indexes) → AnswersKeys made clash new → clash ≡ None → made ≡ Ok new
none_made made None new h is = h
none_made made (Some column) new h is = absurd (none-some column (sym is))

pub ruleset standing = (tables_stay, foreign_stay, keys_as_many)

-- ---- tables without rows

length_each : {A B : Type 0} (y : B) (xs : List A) → length (each (λ _. y) xs) ≡ length xs
length_each y [] = refl
length_each y (x ∷ xs) = ap suc (length_each y xs)

pub begun_keys : (d : TableDef) → length d.keys ≡ length (empty_indexes d).keys
begun_keys d = sym (length_each fin.empty d.keys)

pub begun_foreign : (d : TableDef) → length d.foreign ≡ length (empty_indexes d).foreign
begun_foreign d = sym (length_each fin.empty d.foreign)

pub two_there : (i j : Indexes) (all : List Indexes) → all ≡ i ∷ j ∷ [] → 1 < length all
two_there i j all is = subst (λ (xs : List Indexes). 1 < length xs) (sym is) (omega arith)

pub second_keys : (d : TableDef) (i : Indexes) (all : List Indexes) (columns : List ℕ) → all ≡ i ∷ empty_indexes d ∷ [] → columns ≡ d.keys → length columns ≡ length (indexes_at all 1).keys
second_keys d i all columns is are = ap length are ∙ begun_keys d ∙ ap (λ (xs : List Indexes). length (indexes_at xs 1).keys) (sym is)

pub second_foreign : (d : TableDef) (i : Indexes) (all : List Indexes) (fs : List ForeignDef) → all ≡ i ∷ empty_indexes d ∷ [] → fs ≡ d.foreign → length fs ≡ length (indexes_at all 1).foreign
second_foreign d i all fs is are = ap length are ∙ begun_foreign d ∙ ap (λ (xs : List Indexes). length (indexes_at xs 1).foreign) (sym is)

pub ruleset begun = (two_there, second_keys, second_foreign)
