-- What an INSERT asks is what the definition says: its values, put in declared order.
use Rattle.std.proofs.Common.{◌≡◌, ◌∙◌, sym, ap, refl, arith, ℕ, zero, suc, ◌+◌, Bool, true, false, cond, List, [], ◌∷◌, length, map, Option, Some, None, ◌==◌, slice_get}
use Rattle.std.specs.List.{find, position_from}
use Rattle.std.specs.Prelude.{Ok, unwrap_or, zip}
use Rattle.std.proofs.lemmas.Bool.Decides.{nat_tests}
use Rattle.std.proofs.lemmas.List.{length-map}
use Rattle.def_effect.specs.Block.{Asks, full_row, given_row_refusal, insert_asks, insert_changes, placed_value, repeated_column, wrong_number}
use Rattle.wh_base.specs.Lists.{count_from, first_of, first_some, option_case, or_refuse, unless, ◌>>=◌}
use Rattle.wh_base.specs.Tables.{Base, def_at, defs_of, table_at}
use Rattle.wh_base.specs.Values.{given_value}
use Rattle.wh_base.specs.declared.replies.Refusal.{Refusal}
use Rattle.wh_base.specs.declared.replies.Refusal.TheVariants.{NoSuchObject}
use Rattle.wh_base.specs.declared.statements.InsertRows.{InsertRows}
use Rattle.wh_base.specs.declared.tables.TableDef.{TableDef}
use Rattle.wh_base.specs.declared.values.Literal.{Literal}
use Rattle.wh_base.specs.declared.values.Value.{Value}
use Rattle.wh_base.specs.declared.values.Value.TheVariants.{Null}
use Rattle.wh_dml.specs.Asking.{asked_from, asked_of, given_rows, insert_refusal, number_in, place_in, places_in, rows_asked, sourced, sourced_row, sources, unknown_in}
use Rattle.wh_dml.specs.declared.asks.Asked.{Asked}

-- ---- a row

-- the value at the place of a column is the one that is found for it
found_value : (all : List (Option Literal)) (c at : ℕ) (places : List ℕ) (row : List (Option Literal)) → length places ≡ length row → ((i : ℕ) → slice_get all (at + i) ≡ slice_get row i)
    → sourced all (position_from (λ p. p == c) at places) ≡ placed_value (zip places (map given_value row)) c
found_value all c at [] row same is = refl
found_value all c at (p ∷ ps) [] same is = absurd (omega (arith, same))
found_value all c at (p ∷ ps) (l ∷ ls) same is =
    by (p == c) (found_value all c (at + 1) ps ls (omega (arith, same)) (λ i. ap (slice_get all) (one_more i) ∙ is (suc i)))
  where
    one_more : (i : ℕ) → (at + 1) + i ≡ at + suc i
    one_more i = omega arith

    here : slice_get all at ≡ Some l
    here = ap (slice_get all) (omega arith) ∙ is 0

    by : (b : Bool) → sourced all (position_from (λ p. p == c) (at + 1) ps) ≡ placed_value (zip ps (map given_value ls)) c
        → sourced all (cond b (Some at) (position_from (λ p. p == c) (at + 1) ps)) ≡ option_case (cond b (Some (p, given_value l)) (find (λ q. q.0 == c) (zip ps (map given_value ls)))) Null (λ q. q.1)
    by true h = ap (λ (o : Option (Option Literal)). given_value (unwrap_or o None)) here
    by false h = h

values_along : (places : List ℕ) (row : List (Option Literal)) (cs : List ℕ) → length places ≡ length row
    → map (sourced row) (map (λ c. position_from (λ p. p == c) 0 places) cs) ≡ map (placed_value (zip places (map given_value row))) cs
values_along places row [] same = refl
values_along places row (c ∷ cs) same =
    (λ i. found_value row c 0 places row same (λ j. ap (slice_get row) (omega arith)) i ∷ values_along places row cs same i)

row_is : (d : TableDef) (places : List ℕ) (row : List (Option Literal)) → length places ≡ length row → sourced_row (sources d places) row ≡ full_row d (zip places (map given_value row))
row_is d places row same = values_along places row (count_from 0 (length d.columns)) same

-- ---- all rows

pub first_none : (o : Option Refusal) (os : List (Option Refusal)) → first_some (o ∷ os) ≡ None → (o ≡ None) × (first_some os ≡ None)
first_none None os h = (refl, h)
first_none (Some r) os h = cc

right_number : (d : TableDef) (places : List ℕ) (vs : List Value) → given_row_refusal d places vs ≡ None → length places ≡ length vs
right_number d places vs h = by (length places == length vs) refl
  where
    by : (b : Bool) → (length places == length vs) ≡ b → length places ≡ length vs
    by true e = grind (arith, nat_tests)
    by false e =
        let wrong = (first_none (wrong_number d places vs) _ h).0 in
        absurd (some_none (rw e at wrong))
      where
        some_none : {A : Type 0} {x : A} → Some x ≡ None → ⊥
        some_none e = cc

rows_are : (d : TableDef) (places : List ℕ) (rows : List (List (Option Literal))) → first_of (given_row_refusal d places) (map (map given_value) rows) ≡ None
    → map (sourced_row (sources d places)) rows ≡ map (λ r. full_row d (zip places r)) (map (map given_value) rows)
rows_are d places [] h = refl
rows_are d places (r ∷ rs) h =
    let both = first_none (given_row_refusal d places (map given_value r)) (map (given_row_refusal d places) (map (map given_value) rs)) h in
    let same : length places ≡ length r = right_number d places (map given_value r) both.0 ∙ length-map r given_value in
    (λ i. row_is d places r same i ∷ rows_are d places rs both.1 i)

-- ---- the whole step

def_is : (base : Base) (n : ℕ) → def_at (defs_of base) n ≡ (table_at base n).def
def_is [] n = refl
def_is (t ∷ base) zero = refl
def_is (t ∷ base) (suc n) = def_is base n

-- the changes that are asked of a base state
abbrev pub asks_of : Base → Asked → Asks
asks_of base a = record { table = a.table; changes = insert_changes (table_at base a.table) a.rows; scanned = 0 }

abbrev of_table : Base → ℕ → List (List Value) → Asks
of_table base n rows = record { table = n; changes = insert_changes (table_at base n) rows; scanned = 0 }

-- the definition's rows, by its own first refusal
abbrev definition_rows : TableDef → InsertRows → List (List Value)
definition_rows d s = map (λ r. full_row d (zip (places_in d s.columns) r)) (given_rows s)

third_none : (o p q : Option Refusal) → first_some (o ∷ p ∷ q ∷ []) ≡ None → q ≡ None
third_none o p q h = let later = (first_none p (q ∷ []) (first_none o (p ∷ q ∷ []) h).1).1 in (first_none q [] later).0

by_table : (base : Base) (n : ℕ) (d : TableDef) (s : InsertRows) (o : Option Refusal) → insert_refusal d (places_in d s.columns) s ≡ o
    → unless (insert_refusal d (places_in d s.columns) s) (of_table base n (definition_rows d s)) ≡ (rows_asked d s >>= (λ rows. Ok (record { table = n; rows = rows }))) >>= (λ a. Ok (asks_of base a))
by_table base n d s (Some r) e = rw e refl
by_table base n d s None e =
    let none = third_none (unknown_in d (unwrap_or s.columns [])) (repeated_column (unwrap_or s.columns [])) (first_of (given_row_refusal d (places_in d s.columns)) (given_rows s)) e in
    let rows = rows_are d (places_in d s.columns) s.rows none in
    ap (λ (p : Option Refusal). unless p (of_table base n (definition_rows d s))) e
    ∙ ap (λ rs. Ok (of_table base n rs)) (sym rows)
    ∙ sym (ap (λ (p : Option Refusal). (unless p (map (sourced_row (sources d (places_in d s.columns))) s.rows) >>= (λ rows. Ok (record { table = n; rows = rows }))) >>= (λ a. Ok (asks_of base a))) e)

-- by the number of its table
by_number : (base : Base) (s : InsertRows) (o : Option ℕ)
    → or_refuse o (NoSuchObject s.table) >>= (λ n. unless (insert_refusal (table_at base n).def (places_in (table_at base n).def s.columns) s) (of_table base n (definition_rows (table_at base n).def s)))
    ≡ (or_refuse o (NoSuchObject s.table) >>= asked_of (defs_of base) s) >>= (λ a. Ok (asks_of base a))
by_number base s None = refl
by_number base s (Some n) =
    by_table base n (table_at base n).def s (insert_refusal (table_at base n).def (places_in (table_at base n).def s.columns) s) refl
    ∙ ap (λ d. (rows_asked d s >>= (λ rows. Ok (record { table = n; rows = rows }))) >>= (λ a. Ok (asks_of base a))) (sym (def_is base n))

pub asks_is : (base : Base) (s : InsertRows) → insert_asks base s ≡ asked_from (defs_of base) s >>= (λ a. Ok (asks_of base a))
unfolding number_in place_in
asks_is base s = by_number base s (number_in (defs_of base) s.table)
