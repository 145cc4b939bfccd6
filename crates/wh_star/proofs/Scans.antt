-- The rows at the places of a table, from one place on.
use Rattle.std.proofs.Common.{◌≡◌, ◌∙◌, ◌+◌, ◌<◌, ◌≤◌, ℕ, zero, suc, Bool, true, false, cond, List, [], ◌∷◌, ◌++◌, Option, Some, None, length, drop, get_or, refl, arith, sym, ap, append_assoc, length-append}
use Rattle.std.proofs.Math.ListN.{drop_of_length-le}
use Rattle.std.proofs.lemmas.List.{append-nil, drop_more}
use Rattle.std.proofs.lemmas.List.Elements.{filter-append}
use Rattle.std.proofs.lemmas.Option.{slice_get-get_or}
use Rattle.std.specs.Option.{option_to_list}
use Rattle.std.specs.Prelude.{IfSome, IsSome, IsTrue, unwrap_or, ◌↔◌}
use Rattle.wh_base.specs.Lists.{has_number, option_case}
use Rattle.wh_base.specs.Tables.{Places, live_rows, place_of, places_of}
use Rattle.wh_base.specs.declared.tables.RowAt.{RowAt}
use Rattle.wh_base.specs.declared.values.Value.{Value}
use Rattle.wh_star.specs.Lookups.{is_read, rows_in}

-- ---- the row at one place

pub row-dead : (lives : Bool) (numbers : Option (List ℕ)) (o : Option RowAt) → (IsTrue lives ↔ IsSome o) → lives ≡ false → [] ≡ rows_in numbers (option_to_list o)
row-dead lives numbers None same dead = refl
row-dead true numbers (Some r) same dead = cc
row-dead false numbers (Some r) same dead = cc (same.1 refl)

pub row-unread : (mark : ℕ) (numbers : Option (List ℕ)) (o : Option RowAt) → IfSome o (λ r. mark ≡ r.mark) → option_case numbers true (λ ns. has_number ns mark) ≡ false → [] ≡ rows_in numbers (option_to_list o)
row-unread mark numbers None same unread = refl
row-unread mark numbers (Some r) same unread =
    let test : is_read numbers r ≡ false = ap (λ m. option_case numbers true (λ ns. has_number ns m)) (sym same) ∙ unread in
    sym (ap (λ b. cond b (r ∷ []) []) test)

pub row-whole :
    (lives : Bool) (numbers : Option (List ℕ)) (o : Option RowAt) (rowid mark : ℕ) (values : List Value)
    → (IsTrue lives ↔ IsSome o) → lives ≡ true → IfSome o (λ r. mark ≡ r.mark) → IfSome o (λ r. rowid ≡ r.rowid) → IfSome o (λ r. values ≡ r.values)
    → option_case numbers true (λ ns. has_number ns mark) ≡ true
    → record { rowid = rowid; mark = mark; values = values } ∷ [] ≡ rows_in numbers (option_to_list o)
row-whole true numbers None rowid mark values same alive m i v read = cc (same.0 refl)
row-whole false numbers None rowid mark values same alive m i v read = cc
row-whole lives numbers (Some r) rowid mark values same alive m i v read =
    let test : is_read numbers r ≡ true = ap (λ n. option_case numbers true (λ ns. has_number ns n)) (sym m) ∙ read in
    let whole : record { rowid = rowid; mark = mark; values = values } ≡ r = λ k. record { rowid = i k; mark = m k; values = v k } in
    ap (λ x. x ∷ []) whole ∙ sym (ap (λ b. cond b (r ∷ []) []) test)

pub ruleset places = (row-dead, row-unread, row-whole)

-- ---- the rows from a place on

live_head : (o : Option RowAt) (ps : Places) → live_rows (o ∷ ps) ≡ option_to_list o ++ live_rows ps
live_head None ps = refl
live_head (Some r) ps = refl

pub rows-more :
    (numbers : Option (List ℕ)) (tables : List Places) (table place : ℕ) → place < length (places_of tables table)
    → rows_in numbers (live_rows (drop place (places_of tables table)))
    ≡ rows_in numbers (option_to_list (place_of tables table place)) ++ rows_in numbers (live_rows (drop (place + 1) (places_of tables table)))
rows-more numbers tables table place h =
    let ps : Places = places_of tables table in
    let here : place_of tables table place ≡ get_or ps place None = ap (λ o. unwrap_or o None) (slice_get-get_or ps place None h) in
    ap (λ qs. rows_in numbers (live_rows qs)) (drop_more ps place None h)
    ∙ ap (rows_in numbers) (live_head (get_or ps place None) (drop (place + 1) ps))
    ∙ filter-append (is_read numbers) (option_to_list (get_or ps place None)) (live_rows (drop (place + 1) ps))
    ∙ ap (λ o. rows_in numbers (option_to_list o) ++ rows_in numbers (live_rows (drop (place + 1) ps))) (sym here)

pub rows-done : (numbers : Option (List ℕ)) (ps : Places) (place : ℕ) → length ps ≤ place → rows_in numbers (live_rows (drop place ps)) ≡ []
rows-done numbers ps place h = rw (drop_of_length-le ps h) refl

-- no more rows than live
pub rows_in-few : (numbers : Option (List ℕ)) (rows : List RowAt) → length (rows_in numbers rows) ≤ length rows
rows_in-few numbers [] = omega arith
rows_in-few numbers (r ∷ rs) = by (is_read numbers r) (rows_in-few numbers rs)
  where
    by : (b : Bool) → length (rows_in numbers rs) ≤ length rs → length (cond b (r ∷ rows_in numbers rs) (rows_in numbers rs)) ≤ suc (length rs)
    by true h = omega (arith, h)
    by false h = omega (arith, h)

-- what is found so far is no longer than all, with one more row too
pub so_far : {A : Type 0} (found rest all : List A) (n : ℕ) → found ++ rest ≡ all → length all ≤ n → length found ≤ n
so_far found rest all n e h = omega (arith, length-append found rest, ap length e, h)

pub one_further : {A : Type 0} (found rest one more all : List A) → found ++ rest ≡ all → rest ≡ one ++ more → length found + length one ≤ length all
one_further found rest one more all e f = omega (arith, length-append found rest, ap length e, length-append one more, ap length f)

pub ruleset scanning = (rows-more, rows-done, rows_in-few, append_assoc, append-nil)
