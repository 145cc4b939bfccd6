-- Columns, items and tests beside what is kept, place by place.
use Rattle.std.proofs.Common.{◌≡◌, ◌∙◌, sym, ap, refl, arith, ℕ, zero, suc, ◌+◌, ◌<◌, ◌≤◌, true, false, ◌&&◌, cond, List, [], ◌∷◌, ◌++◌, length, map, drop, get_or, min}
use Rattle.std.specs.Prelude.{flat_map}
use Rattle.std.specs.List.{filter}
use Rattle.std.proofs.Math.ListN.{drop_of_length-le}
use Rattle.std.proofs.lemmas.List.{append_assoc, append-nil, drop_more}
use Rattle.wh_base.specs.Columns.{same_column}
use Rattle.wh_base.specs.Values.{is_true_that}
use Rattle.wh_base.specs.declared.columns.ColRef.{ColRef}
use Rattle.wh_base.specs.declared.queries.Item.{Item}
use Rattle.wh_base.specs.declared.queries.Item.TheVariants as item
use Rattle.wh_base.specs.declared.queries.StarQuery.{StarQuery}
use Rattle.wh_base.specs.declared.queries.Test.{Test}
use Rattle.wh_base.specs.declared.values.Value.{Value}
use Rattle.wh_base.specs.declared.values.Value.TheVariants.{Null}
use Rattle.wh_base.specs.declared.views.ViewEntry.{ViewEntry}
use Rattle.def_meaning.specs.Accumulated.{item_aggs}
use Rattle.wh_group.specs.Entries.{item_value, items_row, kept_entries, kept_entry, kept_rows, next_place, passes, tests_true, value_beside}
use Rattle.wh_group.specs.Tallies.{Kept, tally_value}
use Rattle.wh_group.specs.declared.tally.Tally.{Tally}

-- ---- columns

beside_at : (ks : List ColRef) (vs : List Value) (c d : ColRef) (v : Value) (at : ℕ) → at < length ks → at < length vs
    → value_beside (drop at ks) (drop at vs) c ≡ cond (same_column c (get_or ks at d)) (get_or vs at v) (value_beside (drop (at + 1) ks) (drop (at + 1) vs) c)
beside_at ks vs c d v at h k = rw (drop_more ks at d h, drop_more vs at v k) refl

pub beside-here : (ks : List ColRef) (vs : List Value) (c d : ColRef) (v : Value) (at : ℕ) → at < length ks → at < length vs → same_column c (get_or ks at d) ≡ true
    → value_beside (drop at ks) (drop at vs) c ≡ get_or vs at v
beside-here ks vs c d v at h k e = beside_at ks vs c d v at h k ∙ ap (λ b. cond b (get_or vs at v) (value_beside (drop (at + 1) ks) (drop (at + 1) vs) c)) e

pub beside-later : (ks : List ColRef) (vs : List Value) (c d : ColRef) (at : ℕ) → at < length ks → at < length vs → same_column c (get_or ks at d) ≡ false
    → value_beside (drop (at + 1) ks) (drop (at + 1) vs) c ≡ value_beside (drop at ks) (drop at vs) c
beside-later ks vs c d at h k e = sym (beside_at ks vs c d Null at h k ∙ ap (λ b. cond b (get_or vs at Null) (value_beside (drop (at + 1) ks) (drop (at + 1) vs) c)) e)

pub beside-no-columns : (ks : List ColRef) (vs : List Value) (c : ColRef) (at : ℕ) → length ks ≤ at → value_beside (drop at ks) vs c ≡ Null
beside-no-columns ks vs c at h = rw (drop_of_length-le ks h) refl

no_values : (ks : List ColRef) (c : ColRef) → value_beside ks [] c ≡ Null
no_values [] c = refl
no_values (k ∷ ks) c = refl

pub beside-no-values : (ks : List ColRef) (vs : List Value) (c : ColRef) (at : ℕ) → length vs ≤ at → value_beside ks (drop at vs) c ≡ Null
beside-no-values ks vs c at h = rw (drop_of_length-le vs h) (no_values ks c)

pub ruleset besides = (beside-here, beside-later, beside-no-columns, beside-no-values)

-- ---- items

pub row-next : (keys : List ColRef) (key : List Value) (ts : List Tally) (at : ℕ) (items : List Item) (i : ℕ) (d : Item) (done : List Value) → i < length items
    → (done ++ item_value keys key ts at (get_or items i d) ∷ []) ++ items_row keys key ts (next_place at (get_or items i d)) (drop (i + 1) items) ≡ done ++ items_row keys key ts at (drop i items)
row-next keys key ts at items i d done h =
    append_assoc done (item_value keys key ts at (get_or items i d) ∷ []) (items_row keys key ts (next_place at (get_or items i d)) (drop (i + 1) items))
    ∙ ap (λ more. done ++ items_row keys key ts at more) (sym (drop_more items i d h))

pub row-end : (keys : List ColRef) (key : List Value) (ts : List Tally) (at : ℕ) (items : List Item) (i : ℕ) (done : List Value) → length items ≤ i
    → done ++ items_row keys key ts at (drop i items) ≡ done
row-end keys key ts at items i done h = ap (λ more. done ++ items_row keys key ts at more) (drop_of_length-le items h) ∙ append-nil done

pub next-within : (at : ℕ) (i : Item) → next_place at i ≤ at + 1
next-within at (item.Col c) = omega arith
next-within at (item.Agg a) = omega arith

pub ruleset rows = (row-next, row-end, next-within)

count_one : (n : ℕ) (i : Item) (more : List Item) → next_place n i + length (flat_map item_aggs more) ≡ n + length (flat_map item_aggs (i ∷ more))
count_one n (item.Col c) more = refl
count_one n (item.Agg a) more = omega arith

pub count-next : (n : ℕ) (items : List Item) (i : ℕ) (d : Item) → i < length items → next_place n (get_or items i d) + length (flat_map item_aggs (drop (i + 1) items)) ≡ n + length (flat_map item_aggs (drop i items))
count-next n items i d h = count_one n (get_or items i d) (drop (i + 1) items) ∙ ap (λ more. n + length (flat_map item_aggs more)) (sym (drop_more items i d h))

pub ruleset counts = (count-next, next-within)

-- ---- tests

tests_at : (tests : List Test) (ts : List Tally) (d : Test) (t : Tally) (at : ℕ) → at < length tests → at < length ts
    → tests_true (drop at tests) (drop at ts) ≡ (is_true_that (tally_value (get_or tests at d).agg (get_or ts at t)) (get_or tests at d).op (get_or tests at d).value && tests_true (drop (at + 1) tests) (drop (at + 1) ts))
tests_at tests ts d t at h k = rw (drop_more tests at d h, drop_more ts at t k) refl

pub test-fails : (tests : List Test) (ts : List Tally) (d : Test) (t : Tally) (at : ℕ) → at < length tests → at < length ts
    → is_true_that (tally_value (get_or tests at d).agg (get_or ts at t)) (get_or tests at d).op (get_or tests at d).value ≡ false → tests_true (drop at tests) (drop at ts) ≡ false
test-fails tests ts d t at h k e = tests_at tests ts d t at h k ∙ ap (λ b. b && tests_true (drop (at + 1) tests) (drop (at + 1) ts)) e

pub test-holds : (tests : List Test) (ts : List Tally) (d : Test) (t : Tally) (at : ℕ) → at < length tests → at < length ts
    → is_true_that (tally_value (get_or tests at d).agg (get_or ts at t)) (get_or tests at d).op (get_or tests at d).value ≡ true → tests_true (drop (at + 1) tests) (drop (at + 1) ts) ≡ tests_true (drop at tests) (drop at ts)
test-holds tests ts d t at h k e = sym (tests_at tests ts d t at h k ∙ ap (λ b. b && tests_true (drop (at + 1) tests) (drop (at + 1) ts)) e)

pub tests-end : (tests : List Test) (ts : List Tally) (at : ℕ) → length tests ≤ at → tests_true (drop at tests) ts ≡ true
tests-end tests ts at h = rw (drop_of_length-le tests h) refl

pub tests-missing : (tests : List Test) (ts : List Tally) (at : ℕ) (d : Test) → at < length tests → length ts ≤ at → tests_true (drop at tests) (drop at ts) ≡ false
tests-missing tests ts at d h k = rw (drop_more tests at d h, drop_of_length-le ts k) refl

pub ruleset tests = (test-fails, test-holds, tests-end, tests-missing)

drop_nothing : (n : ℕ) (ts : List Tally) → ts ≡ [] → drop n ts ≡ []
drop_nothing n ts h = drop_of_length-le ts (omega (arith, ap length h))

pub drop-part : (n : ℕ) (ts : List Tally) → drop (min n (length ts)) ts ≡ drop n ts
drop-part zero ts = let none : min zero (length ts) ≡ zero = omega arith in ap (λ k. drop k ts) none
drop-part (suc n) [] = drop_nothing (min (suc n) 0) [] refl
drop-part (suc n) (t ∷ ts) = let less : min (suc n) (suc (length ts)) ≡ suc (min n (length ts)) = omega arith in ap (λ k. drop k (t ∷ ts)) less ∙ drop-part n ts

pub ruleset parts = (drop-part)

-- ---- groups

abbrev row_by : StarQuery → Kept → List Value
row_by q g = items_row q.keys g.0 g.1 0 q.items

pub passing : (q : StarQuery) (key : List Value) (ts : List Tally) (more : List Kept) (done : List ViewEntry) → passes q (key, ts) ≡ true
    → (done ++ kept_entry q (key, ts) ∷ []) ++ kept_entries q more ≡ done ++ kept_entries q ((key, ts) ∷ more)
passing q key ts more done e =
    append_assoc done (kept_entry q (key, ts) ∷ []) (kept_entries q more)
    ∙ sym (ap (λ b. done ++ map (kept_entry q) (cond b ((key, ts) ∷ filter (passes q) more) (filter (passes q) more))) e)

pub left-out : (q : StarQuery) (key : List Value) (ts : List Tally) (more : List Kept) → passes q (key, ts) ≡ false → kept_entries q more ≡ kept_entries q ((key, ts) ∷ more)
left-out q key ts more e = sym (ap (λ b. map (kept_entry q) (cond b ((key, ts) ∷ filter (passes q) more) (filter (passes q) more))) e)

pub ruleset listed = (passing, left-out)

pub row-passing : (q : StarQuery) (key : List Value) (ts : List Tally) (more : List Kept) (done : List (List Value)) → passes q (key, ts) ≡ true
    → (done ++ items_row q.keys key ts 0 q.items ∷ []) ++ kept_rows q more ≡ done ++ kept_rows q ((key, ts) ∷ more)
row-passing q key ts more done e =
    append_assoc done (items_row q.keys key ts 0 q.items ∷ []) (kept_rows q more)
    ∙ sym (ap (λ b. done ++ map (row_by q) (cond b ((key, ts) ∷ filter (passes q) more) (filter (passes q) more))) e)

pub row-left_out : (q : StarQuery) (key : List Value) (ts : List Tally) (more : List Kept) → passes q (key, ts) ≡ false → kept_rows q more ≡ kept_rows q ((key, ts) ∷ more)
row-left_out q key ts more e = sym (ap (λ b. map (row_by q) (cond b ((key, ts) ∷ filter (passes q) more) (filter (passes q) more))) e)

-- the rows alone are those of the entries
pub rows-kept : (q : StarQuery) (groups : List Kept) → kept_rows q groups ≡ map (λ e. e.row) (kept_entries q groups)
rows-kept q groups = rows_each (filter (passes q) groups)
  where
    rows_each : (gs : List Kept) → map (row_by q) gs ≡ map (λ (e : ViewEntry). e.row) (map (kept_entry q) gs)
    rows_each [] = refl
    rows_each (g ∷ gs) = ap (λ rs. row_by q g ∷ rs) (rows_each gs)

pub ruleset rows_listed = (row-passing, row-left_out)
