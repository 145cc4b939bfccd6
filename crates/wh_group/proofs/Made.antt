-- The entries that are made of what is kept are those of the groups.
use Rattle.std.proofs.Common.{◌≡◌, ◌∙◌, sym, ap, refl, arith, ℕ, zero, suc, ◌+◌, Bool, true, false, ◌&&◌, cond, List, [], ◌∷◌, ◌++◌, length, map, drop, slice_get, Option, Some, None}
use Rattle.std.specs.Prelude.{flat_map, nat_lt, not, position}
use Rattle.std.specs.List.{filter, list_all, position_or_len}
use Rattle.std.proofs.lemmas.Bool.Decides.{nat_tests}
use Rattle.std.proofs.lemmas.List.{map-append, length-map, drop_at}
use Rattle.wh_base.specs.Columns.{same_column}
use Rattle.wh_base.specs.Lists.{option_case}
use Rattle.wh_base.specs.Tables.{value_at}
use Rattle.wh_base.specs.Values.{is_true_that}
use Rattle.wh_base.specs.declared.columns.Agg.{Agg}
use Rattle.wh_base.specs.declared.columns.Agg.TheVariants.{Avg, Count, CountAll, Max, Min, Sum}
use Rattle.wh_base.specs.declared.columns.ColRef.{ColRef}
use Rattle.wh_base.specs.declared.queries.Acc.{Acc}
use Rattle.wh_base.specs.declared.queries.Item.{Item}
use Rattle.wh_base.specs.declared.queries.Item.TheVariants as item
use Rattle.wh_base.specs.declared.queries.StarQuery.{StarQuery}
use Rattle.wh_base.specs.declared.queries.Test.{Test}
use Rattle.wh_base.specs.declared.values.Value.{Value}
use Rattle.wh_base.specs.declared.values.Value.TheVariants.{Null}
use Rattle.def_meaning.specs.Accumulated.{acc_of, acc_value, item_aggs, query_aggs, selected_aggs}
use Rattle.def_meaning.specs.Meaning.{Grouped, agg_value, group_entry, group_item, grouped_entries, groups, key_value, test_true}
use Rattle.def_meaning.proofs.Accumulating.{agg_value-acc}
use Rattle.wh_group.specs.Entries.{items_row, kept_entries, kept_entry, passes, tests_true, value_beside}
use Rattle.wh_group.specs.Tallies.{kept, kept_groups, tally_by, tally_value}
use Rattle.wh_group.specs.declared.tally.Tally.{Tally}

-- ---- columns

nothing : (o : Option ℕ) → Null ≡ option_case o Null (value_at [])
nothing None = refl
nothing (Some zero) = refl
nothing (Some (suc n)) = refl

at_front : (n : ℕ) → nat_lt 0 (suc n) ≡ true
at_front n = grind (arith, nat_tests)

one_less : (m n : ℕ) → nat_lt (1 + m) (suc n) ≡ nat_lt m n
one_less m n = grind (arith, nat_tests)

module _ (v : Value) (vs : List Value) (m n : ℕ) where
  abbrev found : Bool → Value
  found b = option_case (cond (nat_lt (cond (not b) (1 + m) 0) (suc n)) (Some (cond (not b) (1 + m) 0)) None) Null (value_at (v ∷ vs))

  found_here : v ≡ found true
  found_here = ap (λ b. option_case (cond b (Some 0) None) Null (value_at (v ∷ vs))) (sym (at_front n))

  found_later : option_case (cond (nat_lt m n) (Some m) None) Null (value_at vs) ≡ found false
  found_later = by (nat_lt m n) ∙ ap (λ b. option_case (cond b (Some (1 + m)) None) Null (value_at (v ∷ vs))) (sym (one_less m n))
    where
      by : (b : Bool) → option_case (cond b (Some m) None) Null (value_at vs) ≡ option_case (cond b (Some (1 + m)) None) Null (value_at (v ∷ vs))
      by true = let next : suc m ≡ 1 + m = omega arith in ap (value_at (v ∷ vs)) next
      by false = refl

-- the value beside the column in the key is that of the definition
pub beside-is : (keys : List ColRef) (key : List Value) (c : ColRef) → value_beside keys key c ≡ key_value keys key c
beside-is [] key c = refl
beside-is (k ∷ ks) [] c = nothing (position (same_column c) (k ∷ ks))
beside-is (k ∷ ks) (v ∷ vs) c = by (same_column c k) (beside-is ks vs c)
  where
    by : (b : Bool) → value_beside ks vs c ≡ key_value ks vs c → cond b v (value_beside ks vs c) ≡ found v vs (position_or_len (same_column c) ks) (length ks) b
    by true h = found_here v vs (position_or_len (same_column c) ks) (length ks)
    by false h = h ∙ found_later v vs (position_or_len (same_column c) ks) (length ks)

-- ---- aggregates

value_by : (a : Agg) (x : Acc) → tally_value a (tally_by a x) ≡ acc_value a x
value_by CountAll x = refl
value_by (Count e) x = refl
value_by (Sum e) x = refl
value_by (Avg e) x = refl
value_by (Min e) x = refl
value_by (Max e) x = refl

-- what stands in front of the rest of a list
in_front : {A : Type 0} (xs : List A) (at : ℕ) (x : A) (rest : List A) → drop at xs ≡ x ∷ rest → (slice_get xs at ≡ Some x) × (drop (at + 1) xs ≡ rest)
in_front [] zero x rest h = cc
in_front [] (suc at) x rest h = cc
in_front (y ∷ ys) zero x rest h = (cc, cc)
in_front (y ∷ ys) (suc at) x rest h =
    let parts = in_front ys at x rest h in
    let next : suc (at + 1) ≡ suc at + 1 = omega arith in
    (parts.0, ap (λ n. drop n (y ∷ ys)) (sym next) ∙ parts.1)

module _ {T : Type 0} (value : T → ColRef → Value) (keys : List ColRef) (g : Grouped T) where
  abbrev tally_of : Agg → Tally
  tally_of a = tally_by a (acc_of value g.1 a)

  value_kept : (a : Agg) → tally_value a (tally_of a) ≡ agg_value value g.1 a
  value_kept a = value_by a (acc_of value g.1 a) ∙ sym (agg_value-acc value g.1 a)

  row_kept : (ts : List Tally) (at : ℕ) (items : List Item) (more : List Agg) → drop at ts ≡ map tally_of (flat_map item_aggs items ++ more) → items_row keys g.0 ts at items ≡ map (group_item value keys g) items
  row_kept ts at [] more h = refl
  row_kept ts at (item.Col c ∷ items) more h = λ i. beside-is keys g.0 c i ∷ row_kept ts at items more h i
  row_kept ts at (item.Agg a ∷ items) more h =
      let parts = in_front ts at (tally_of a) (map tally_of (flat_map item_aggs items ++ more)) h in
      λ i. (ap (λ o. option_case o Null (tally_value a)) parts.0 ∙ value_kept a) i ∷ row_kept ts (at + 1) items more parts.1 i

  tests_kept : (tests : List Test) → tests_true tests (map tally_of (map (λ t. t.agg) tests)) ≡ list_all (test_true value g) tests
  tests_kept [] = refl
  tests_kept (test ∷ more) = λ i. is_true_that (value_kept test.agg i) test.op test.value && tests_kept more i

module _ {T : Type 0} (value : T → ColRef → Value) (q : StarQuery) where
  entry_kept : (g : Grouped T) → kept_entry q (kept value (query_aggs q) g) ≡ group_entry value q g
  entry_kept g = λ i. record { key = g.0; row = row_kept value q.keys g (map (λ a. tally_by a (acc_of value g.1 a)) (query_aggs q)) 0 q.items (map (λ t. t.agg) q.having) refl i }

  passes_kept : (g : Grouped T) → passes q (kept value (query_aggs q) g) ≡ list_all (test_true value g) q.having
  passes_kept g =
      let f : Agg → Tally = λ a. tally_by a (acc_of value g.1 a) in
      let tests : List Agg = map (λ t. t.agg) q.having in
      let size : length (map f (selected_aggs q)) ≡ length (selected_aggs q) = length-map (selected_aggs q) f in
      ap (λ ts. tests_true q.having (drop (length (selected_aggs q)) ts)) (map-append f (selected_aggs q) tests)
      ∙ ap (tests_true q.having) (drop_at (map f (selected_aggs q)) (map f tests) (length (selected_aggs q)) size)
      ∙ tests_kept value q.keys g q.having

  filtered : (gs : List (Grouped T)) → kept_entries q (map (kept value (query_aggs q)) gs) ≡ map (group_entry value q) (filter (λ g. list_all (test_true value g) q.having) gs)
  filtered [] = refl
  filtered (g ∷ gs) =
      ap (λ b. map (kept_entry q) (cond b (kept value (query_aggs q) g ∷ filter (passes q) (map (kept value (query_aggs q)) gs)) (filter (passes q) (map (kept value (query_aggs q)) gs)))) (passes_kept g)
      ∙ by (list_all (test_true value g) q.having) (filtered gs)
    where
      by : (b : Bool)
          → kept_entries q (map (kept value (query_aggs q)) gs) ≡ map (group_entry value q) (filter (λ g. list_all (test_true value g) q.having) gs)
          → map (kept_entry q) (cond b (kept value (query_aggs q) g ∷ filter (passes q) (map (kept value (query_aggs q)) gs)) (filter (passes q) (map (kept value (query_aggs q)) gs)))
          ≡ map (group_entry value q) (cond b (g ∷ filter (λ g. list_all (test_true value g) q.having) gs) (filter (λ g. list_all (test_true value g) q.having) gs))
      by true same = λ i. entry_kept g i ∷ same i
      by false same = same

  pub entries-kept : (ts : List T) → kept_entries q (kept_groups value q ts) ≡ grouped_entries value q ts
  entries-kept ts = filtered (groups value q.keys ts)
