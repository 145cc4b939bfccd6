-- What is kept of a group after one more thing, and of all groups.
use Rattle.std.proofs.Common.{◌≡◌, ◌∙◌, sym, ap, subst, refl, arith, ℕ, ◌+◌, Bool, true, false, cond, ◌||◌, List, [], ◌∷◌, ◌++◌, length, map}
use Rattle.std.specs.Prelude.{ℤ, ◌+ℤ◌}
use Rattle.std.specs.List.{filter}
use Rattle.std.proofs.Math.IntN.{+ℤ_idr}
use Rattle.std.proofs.lemmas.List.Elements.{filter-append}
use Rattle.std.proofs.lemmas.List.{append-nil, map-append}
use Rattle.wh_base.specs.Lists.{distinct}
use Rattle.wh_base.specs.Values.{is_null, same_values}
use Rattle.wh_base.specs.declared.columns.Agg.{Agg}
use Rattle.wh_base.specs.declared.columns.Agg.TheVariants.{Avg, Count, CountAll, Max, Min, Sum}
use Rattle.wh_base.specs.declared.columns.ColRef.{ColRef}
use Rattle.wh_base.specs.declared.queries.Acc.{Acc}
use Rattle.wh_base.specs.declared.values.Value.{Value}
use Rattle.wh_base.specs.declared.values.Value.TheVariants.{Null}
use Rattle.def_meaning.specs.Accumulated.{acc_by, acc_of, merged_acc}
use Rattle.def_meaning.specs.Meaning.{either_value, expr_value, greater, groups, groups_by, key_of, lesser, max_value, min_value, not_null, number_of, total_of}
use Rattle.def_meaning.proofs.Merging.{acc_of-append}
use Rattle.wh_group.specs.Tallies.{Kept, begun, change_group, counted, kept, sum_with, tallies_with, tally_by, tally_with}
use Rattle.wh_group.specs.declared.tally.Summed.{Summed}
use Rattle.wh_group.specs.declared.tally.Tally.{Tally}
use Rattle.wh_group.specs.declared.tally.Tally.TheVariants as tally
use Rattle.wh_group.proofs.Keys.{Differ, Key, is_key, same, same_itself, distinct-push, distinct_differ, found_distinct, none_of_key}

-- ---- one aggregate

count_more : (n : ℕ) (v : Value) → n + length (filter not_null (v ∷ [])) ≡ cond (is_null v) n (n + 1)
count_more n Null = omega arith
count_more n v = refl

abbrev sum_after : Summed → Value → Summed
sum_after s v = record { count = s.count + length (filter not_null (v ∷ [])); sum = s.sum +ℤ total_of (filter not_null (v ∷ [])) }

abbrev one_after : Summed → ℤ → Summed
one_after s n = record { count = s.count + 1; sum = s.sum +ℤ n }

one_summed : (s : Summed) (v : Value) → one_after s (total_of (v ∷ [])) ≡ one_after s (number_of v)
one_summed s v = λ i. record { count = s.count + 1; sum = s.sum +ℤ (+ℤ_idr (number_of v) i) }

sum_more : (s : Summed) (v : Value) → sum_after s v ≡ sum_with v s
sum_more s Null = let count : s.count + 0 ≡ s.count = omega arith in λ i. record { count = count i; sum = +ℤ_idr s.sum i }
sum_more s v = one_summed s v

least_more : (w v : Value) → either_value lesser w (min_value (filter not_null (v ∷ []))) ≡ either_value lesser w v
least_more w Null = refl
least_more w v = refl

greatest_more : (w v : Value) → either_value greater w (max_value (filter not_null (v ∷ []))) ≡ either_value greater w v
greatest_more w Null = refl
greatest_more w v = refl

module _ {T : Type 0} (value : T → ColRef → Value) where
  one_more : (t : T) (a : Agg) (x : Acc) → tally_by a (merged_acc x (acc_of value (t ∷ []) a)) ≡ tally_with (counted (value t) a) (tally_by a x)
  one_more t CountAll x = refl
  one_more t (Count e) x = ap tally.Values (count_more x.count (expr_value (value t) e))
  one_more t (Sum e) x = ap tally.Sum (sum_more (record { count = x.count; sum = x.sum }) (expr_value (value t) e))
  one_more t (Avg e) x = ap tally.Sum (sum_more (record { count = x.count; sum = x.sum }) (expr_value (value t) e))
  one_more t (Min e) x = ap tally.Least (least_more x.least (expr_value (value t) e))
  one_more t (Max e) x = ap tally.Greatest (greatest_more x.greatest (expr_value (value t) e))

  pub tally-push : (ts : List T) (t : T) (a : Agg) → tally_by a (acc_of value (ts ++ t ∷ []) a) ≡ tally_with (counted (value t) a) (tally_by a (acc_of value ts a))
  tally-push ts t a = ap (tally_by a) (acc_of-append value a ts (t ∷ [])) ∙ one_more t a (acc_of value ts a)

  pub tallies-push : (ts : List T) (t : T) (list : List Agg) → map (λ a. tally_by a (acc_of value (ts ++ t ∷ []) a)) list ≡ tallies_with (counted (value t)) list (map (λ a. tally_by a (acc_of value ts a)) list)
  tallies-push ts t [] = refl
  tallies-push ts t (a ∷ more) = λ i. tally-push ts t a i ∷ tallies-push ts t more i

  none_kept : (a : Agg) → tally_by a (acc_of value [] a) ≡ tally_by a (acc_by 0 [])
  none_kept CountAll = refl
  none_kept (Count e) = refl
  none_kept (Sum e) = refl
  none_kept (Avg e) = refl
  none_kept (Min e) = refl
  none_kept (Max e) = refl

  pub all_none : (list : List Agg) → map (λ a. tally_by a (acc_of value [] a)) list ≡ begun list
  all_none [] = refl
  all_none (a ∷ more) = λ i. none_kept a i ∷ all_none more i

-- ---- groups by a key

module _ {T : Type 0} (value : T → ColRef → Value) (aggs : List Agg) (key : T → Key) where
  abbrev of_key : List T → Key → List T
  of_key us k = filter (λ u. same_values (key u) k) us

  abbrev tallies : List T → List Tally
  tallies us = map (λ a. tally_by a (acc_of value us a)) aggs

  abbrev entry : List T → Key → Kept
  entry us k = (k, tallies (of_key us k))

  fused : (us : List T) (ks : List Key) → map (kept value aggs) (map (λ k. (k, of_key us k)) ks) ≡ map (entry us) ks
  fused us [] = refl
  fused us (k ∷ ks) = λ i. entry us k ∷ fused us ks i

  pub kept_by : (us : List T) → map (kept value aggs) (groups_by key us) ≡ map (entry us) (distinct same_values (map key us))
  kept_by us = fused us (distinct same_values (map key us))

  module _ (ts : List T) (t : T) where
    abbrev step : List Tally → List Tally
    step = tallies_with (counted (value t)) aggs

    abbrev change : List Kept → List Kept
    change = change_group (key t) step (begun aggs)

    abbrev before : Key → Kept
    before = entry ts

    abbrev after : Key → Kept
    after = entry (ts ++ t ∷ [])

    kept-push : (k : Key) → tallies (of_key (ts ++ t ∷ []) k) ≡ cond (same_values (key t) k) (step (tallies (of_key ts k))) (tallies (of_key ts k))
    kept-push k = ap tallies (filter-append (λ u. same_values (key u) k) ts (t ∷ [])) ∙ by (same_values (key t) k)
      where
        by : (b : Bool) → tallies (of_key ts k ++ cond b (t ∷ []) []) ≡ cond b (step (tallies (of_key ts k))) (tallies (of_key ts k))
        by true = tallies-push value (of_key ts k) t aggs
        by false = ap tallies (append-nil (of_key ts k))

    other : (k : Key) → same_values (key t) k ≡ false → after k ≡ before k
    other k h = ap (λ l. (k, l)) (kept-push k ∙ ap (λ b. cond b (step (tallies (of_key ts k))) (tallies (of_key ts k))) h)

    mine : (k : Key) → same_values (key t) k ≡ true → after k ≡ (k, step (tallies (of_key ts k)))
    mine k h = ap (λ l. (k, l)) (kept-push k ∙ ap (λ b. cond b (step (tallies (of_key ts k))) (tallies (of_key ts k))) h)

    others : (ks : List Key) → is_key (key t) ks ≡ false → map after ks ≡ map before ks
    others [] h = refl
    others (k ∷ ks) h = by (same_values (key t) k) refl h (others ks)
      where
        by : (b : Bool) → same_values (key t) k ≡ b → (b || is_key (key t) ks) ≡ false → (is_key (key t) ks ≡ false → map after ks ≡ map before ks) → map after (k ∷ ks) ≡ map before (k ∷ ks)
        by true e g more = cc
        by false e g more = λ j. other k e j ∷ more g j

    -- its group goes on
    goes_on : (ks : List Key) → Differ ks → is_key (key t) ks ≡ true → map after ks ≡ change (map before ks)
    goes_on [] d h = cc
    goes_on (k ∷ ks) d h = by (same_values (key t) k) refl h (goes_on ks d.1)
      where
        by : (b : Bool) → same_values (key t) k ≡ b → (b || is_key (key t) ks) ≡ true
            → (is_key (key t) ks ≡ true → map after ks ≡ change (map before ks))
            → map after (k ∷ ks) ≡ cond b ((k, step (tallies (of_key ts k))) ∷ map before ks) (before k ∷ change (map before ks))
        by true e g more =
            let apart : is_key (key t) ks ≡ false = subst (λ y. is_key y ks ≡ false) (sym (same (key t) k e)) d.0 in
            λ j. mine k e j ∷ others ks apart j
        by false e g more = λ j. other k e j ∷ more g j

    -- or a new one comes last
    comes_last : (ks : List Key) → tallies (of_key ts (key t)) ≡ begun aggs → is_key (key t) ks ≡ false → map after (ks ++ key t ∷ []) ≡ change (map before ks)
    comes_last [] n h = (λ j. mine (key t) (same_itself (key t)) j ∷ []) ∙ ap (λ l. (key t, step l) ∷ []) n
    comes_last (k ∷ ks) n h = by (same_values (key t) k) refl h (comes_last ks n)
      where
        by : (b : Bool) → same_values (key t) k ≡ b → (b || is_key (key t) ks) ≡ false
            → (is_key (key t) ks ≡ false → map after (ks ++ key t ∷ []) ≡ change (map before ks))
            → map after (k ∷ (ks ++ key t ∷ [])) ≡ cond b ((k, step (tallies (of_key ts k))) ∷ map before ks) (before k ∷ change (map before ks))
        by true e g more = cc
        by false e g more = λ j. other k e j ∷ more g j

    -- the groups after one more thing
    entries-push : map after (distinct same_values (map key (ts ++ t ∷ []))) ≡ change (map before (distinct same_values (map key ts)))
    entries-push =
        ap (λ ks. map after (distinct same_values ks)) (map-append key ts (t ∷ []))
        ∙ ap (map after) (distinct-push (key t) (map key ts))
        ∙ by (is_key (key t) (distinct same_values (map key ts))) refl
      where
        by : (b : Bool) → is_key (key t) (distinct same_values (map key ts)) ≡ b
            → map after (cond b (distinct same_values (map key ts)) (distinct same_values (map key ts) ++ key t ∷ [])) ≡ change (map before (distinct same_values (map key ts)))
        by true e = goes_on (distinct same_values (map key ts)) (distinct_differ (map key ts)) e
        by false e =
            let none = none_of_key key (key t) ts (sym (found_distinct (key t) (map key ts)) ∙ e) in
            comes_last (distinct same_values (map key ts)) (ap tallies none ∙ all_none value aggs) e

    pub kept_by-push : map (kept value aggs) (groups_by key (ts ++ t ∷ [])) ≡ change (map (kept value aggs) (groups_by key ts))
    kept_by-push = kept_by (ts ++ t ∷ []) ∙ entries-push ∙ ap change (sym (kept_by ts))

-- ---- groups of a query

module _ {T : Type 0} (value : T → ColRef → Value) (aggs : List Agg) where
  pub groups-push : (keys : List ColRef) (ts : List T) (t : T)
      → map (kept value aggs) (groups value keys (ts ++ t ∷ [])) ≡ change_group (map (value t) keys) (tallies_with (counted (value t)) aggs) (begun aggs) (map (kept value aggs) (groups value keys ts))
  groups-push [] ts t = λ i. ([], tallies-push value ts t aggs i) ∷ []
  groups-push (c ∷ cs) ts t = kept_by-push value aggs (key_of value (c ∷ cs)) ts t

  -- before the first one
  pub groups-none : (c : ColRef) (cs : List ColRef) → map (kept value aggs) (groups value (c ∷ cs) []) ≡ []
  groups-none c cs = refl

  pub groups-single : map (kept value aggs) (groups value [] []) ≡ ([], begun aggs) ∷ []
  groups-single = λ i. ([], all_none value aggs i) ∷ []
