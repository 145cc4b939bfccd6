-- Sums, counts, least and greatest values of lists with the same elements, and of the parts of a list.
use Rattle.std.proofs.Common.{◌≡◌, ◌∙◌, sym, ap, refl, suc, Bool, true, false, cond, List, [], ◌∷◌, ◌++◌, map, length}
use Rattle.std.specs.Prelude.{ℤ, pos, ◌+ℤ◌}
use Rattle.std.specs.List.{filter, flat_map}
use Rattle.std.proofs.Math.IntN.{+ℤ_assoc, +ℤ_idl, +ℤ_comm}
use Rattle.std.proofs.lemmas.List.{length-append}
use Rattle.std.specs.Ordering.{is_gt, is_lt}
use Rattle.std.specs.declared.cmp.Ordering.{Ordering}
use Rattle.std.specs.declared.cmp.Ordering.TheVariants.{Less, Equal, Greater}
use Rattle.wh_base.specs.Lists.{put_in_order, sort_onto}
use Rattle.wh_base.specs.Values.{value_cmp}
use Rattle.wh_base.specs.ValueLaws.{value_total, value_exact}
use Rattle.wh_base.proofs.Sorting.{SameCounts, sorted_same}
use Rattle.wh_base.specs.declared.values.Value.{Value}
use Rattle.wh_base.specs.declared.values.Value.TheVariants.{Null, Num}
use Rattle.def_meaning.specs.Meaning.{lesser, greater, either_value, min_value, max_value, total_of, number_of, sum_value, avg_value, count_value, not_null}
use Rattle.def_meaning.specs.Accumulated.{sum_by_count, average_by}
use Rattle.def_meaning.proofs.Merging.{either_lesser, either_lesser_assoc, either_greater_assoc, either_null, min-append, max-append, total-append, after_turns, before_turns}
use Rattle.def_meaning.proofs.Accumulating.{sum_kept, average_kept}

-- ---- a fold whose steps may change places

module _ {B : Type 0} (F : List Value → B) (step : Value → B → B) (is : (v : Value) (vs : List Value) → F (v ∷ vs) ≡ step v (F vs)) (swap : (v w : Value) (b : B) → step v (step w b) ≡ step w (step v b)) where
  steps : List Value → B → B
  steps [] b = b
  steps (v ∷ vs) b = steps vs (step v b)

  step_later : (v : Value) (vs : List Value) (b : B) → steps vs (step v b) ≡ step v (steps vs b)
  unfolding steps
  step_later v [] b = refl
  step_later v (w ∷ vs) b = ap (steps vs) (swap w v b) ∙ step_later v vs (step w b)

  folded : (vs : List Value) → F vs ≡ steps vs (F [])
  unfolding steps
  folded [] = refl
  folded (v ∷ vs) = is v vs ∙ ap (step v) (folded vs) ∙ sym (step_later v vs (F []))

  put_folded : (v : Value) (vs : List Value) → F (put_in_order value_cmp v vs) ≡ step v (F vs)
  put_folded v [] = is v []
  put_folded v (w ∷ vs) = by (is_lt (value_cmp v w)) (put_folded v vs)
    where
      by : (b : Bool) → F (put_in_order value_cmp v vs) ≡ step v (F vs) → F (cond b (v ∷ w ∷ vs) (w ∷ put_in_order value_cmp v vs)) ≡ step v (F (w ∷ vs))
      by true h = is v (w ∷ vs)
      by false h = is w (put_in_order value_cmp v vs) ∙ ap (step w) h ∙ swap w v (F vs) ∙ ap (step v) (sym (is w vs))

  sort_folded : (done vs : List Value) → F (sort_onto value_cmp done vs) ≡ steps vs (F done)
  unfolding steps
  sort_folded done [] = refl
  sort_folded done (v ∷ vs) = sort_folded (put_in_order value_cmp v done) vs ∙ ap (steps vs) (put_folded v done)

  pub fold_same : (vs ws : List Value) → SameCounts vs ws → F vs ≡ F ws
  fold_same vs ws h =
      folded vs ∙ sym (sort_folded [] vs)
      ∙ ap F (sorted_same value_cmp value_total value_exact vs ws h)
      ∙ sort_folded [] ws ∙ sym (folded ws)

-- ---- the folds of the definitions

pub swap_sum : (a b c : ℤ) → a +ℤ (b +ℤ c) ≡ b +ℤ (a +ℤ c)
swap_sum a b c = sym (+ℤ_assoc a b c) ∙ ap (λ n. n +ℤ c) (+ℤ_comm a b) ∙ +ℤ_assoc b a c

pub total_same : (vs ws : List Value) → SameCounts vs ws → total_of vs ≡ total_of ws
total_same vs ws h = fold_same total_of (λ v n. number_of v +ℤ n) (λ v us. refl) (λ v w n. swap_sum (number_of v) (number_of w) n) vs ws h

pub length_same : (vs ws : List Value) → SameCounts vs ws → length vs ≡ length ws
length_same vs ws h = fold_same length (λ v n. suc n) (λ v us. refl) (λ v w n. refl) vs ws h

pub sum_same : (vs ws : List Value) → SameCounts vs ws → sum_value vs ≡ sum_value ws
sum_same vs ws h = sum_kept vs ∙ (λ i. sum_by_count (length_same vs ws h i) (total_same vs ws h i)) ∙ sym (sum_kept ws)

pub average_same : (vs ws : List Value) → SameCounts vs ws → avg_value vs ≡ avg_value ws
average_same vs ws h = average_kept vs ∙ (λ i. average_by (length_same vs ws h i) (total_same vs ws h i)) ∙ sym (average_kept ws)

lesser_comm : (v w : Value) → lesser v w ≡ lesser w v
lesser_comm v w = by (value_cmp v w) refl
  where
    by : (o : Ordering) → value_cmp v w ≡ o → cond (is_gt o) w v ≡ lesser w v
    by Less e = sym (ap (λ p. cond (is_gt p) v w) (before_turns v w e))
    by Equal e = value_exact v w e ∙ by_same (is_gt (value_cmp w v))
      where
        by_same : (b : Bool) → w ≡ cond b v w
        by_same true = sym (value_exact v w e)
        by_same false = refl
    by Greater e = sym (ap (λ p. cond (is_gt p) v w) (after_turns v w e))

greater_comm : (v w : Value) → greater v w ≡ greater w v
greater_comm v w = by (value_cmp v w) refl
  where
    by : (o : Ordering) → value_cmp v w ≡ o → cond (is_lt o) w v ≡ greater w v
    by Less e = sym (ap (λ p. cond (is_lt p) v w) (before_turns v w e))
    by Equal e = value_exact v w e ∙ by_same (is_lt (value_cmp w v))
      where
        by_same : (b : Bool) → w ≡ cond b v w
        by_same true = sym (value_exact v w e)
        by_same false = refl
    by Greater e = sym (ap (λ p. cond (is_lt p) v w) (after_turns v w e))

either_greater_comm : (v w : Value) → either_value greater v w ≡ either_value greater w v
either_greater_comm Null w = sym (either_null w)
either_greater_comm v Null = either_null v
either_greater_comm v w = greater_comm v w

either_lesser_comm : (v w : Value) → either_value lesser v w ≡ either_value lesser w v
either_lesser_comm v w = either_lesser v w ∙ lesser_comm v w ∙ sym (either_lesser w v)

pub min_same : (vs ws : List Value) → SameCounts vs ws → min_value vs ≡ min_value ws
min_same vs ws h =
    fold_same min_value (either_value lesser) (λ v us. refl)
    (λ v w u. sym (either_lesser_assoc v w u) ∙ ap (λ x. either_value lesser x u) (either_lesser_comm v w) ∙ either_lesser_assoc w v u) vs ws h

pub max_same : (vs ws : List Value) → SameCounts vs ws → max_value vs ≡ max_value ws
max_same vs ws h =
    fold_same max_value (either_value greater) (λ v us. refl)
    (λ v w u. sym (either_greater_assoc v w u) ∙ ap (λ x. either_value greater x u) (either_greater_comm v w) ∙ either_greater_assoc w v u) vs ws h

-- ---- the folds of the parts

module _ {G : Type 0} (part : G → List Value) where
  abbrev pub all_of : List G → List Value
  all_of gs = flat_map part gs

  abbrev pub each_of : (List Value → Value) → List G → List Value
  each_of f gs = filter not_null (map (λ g. f (part g)) gs)

  pub total_parts : (gs : List G) → total_of (each_of sum_value gs) ≡ total_of (all_of gs)
  total_parts [] = refl
  total_parts (g ∷ gs) = by (part g) (total_parts gs) ∙ sym (total-append (part g) (all_of gs))
    where
      by : (vs : List Value) → total_of (each_of sum_value gs) ≡ total_of (all_of gs) → total_of (cond (not_null (sum_value vs)) (sum_value vs ∷ each_of sum_value gs) (each_of sum_value gs)) ≡ total_of vs +ℤ total_of (all_of gs)
      by [] h = h ∙ sym (+ℤ_idl (total_of (all_of gs)))
      by (v ∷ vs) h = ap (λ n. total_of (v ∷ vs) +ℤ n) h

  pub sum_parts : (gs : List G) → sum_value (each_of sum_value gs) ≡ sum_value (all_of gs)
  sum_parts [] = refl
  sum_parts (g ∷ gs) = by (part g) (sum_parts gs)
    where
      by : (vs : List Value) → sum_value (each_of sum_value gs) ≡ sum_value (all_of gs) → sum_value (cond (not_null (sum_value vs)) (sum_value vs ∷ each_of sum_value gs) (each_of sum_value gs)) ≡ sum_value (vs ++ all_of gs)
      by [] h = h
      by (v ∷ vs) h = ap Num (ap (λ n. total_of (v ∷ vs) +ℤ n) (total_parts gs) ∙ sym (total-append (v ∷ vs) (all_of gs)))

  pub count_parts : (gs : List G) → total_of (each_of count_value gs) ≡ pos (length (all_of gs))
  count_parts [] = refl
  count_parts (g ∷ gs) = ap (λ n. pos (length (part g)) +ℤ n) (count_parts gs) ∙ ap pos (sym (length-append (part g) (all_of gs)))

  pub min_parts : (gs : List G) → min_value (each_of min_value gs) ≡ min_value (all_of gs)
  min_parts [] = refl
  min_parts (g ∷ gs) = by (min_value (part g)) ∙ ap (either_value lesser (min_value (part g))) (min_parts gs) ∙ sym (min-append (part g) (all_of gs))
    where
      by : (v : Value) → min_value (cond (not_null v) (v ∷ each_of min_value gs) (each_of min_value gs)) ≡ either_value lesser v (min_value (each_of min_value gs))
      by Null = refl
      by v = refl

  pub max_parts : (gs : List G) → max_value (each_of max_value gs) ≡ max_value (all_of gs)
  max_parts [] = refl
  max_parts (g ∷ gs) = by (max_value (part g)) ∙ ap (either_value greater (max_value (part g))) (max_parts gs) ∙ sym (max-append (part g) (all_of gs))
    where
      by : (v : Value) → max_value (cond (not_null v) (v ∷ each_of max_value gs) (each_of max_value gs)) ≡ either_value greater v (max_value (each_of max_value gs))
      by Null = refl
      by v = refl
