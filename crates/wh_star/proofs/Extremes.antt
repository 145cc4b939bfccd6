-- The least and the greatest value, and what conditions say together, as loops find them.
use Rattle.std.proofs.Common.{◌≡◌, ◌+◌, ◌<◌, ◌≤◌, ℕ, List, ◌∷◌, length, drop, get_or, refl, sym, ap, ◌∙◌}
use Rattle.std.proofs.Math.ListN.{drop_of_length-le}
use Rattle.std.proofs.lemmas.List.{drop_more}
use Rattle.std.specs.List.{filter}
use Rattle.wh_base.specs.declared.columns.ColRef.{ColRef}
use Rattle.wh_base.specs.declared.queries.Condition.{Condition}
use Rattle.wh_base.specs.declared.values.Value.{Value}
use Rattle.wh_base.specs.declared.values.Value.TheVariants.{Null}
use Rattle.def_meaning.proofs.Merging.{either_greater_assoc, either_lesser_assoc}
use Rattle.def_meaning.specs.Meaning.{either_value, greater, lesser, max_value, min_value, not_null}
use Rattle.def_meaning.specs.Ranges.{both_ranges, range_of, ranges_of, whole_range}

-- NULL gives way to any value
null_first : (better : Value → Value → Value) (w : Value) → either_value better w Null ≡ w
null_first better Null = refl
null_first better w = refl

-- the values that aren't NULL, from one more on
min_on : (v w : Value) (vs : List Value) → either_value lesser (either_value lesser v w) (min_value (filter not_null vs)) ≡ either_value lesser v (min_value (filter not_null (w ∷ vs)))
min_on v Null vs = ap (λ x. either_value lesser x (min_value (filter not_null vs))) (null_first lesser v)
min_on v w vs = either_lesser_assoc v w (min_value (filter not_null vs))

max_on : (v w : Value) (vs : List Value) → either_value greater (either_value greater v w) (max_value (filter not_null vs)) ≡ either_value greater v (max_value (filter not_null (w ∷ vs)))
max_on v Null vs = ap (λ x. either_value greater x (max_value (filter not_null vs))) (null_first greater v)
max_on v w vs = either_greater_assoc v w (max_value (filter not_null vs))

pub min-more : (v : Value) (vs : List Value) (at : ℕ) (d : Value) → at < length vs → either_value lesser (either_value lesser v (get_or vs at d)) (min_value (filter not_null (drop (at + 1) vs))) ≡ either_value lesser v (min_value (filter not_null (drop at vs)))
min-more v vs at d h = min_on v (get_or vs at d) (drop (at + 1) vs) ∙ ap (λ ws. either_value lesser v (min_value (filter not_null ws))) (sym (drop_more vs at d h))

pub max-more : (v : Value) (vs : List Value) (at : ℕ) (d : Value) → at < length vs → either_value greater (either_value greater v (get_or vs at d)) (max_value (filter not_null (drop (at + 1) vs))) ≡ either_value greater v (max_value (filter not_null (drop at vs)))
max-more v vs at d h = max_on v (get_or vs at d) (drop (at + 1) vs) ∙ ap (λ ws. either_value greater v (max_value (filter not_null ws))) (sym (drop_more vs at d h))

pub min-done : (v : Value) (vs : List Value) (at : ℕ) → length vs ≤ at → either_value lesser v (min_value (filter not_null (drop at vs))) ≡ v
min-done v vs at h = rw (drop_of_length-le vs h) (null_first lesser v)

pub max-done : (v : Value) (vs : List Value) (at : ℕ) → length vs ≤ at → either_value greater v (max_value (filter not_null (drop at vs))) ≡ v
max-done v vs at h = rw (drop_of_length-le vs h) (null_first greater v)

pub ruleset extremes = (min-more, max-more, min-done, max-done)

pub ranges-more : (columns : List ColRef) (cs : List Condition) (at n : ℕ) (d : Condition) → n ≡ at + 1 → at < length cs → ranges_of columns (drop at cs) ≡ both_ranges (range_of columns (get_or cs at d)) (ranges_of columns (drop n cs))
ranges-more columns cs at n d e h = rw (e, drop_more cs at d h) refl

pub ranges-done : (columns : List ColRef) (cs : List Condition) (at : ℕ) → length cs ≤ at → ranges_of columns (drop at cs) ≡ whole_range
ranges-done columns cs at h = rw (drop_of_length-le cs h) refl

pub ruleset conditions = (ranges-more, ranges-done)
