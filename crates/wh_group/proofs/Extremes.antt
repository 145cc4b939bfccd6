-- The least and the greatest value, one more at a time.
use Rattle.std.proofs.Common.{◌≡◌, ◌∙◌, ap, refl, true, false, cond}
use Rattle.std.specs.Ordering.{is_gt, is_lt, ordering_reverse}
use Rattle.std.specs.declared.cmp.Ordering.{Ordering}
use Rattle.std.specs.declared.cmp.Ordering.TheVariants.{Less, Equal, Greater}
use Rattle.def_meaning.specs.Meaning.{either_value, greater, lesser}
use Rattle.def_meaning.proofs.Merging.{either_lesser}
use Rattle.wh_base.specs.Values.{value_cmp}
use Rattle.wh_base.specs.ValueLaws.{value_total}
use Rattle.wh_base.specs.declared.values.Value.{Value}
use Rattle.wh_base.specs.declared.values.Value.TheVariants.{Null}
use Rattle.wh_group.specs.Tallies.{is_above}

gt_turned : (o : Ordering) → is_gt (ordering_reverse o) ≡ is_lt o
gt_turned Less = refl
gt_turned Equal = refl
gt_turned Greater = refl

lt_turned : (o : Ordering) → is_lt (ordering_reverse o) ≡ is_gt o
lt_turned Less = refl
lt_turned Equal = refl
lt_turned Greater = refl

lesser_is : (w v : Value) → either_value lesser w v ≡ cond (is_lt (value_cmp v w)) v w
lesser_is w v =
    let turned : is_gt (value_cmp w v) ≡ is_lt (value_cmp v w) = ap is_gt (value_total.antisymm w v) ∙ gt_turned (value_cmp v w) in
    either_lesser w v ∙ ap (λ b. cond b v w) turned

pub lesser-comes : (w v : Value) → is_lt (value_cmp v w) ≡ true → either_value lesser w v ≡ v
lesser-comes w v h = lesser_is w v ∙ ap (λ b. cond b v w) h

pub lesser-stays : (w v : Value) → is_lt (value_cmp v w) ≡ false → either_value lesser w v ≡ w
lesser-stays w v h = lesser_is w v ∙ ap (λ b. cond b v w) h

pub ruleset leasts = (lesser-comes, lesser-stays)

greater_turned : (w v : Value) → greater w v ≡ cond (is_gt (value_cmp v w)) v w
greater_turned w v = ap (λ b. cond b v w) (ap is_lt (value_total.antisymm w v) ∙ lt_turned (value_cmp v w))

greater_is : (w v : Value) → either_value greater w v ≡ cond (is_above w v) v w
greater_is Null Null = refl
greater_is Null v = refl
greater_is w Null = refl
greater_is w v = greater_turned w v

pub greater-comes : (w v : Value) → is_above w v ≡ true → either_value greater w v ≡ v
greater-comes w v h = greater_is w v ∙ ap (λ b. cond b v w) h

pub greater-stays : (w v : Value) → is_above w v ≡ false → either_value greater w v ≡ w
greater-stays w v h = greater_is w v ∙ ap (λ b. cond b v w) h

pub ruleset greatests = (greater-comes, greater-stays)
