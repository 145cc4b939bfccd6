-- The union of intervals has a value exactly where one of them has it, and its intervals ascend and are apart.
use Rattle.std.proofs.Common.{◌≡◌, ◌∙◌, sym, ap, refl, Bool, true, false, cond, List, [], ◌∷◌}
use Rattle.std.proofs.Math.Bool.{or-false, or-true, or_assoc}
use Rattle.std.specs.List.{list_any}
use Rattle.std.specs.Prelude.{Option, None, Some, ◌&&◌, ◌||◌}
use Rattle.std.specs.Cmp.{IsTotalOrder}
use Rattle.std.specs.Cmp.Lexicographic.{options_total}
use Rattle.std.specs.Ordering.{is_ge, is_lt}
use Rattle.std.specs.declared.cmp.Ordering.{Ordering}
use Rattle.std.specs.declared.cmp.Ordering.TheVariants.{Less, Equal, Greater}
use Rattle.std.proofs.lemmas.Cmp.{on_total}
use Rattle.wh_base.specs.Lists.{option_case, put_in_order, sort_onto, sorted_by}
use Rattle.wh_base.specs.Values.{interval_has, value_cmp}
use Rattle.wh_base.specs.declared.values.Interval.{Interval}
use Rattle.wh_base.specs.declared.values.Value.{Value}
use Rattle.wh_base.proofs.Sorting.{Ascends, NoneBelow, sorted_ascends}
use Rattle.wh_base.specs.ValueLaws.{value_total}
use Rattle.def_meaning.proofs.Merging.{at_least_trans, is_less}
use Rattle.def_restrictions.specs.Intervals.{greater_hi, interval_cmp, lo_cmp, merged, merged_from, reaches, union_of}

-- ---- bounds

-- a value is above a lower bound, and below an upper one
abbrev pub above_lo : Value → Option Value → Bool
above_lo v lo = option_case lo true (λ w. is_ge (value_cmp v w))

abbrev pub below_hi : Value → Option Value → Bool
below_hi v hi = option_case hi true (λ w. is_lt (value_cmp v w))

not_below : (o : Ordering) → is_lt o ≡ false → is_ge o ≡ true
not_below Less h = cc
not_below Equal h = refl
not_below Greater h = refl

not_above : (o : Ordering) → is_ge o ≡ true → is_lt o ≡ false
not_above Less h = cc
not_above Equal h = refl
not_above Greater h = refl

or_swap : (a b c : Bool) → (a || (b || c)) ≡ (b || (a || c))
or_swap true true c = refl
or_swap true false c = refl
or_swap false true c = refl
or_swap false false c = refl

-- below the greater of two upper bounds is below one of them
below_greater : (v : Value) (h k : Option Value) → below_hi v (greater_hi h k) ≡ (below_hi v h || below_hi v k)
below_greater v None k = refl
below_greater v (Some a) None = sym (or-true (is_lt (value_cmp v a)))
below_greater v (Some a) (Some b) = by (is_lt (value_cmp a b)) refl (is_lt (value_cmp v a)) refl (is_lt (value_cmp v b)) refl
  where
    by :
        (x : Bool) → is_lt (value_cmp a b) ≡ x → (y : Bool) → is_lt (value_cmp v a) ≡ y → (z : Bool) → is_lt (value_cmp v b) ≡ z
        → is_lt (value_cmp v (cond x b a)) ≡ (is_lt (value_cmp v a) || is_lt (value_cmp v b))
    by true e true f z g =
        let less : value_cmp v b ≡ Less = value_total.trans v a b (is_less (value_cmp v a) f) (is_less (value_cmp a b) e) in
        ap is_lt less ∙ sym (ap (λ q. q || is_lt (value_cmp v b)) f)
    by true e false f z g = sym (ap (λ q. q || is_lt (value_cmp v b)) f)
    by false e true f z g = f ∙ sym (ap (λ q. q || is_lt (value_cmp v b)) f)
    by false e false f z g = f ∙ sym (ap (λ q. q || is_lt (value_cmp v b)) f ∙ at_least_trans v a b f e)

-- above the later of two lower bounds is above the earlier
above_earlier : (v : Value) (lo later : Option Value) → is_lt (lo_cmp later lo) ≡ false → above_lo v later ≡ true → above_lo v lo ≡ true
above_earlier v None later h k = refl
above_earlier v (Some a) None h k = cc
above_earlier v (Some a) (Some b) h k = not_below (value_cmp v a) (at_least_trans v b a (not_above (value_cmp v b) k) h)

-- past an upper bound is above each lower bound that it reaches
above_reached : (v : Value) (hi lo : Option Value) → reaches hi lo ≡ true → below_hi v hi ≡ false → above_lo v lo ≡ true
above_reached v None lo h k = cc
above_reached v (Some a) None h k = refl
above_reached v (Some a) (Some b) h k = not_below (value_cmp v b) (at_least_trans v a b k (not_above (value_cmp a b) h))

-- ---- two intervals that overlap or adjoin

one_or_other : (l h m k : Bool) → (m ≡ true → l ≡ true) → (h ≡ false → m ≡ true) → (l && (h || k)) ≡ ((l && h) || (m && k))
one_or_other true true m k e f = refl
one_or_other true false true k e f = refl
one_or_other true false false k e f = absurd_false (f refl)
  where
    absurd_false : false ≡ true → k ≡ false
    absurd_false g = cc
one_or_other false h true k e f = absurd_true (e refl)
  where
    absurd_true : false ≡ true → false ≡ k
    absurd_true g = cc
one_or_other false h false k e f = refl

joined-has :
    (v : Value) (i j : Interval) → is_lt (interval_cmp j i) ≡ false → reaches i.hi j.lo ≡ true
    → interval_has (record { lo = i.lo; hi = greater_hi i.hi j.hi }) v ≡ (interval_has i v || interval_has j v)
joined-has v i j later reached =
    ap (λ b. above_lo v i.lo && b) (below_greater v i.hi j.hi)
    ∙ one_or_other (above_lo v i.lo) (below_hi v i.hi) (above_lo v j.lo) (below_hi v j.hi)
    (above_earlier v i.lo j.lo later) (above_reached v i.hi j.lo reached)

-- ---- the union

abbrev pub any_has : Value → List Interval → Bool
any_has v is = list_any (λ i. interval_has i v) is

merged_from-has :
    (v : Value) (i : Interval) (js : List Interval) → NoneBelow interval_cmp i js → Ascends interval_cmp js
    → any_has v (merged_from i js) ≡ (interval_has i v || any_has v js)
merged_from-has v i [] none up = refl
merged_from-has v i (j ∷ js) none up =
    by (merged_from-has v (record { lo = i.lo; hi = greater_hi i.hi j.hi }) js none.1 up.1) (merged_from-has v j js up.0 up.1) (reaches i.hi j.lo) refl
  where
    wider : Interval
    wider = record { lo = i.lo; hi = greater_hi i.hi j.hi }

    by :
        any_has v (merged_from wider js) ≡ (interval_has wider v || any_has v js) → any_has v (merged_from j js) ≡ (interval_has j v || any_has v js)
        → (b : Bool) → reaches i.hi j.lo ≡ b → any_has v (cond b (merged_from wider js) (i ∷ merged_from j js)) ≡ (interval_has i v || (interval_has j v || any_has v js))
    by joined apart true e =
        joined
        ∙ ap (λ b. b || any_has v js) (joined-has v i j none.0 e)
        ∙ or_assoc (interval_has i v) (interval_has j v) (any_has v js)
    by joined apart false e = ap (λ b. interval_has i v || b) apart

merged-has : (v : Value) (is : List Interval) → Ascends interval_cmp is → any_has v (merged is) ≡ any_has v is
merged-has v [] up = refl
merged-has v (i ∷ is) up = merged_from-has v i is up.0 up.1

put-has : (v : Value) (i : Interval) (is : List Interval) → any_has v (put_in_order interval_cmp i is) ≡ (interval_has i v || any_has v is)
put-has v i [] = refl
put-has v i (j ∷ js) = by (put-has v i js) (is_lt (interval_cmp i j))
  where
    by : any_has v (put_in_order interval_cmp i js) ≡ (interval_has i v || any_has v js) → (b : Bool) → any_has v (cond b (i ∷ j ∷ js) (j ∷ put_in_order interval_cmp i js)) ≡ (interval_has i v || (interval_has j v || any_has v js))
    by rest true = refl
    by rest false = ap (λ b. interval_has j v || b) rest ∙ or_swap (interval_has j v) (interval_has i v) (any_has v js)

sort-has : (v : Value) (done is : List Interval) → any_has v (sort_onto interval_cmp done is) ≡ (any_has v is || any_has v done)
sort-has v done [] = refl
sort-has v done (i ∷ is) =
    sort-has v (put_in_order interval_cmp i done) is
    ∙ ap (λ b. any_has v is || b) (put-has v i done)
    ∙ or_swap (any_has v is) (interval_has i v) (any_has v done)
    ∙ sym (or_assoc (interval_has i v) (any_has v is) (any_has v done))

pub interval_total : IsTotalOrder interval_cmp
interval_total = on_total (λ i. i.lo) (options_total value_total)

-- the union has a value exactly where one of the intervals has it
pub union-has : (v : Value) (is : List Interval) → any_has v (union_of is) ≡ any_has v is
union-has v is =
    merged-has v (sorted_by interval_cmp is) (sorted_ascends interval_cmp interval_total is)
    ∙ sort-has v [] is
    ∙ or-false (any_has v is)

-- ---- the intervals of the union

-- each interval ends below the one after it, with room between them
abbrev pub AreApart : List Interval → Type 0
AreApart [] = Unit {0}
AreApart (i ∷ []) = Unit {0}
AreApart (i ∷ j ∷ js) = (reaches i.hi j.lo ≡ false) × AreApart (j ∷ js)

-- an interval that the first of these doesn't touch may stand before them
before-apart : (j : Interval) (js : List Interval) (i : Interval) → reaches i.hi j.lo ≡ false → AreApart (merged_from j js) → AreApart (i ∷ merged_from j js)
before-apart j [] i e apart = (e, apart)
before-apart j (k ∷ ks) i e apart = by (before-apart (record { lo = j.lo; hi = greater_hi j.hi k.hi }) ks i e) (reaches j.hi k.lo) apart
  where
    wider : Interval
    wider = record { lo = j.lo; hi = greater_hi j.hi k.hi }

    by : (AreApart (merged_from wider ks) → AreApart (i ∷ merged_from wider ks)) → (b : Bool) → AreApart (cond b (merged_from wider ks) (j ∷ merged_from k ks)) → AreApart (i ∷ cond b (merged_from wider ks) (j ∷ merged_from k ks))
    by rest true apart = rest apart
    by rest false apart = (e, apart)

merged_from-apart : (i : Interval) (js : List Interval) → AreApart (merged_from i js)
merged_from-apart i [] = tt
merged_from-apart i (j ∷ js) = by (merged_from-apart (record { lo = i.lo; hi = greater_hi i.hi j.hi }) js) (merged_from-apart j js) (reaches i.hi j.lo) refl
  where
    by : AreApart (merged_from (record { lo = i.lo; hi = greater_hi i.hi j.hi }) js) → AreApart (merged_from j js) → (b : Bool) → reaches i.hi j.lo ≡ b → AreApart (cond b (merged_from (record { lo = i.lo; hi = greater_hi i.hi j.hi }) js) (i ∷ merged_from j js))
    by joined rest true e = joined
    by joined rest false e = before-apart j js i e rest

-- the intervals of the union ascend, and neither overlap nor adjoin
pub union-apart : (is : List Interval) → AreApart (union_of is)
union-apart is = by (sorted_by interval_cmp is)
  where
    by : (js : List Interval) → AreApart (merged js)
    by [] = tt
    by (j ∷ js) = merged_from-apart j js
