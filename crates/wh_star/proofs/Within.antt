-- A value of which conditions are true lies within what they say.
use Rattle.std.proofs.Common.{◌≡◌, ◌∙◌, sym, ap, refl, subst, Bool, true, false, cond, not, List, [], ◌∷◌, Option, Some, None, ◌⊎◌, inl, inr}
use Rattle.std.proofs.lemmas.Bool.{and_parts, not-true}
use Rattle.std.specs.List.{filter, list_all, list_any}
use Rattle.std.specs.Ordering.{is_eq, is_ge, is_gt, is_le, is_lt, ordering_reverse}
use Rattle.std.specs.Prelude.{◌&&◌, ◌||◌}
use Rattle.std.specs.declared.cmp.Ordering.{Ordering}
use Rattle.std.specs.declared.cmp.Ordering.TheVariants.{Equal, Greater, Less}
use Rattle.wh_base.specs.Columns.{has_column}
use Rattle.wh_base.specs.Lists.{option_case}
use Rattle.wh_base.specs.ValueLaws.{value_exact, value_total}
use Rattle.wh_base.specs.Values.{interval_has, is_null, is_true_that, op_holds, value_cmp}
use Rattle.wh_base.specs.declared.columns.ColRef.{ColRef}
use Rattle.wh_base.specs.declared.queries.Condition.{Condition}
use Rattle.wh_base.specs.declared.queries.Condition.TheVariants.{Compare, IsNull, NotNull, OneOf}
use Rattle.wh_base.specs.declared.values.Interval.{Interval}
use Rattle.wh_base.specs.declared.values.Op.{Op}
use Rattle.wh_base.specs.declared.values.Op.TheVariants.{Eq, Ge, Gt, Le, Lt, Ne}
use Rattle.wh_base.specs.declared.values.Value.{Value}
use Rattle.wh_base.specs.declared.values.Value.TheVariants.{Null, Ratio}
use Rattle.def_meaning.proofs.Merging.{at_least_trans, at_most_trans, either_lesser, either_null}
use Rattle.def_meaning.specs.Joined.{condition_true, conditions_true}
use Rattle.wh_star.proofs.Spread.{AllHave, has-value}
use Rattle.wh_star.specs.Marked.{is_pair, no_pairs, without_pairs}
use Rattle.def_meaning.specs.Meaning.{either_value, greater, lesser, max_value, min_value, not_null}
use Rattle.def_meaning.specs.Ranges.{Range, above_interval, below_interval, bound_cmp, both_ranges, from_value, greater_bound, lesser_bound, range_misses, range_of, range_of_list, range_of_op, ranges_of, up_to, whole_range}

-- ---- orders

eq-lt : (o : Ordering) → is_eq o ≡ true → is_lt o ≡ false
eq-lt Less h = cc
eq-lt Equal h = refl
eq-lt Greater h = refl

eq-gt : (o : Ordering) → is_eq o ≡ true → is_gt o ≡ false
eq-gt Less h = refl
eq-gt Equal h = refl
eq-gt Greater h = cc

le-gt : (o : Ordering) → is_le o ≡ true → is_gt o ≡ false
le-gt Less h = refl
le-gt Equal h = refl
le-gt Greater h = cc

lt-gt : (o : Ordering) → is_lt o ≡ true → is_gt o ≡ false
lt-gt Less h = refl
lt-gt Equal h = refl
lt-gt Greater h = cc

gt-lt : (o : Ordering) → is_gt o ≡ true → is_lt o ≡ false
gt-lt Less h = cc
gt-lt Equal h = refl
gt-lt Greater h = refl

ge-lt : (o : Ordering) → is_ge o ≡ true → is_lt o ≡ false
ge-lt Less h = cc
ge-lt Equal h = refl
ge-lt Greater h = refl

-- ---- comparisons

pub op-holds : (v w : Value) (op : Op) → is_pair v ≡ false → is_pair w ≡ false → is_true_that v op w ≡ true → op_holds op (value_cmp v w) ≡ true
op-holds Null w op p q h = cc
op-holds v Null op p q h = cc
op-holds (Ratio a) w op p q h = cc
op-holds v (Ratio b) op p q h = cc
op-holds v w op p q h = h

module _ (v : Value) where
  abbrev pub AtLeast : Option Value → Type 0
  AtLeast None = Unit {0}
  AtLeast (Some l) = is_lt (value_cmp v l) ≡ false

  abbrev pub AtMost : Option (Value × Bool) → Type 0
  AtMost None = Unit {0}
  AtMost (Some m) = (is_gt (value_cmp v m.0) ≡ false) × (m.1 ≡ false → is_lt (value_cmp v m.0) ≡ true)

  -- the value lies within the range
  abbrev pub Within : Range → Type 0
  Within r = AtLeast r.least × AtMost r.most

  greater-kept : (a b : Option Value) → AtLeast a → AtLeast b → AtLeast (greater_bound a b)
  greater-kept None b h k = k
  greater-kept (Some x) None h k = h
  greater-kept (Some x) (Some y) h k = by (is_lt (value_cmp x y))
    where
      by : (b : Bool) → is_lt (value_cmp v (cond b y x)) ≡ false
      by true = k
      by false = h

  lesser-kept : (a b : Option (Value × Bool)) → AtMost a → AtMost b → AtMost (lesser_bound a b)
  lesser-kept None b h k = k
  lesser-kept (Some x) None h k = h
  lesser-kept (Some x) (Some y) h k = by (is_lt (bound_cmp x y))
    where
      by : (b : Bool) → AtMost (Some (cond b x y))
      by true = h
      by false = k

  pub both-within : (r s : Range) → Within r → Within s → Within (both_ranges r s)
  both-within r s h k = (greater-kept r.least s.least h.0 k.0, lesser-kept r.most s.most h.1 k.1)

  from-within : (w : Value) → is_lt (value_cmp v w) ≡ false → Within (from_value w)
  from-within w h = by (is_null w)
    where
      by : (b : Bool) → Within (cond b whole_range (record { least = Some w; most = None }))
      by true = (tt, tt)
      by false = (h, tt)

  up-within : (w : Value) (inclusive : Bool) → is_gt (value_cmp v w) ≡ false → (inclusive ≡ false → is_lt (value_cmp v w) ≡ true) → Within (up_to w inclusive)
  up-within w inclusive h k = by (is_null w)
    where
      by : (b : Bool) → Within (cond b whole_range (record { least = None; most = Some (w, inclusive) }))
      by true = (tt, tt)
      by false = (tt, (h, k))

  pub op-within : (op : Op) (w : Value) → op_holds op (value_cmp v w) ≡ true → Within (range_of_op op w)
  op-within Eq w h = both-within (from_value w) (up_to w true) (from-within w (eq-lt (value_cmp v w) h)) (up-within w true (eq-gt (value_cmp v w) h) (λ e. cc))
  op-within Ne w h = (tt, tt)
  op-within Lt w h = up-within w false (lt-gt (value_cmp v w) h) (λ e. h)
  op-within Le w h = up-within w true (le-gt (value_cmp v w) h) (λ e. cc)
  op-within Gt w h = from-within w (gt-lt (value_cmp v w) h)
  op-within Ge w h = from-within w (ge-lt (value_cmp v w) h)

-- ---- lists of values

null-never : (v : Value) (op : Op) → is_true_that v op Null ≡ false
null-never Null op = refl
null-never v op = refl

null-is : (m : Value) → is_null m ≡ true → m ≡ Null
null-is Null h = refl
null-is m h = cc

null-true : (v : Value) (op : Op) (w : Value) → is_true_that v op w ≡ true → is_null w ≡ false
null-true v op Null h = let said : is_true_that v op Null ≡ false = null-never v op in cc
null-true v op w h = refl

either_greater : (w m : Value) → is_null w ≡ false → is_null m ≡ false → either_value greater w m ≡ greater w m
either_greater Null m h k = cc
either_greater w Null h k = cc
either_greater w m h k = refl

equal-is : (v w : Value) → is_pair v ≡ false → is_pair w ≡ false → is_true_that v Eq w ≡ true → v ≡ w
equal-is v w p q h = value_exact v w (by (value_cmp v w) (op-holds v w Eq p q h))
  where
    by : (o : Ordering) → is_eq o ≡ true → o ≡ Equal
    by Less e = cc
    by Equal e = refl
    by Greater e = cc

flip-gt : (a b : Value) → is_gt (value_cmp a b) ≡ false → is_lt (value_cmp b a) ≡ false
flip-gt a b h = ap is_lt (value_total.antisymm b a) ∙ by (value_cmp a b) h
  where
    by : (o : Ordering) → is_gt o ≡ false → is_lt (ordering_reverse o) ≡ false
    by Less e = refl
    by Equal e = refl
    by Greater e = cc

flip-lt : (a b : Value) → is_lt (value_cmp a b) ≡ false → is_gt (value_cmp b a) ≡ false
flip-lt a b h = ap is_gt (value_total.antisymm b a) ∙ by (value_cmp a b) h
  where
    by : (o : Ordering) → is_lt o ≡ false → is_gt (ordering_reverse o) ≡ false
    by Less e = cc
    by Equal e = refl
    by Greater e = refl

itself-lt : (a : Value) → is_lt (value_cmp a a) ≡ false
itself-lt a = by (value_cmp a a) (value_total.antisymm a a)
  where
    by : (o : Ordering) → o ≡ ordering_reverse o → is_lt o ≡ false
    by Less e = cc
    by Equal e = refl
    by Greater e = refl

itself-gt : (a : Value) → is_gt (value_cmp a a) ≡ false
itself-gt a = flip-lt a a (itself-lt a)

-- the lesser of two is at most each, the greater at least each
min-head : (v w m : Value) → v ≡ w → is_lt (value_cmp v (either_value lesser w m)) ≡ false
min-head v w m e = ap (λ x. is_lt (value_cmp v x)) (either_lesser w m) ∙ ap (λ x. is_lt (value_cmp x (lesser w m))) e ∙ by (is_gt (value_cmp w m)) refl
  where
    by : (b : Bool) → is_gt (value_cmp w m) ≡ b → is_lt (value_cmp w (cond b m w)) ≡ false
    by true f = gt-lt (value_cmp w m) f
    by false f = itself-lt w

min-tail : (v w m : Value) → is_lt (value_cmp v m) ≡ false → is_lt (value_cmp v (either_value lesser w m)) ≡ false
min-tail v w m h = ap (λ x. is_lt (value_cmp v x)) (either_lesser w m) ∙ by (is_gt (value_cmp w m)) refl
  where
    by : (b : Bool) → is_gt (value_cmp w m) ≡ b → is_lt (value_cmp v (cond b m w)) ≡ false
    by true f = h
    by false f = at_least_trans v m w h (flip-gt w m f)

-- at least the value, and not NULL
abbrev Above : Value → Value → Type 0
Above v m = (is_gt (value_cmp v m) ≡ false) × (is_null m ≡ false)

greater-above : (v w m : Value) → Above v w ⊎ Above v m → is_null w ≡ false → is_null m ≡ false → Above v (greater w m)
greater-above v w m h p q = by (is_lt (value_cmp w m)) refl h
  where
    by : (b : Bool) → is_lt (value_cmp w m) ≡ b → Above v w ⊎ Above v m → Above v (cond b m w)
    by true f (inl k) = (at_most_trans v w m k.0 (lt-gt (value_cmp w m) f), q)
    by true f (inr k) = (k.0, q)
    by false f (inl k) = k
    by false f (inr k) = (at_most_trans v m w k.0 (flip-lt w m f), p)

max-above : (v w m : Value) → Above v w ⊎ Above v m → is_null w ≡ false → Above v (either_value greater w m)
max-above v w m h p = by (is_null m) refl h
  where
    by : (b : Bool) → is_null m ≡ b → Above v w ⊎ Above v m → Above v (either_value greater w m)
    by false e k = subst (Above v) (sym (either_greater w m p e)) (greater-above v w m k p e)
    by true e (inl k) = subst (Above v) (sym (ap (either_value greater w) (null-is m e) ∙ either_null w)) k
    by true e (inr k) = let said : is_null m ≡ false = k.1 in cc

-- a value among these lies between the least and the greatest of them
list-between : (v : Value) (ws : List Value) → is_pair v ≡ false → no_pairs ws ≡ true → list_any (is_true_that v Eq) ws ≡ true → (is_lt (value_cmp v (min_value (filter not_null ws))) ≡ false) × Above v (max_value (filter not_null ws))
list-between v [] p plain h = cc
list-between v (w ∷ ws) p plain h =
    by (is_null w) (is_true_that v Eq w) refl refl h (list-between v ws p (and_parts (not (is_pair w)) (no_pairs ws) plain).1)
  where
    by :
        (b c : Bool) → is_null w ≡ b → is_true_that v Eq w ≡ c → (c || list_any (is_true_that v Eq) ws) ≡ true
        → (list_any (is_true_that v Eq) ws ≡ true → (is_lt (value_cmp v (min_value (filter not_null ws))) ≡ false) × Above v (max_value (filter not_null ws)))
        → (is_lt (value_cmp v (min_value (cond (not b) (w ∷ filter not_null ws) (filter not_null ws)))) ≡ false) × Above v (max_value (cond (not b) (w ∷ filter not_null ws) (filter not_null ws)))
    by true true e f g rest = let said : is_null w ≡ false = null-true v Eq w f in cc
    by true false e f g rest = rest g
    by false true e f g rest =
        let same : v ≡ w = equal-is v w p (not-true (is_pair w) (and_parts (not (is_pair w)) (no_pairs ws) plain).0) f in
        let here : Above v w = (ap (λ x. is_gt (value_cmp x w)) same ∙ itself-gt w, e) in
        (min-head v w (min_value (filter not_null ws)) same, max-above v w (max_value (filter not_null ws)) (inl here) e)
    by false false e f g rest =
        let later = rest g in
        (min-tail v w (min_value (filter not_null ws)) later.0, max-above v w (max_value (filter not_null ws)) (inr later.1) e)

list-within : (v : Value) (ws : List Value) → is_pair v ≡ false → no_pairs ws ≡ true → list_any (is_true_that v Eq) ws ≡ true → Within v (range_of_list ws)
list-within v ws p plain h =
    let between = list-between v ws p plain h in
    both-within v (from_value (min_value (filter not_null ws))) (up_to (max_value (filter not_null ws)) true)
    (from-within v (min_value (filter not_null ws)) between.0)
    (up-within v (max_value (filter not_null ws)) true between.1.0 (λ e. cc))

-- ---- conditions

module _ (value : ColRef → Value) (v : Value) (columns : List ColRef) (all : AllHave value v columns) (p : is_pair v ≡ false) where
  condition-within : (c : Condition) → without_pairs c ≡ true → condition_true value c ≡ true → Within v (range_of columns c)
  condition-within (Compare c op w) plain h = by (has_column columns c) refl
    where
      by : (b : Bool) → has_column columns c ≡ b → Within v (cond b (range_of_op op w) whole_range)
      by true e = op-within v op w (op-holds v w op p (not-true (is_pair w) plain) (subst (λ u. is_true_that u op w ≡ true) (has-value value v columns c all e) h))
      by false e = (tt, tt)
  condition-within (OneOf c ws) plain h = by (has_column columns c) refl
    where
      by : (b : Bool) → has_column columns c ≡ b → Within v (cond b (range_of_list ws) whole_range)
      by true e = list-within v ws p plain (subst (λ u. list_any (is_true_that u Eq) ws ≡ true) (has-value value v columns c all e) h)
      by false e = (tt, tt)
  condition-within (IsNull c) plain h = (tt, tt)
  condition-within (NotNull c) plain h = (tt, tt)

  pub ranges-within : (cs : List Condition) → list_all without_pairs cs ≡ true → conditions_true value cs ≡ true → Within v (ranges_of columns cs)
  ranges-within [] plain h = (tt, tt)
  ranges-within (c ∷ cs) plain h =
      let plains = and_parts (without_pairs c) (list_all without_pairs cs) plain in
      let trues = and_parts (condition_true value c) (conditions_true value cs) h in
      both-within v (range_of columns c) (ranges_of columns cs) (condition-within c plains.0 trues.0) (ranges-within cs plains.1 trues.1)

-- ---- intervals

not-below : (v : Value) (most : Option (Value × Bool)) (lo : Option Value) → AtMost v most → option_case lo true (λ l. is_ge (value_cmp v l)) ≡ true → below_interval most lo ≡ false
not-below v None lo h k = refl
not-below v (Some m) None h k = refl
not-below v (Some m) (Some lo) h k =
    let above : is_lt (value_cmp v lo) ≡ false = ge-lt (value_cmp v lo) k in
    let first : is_lt (value_cmp m.0 lo) ≡ false = at_least_trans m.0 v lo (flip-gt v m.0 h.0) above in
    ap (λ b. b || (is_eq (value_cmp m.0 lo) && not m.1)) first ∙ by (value_cmp m.0 lo) m.1 refl refl above
  where
    by : (o : Ordering) (b : Bool) → value_cmp m.0 lo ≡ o → m.1 ≡ b → is_lt (value_cmp v lo) ≡ false → (is_eq o && not b) ≡ false
    by Less b e f above = refl
    by Greater b e f above = refl
    by Equal true e f above = refl
    by Equal false e f above =
        let same : m.0 ≡ lo = value_exact m.0 lo e in
        let said : is_lt (value_cmp v lo) ≡ true = subst (λ x. is_lt (value_cmp v x) ≡ true) same (h.1 f) in
        cc

not-above : (v : Value) (least hi : Option Value) → AtLeast v least → option_case hi true (λ x. is_lt (value_cmp v x)) ≡ true → above_interval least hi ≡ false
not-above v None hi h k = refl
not-above v (Some l) None h k = refl
not-above v (Some l) (Some hi) h k = by (is_ge (value_cmp l hi)) refl
  where
    by : (b : Bool) → is_ge (value_cmp l hi) ≡ b → b ≡ false
    by true e = let said : is_lt (value_cmp v hi) ≡ false = at_least_trans v l hi h (ge-lt (value_cmp l hi) e) in cc
    by false e = refl

-- a range with the value in it doesn't miss an interval with the value in it
pub never-misses : (v : Value) (r : Range) (i : Interval) → Within v r → interval_has i v ≡ true → range_misses r i ≡ false
never-misses v r i within h =
    let has = and_parts (option_case i.lo true (λ lo. is_ge (value_cmp v lo))) (option_case i.hi true (λ hi. is_lt (value_cmp v hi))) h in
    ap (λ b. b || above_interval r.least i.hi) (not-below v r.most i.lo within.1 has.0) ∙ not-above v r.least i.hi within.0 has.1
