-- An interval that the query's interval of a column misses has no value of a tuple of the query.
use Rattle.std.proofs.Common.{◌≡◌, ◌∙◌, sym, ap, subst, refl, Bool, true, false, cond, List, [], ◌∷◌, Option, Some, None}
use Rattle.std.specs.Prelude.{◌&&◌, ◌||◌, not}
use Rattle.std.specs.List.{filter, list_all, list_any}
use Rattle.std.specs.Ordering.{is_eq, is_ge, is_gt, is_le, is_lt, ordering_reverse}
use Rattle.std.specs.declared.cmp.Ordering.{Ordering}
use Rattle.std.specs.declared.cmp.Ordering.TheVariants.{Less, Equal, Greater}
use Rattle.std.proofs.lemmas.Bool.{and_parts}
use Rattle.std.proofs.Math.Bool.{or-true, and-false}
use Rattle.wh_base.specs.Columns.{has_column}
use Rattle.wh_base.specs.Lists.{option_case}
use Rattle.wh_base.specs.Values.{interval_has, is_null, is_true_that, op_holds, same_value, value_cmp}
use Rattle.wh_base.proofs.Same.{same_value-Decides}
use Rattle.wh_base.specs.ValueLaws.{value_total}
use Rattle.wh_base.specs.declared.columns.ColRef.{ColRef}
use Rattle.wh_base.specs.declared.queries.Condition.{Condition}
use Rattle.wh_base.specs.declared.queries.Condition.TheVariants.{Compare, IsNull, NotNull, OneOf}
use Rattle.wh_base.specs.declared.queries.StarQuery.{StarQuery}
use Rattle.wh_base.specs.declared.values.Interval.{Interval}
use Rattle.wh_base.specs.declared.values.Op.{Op}
use Rattle.wh_base.specs.declared.values.Op.TheVariants.{Eq, Ge, Gt, Le, Lt, Ne}
use Rattle.wh_base.specs.declared.values.Value.{Value}
use Rattle.wh_base.specs.declared.values.Value.TheVariants.{Day, Null, Num, Ratio, Text}
use Rattle.def_meaning.specs.Meaning.{either_value, greater, max_value, min_value, not_null}
use Rattle.def_meaning.proofs.Merging.{either_lesser}
use Rattle.def_meaning.specs.Joined.{condition_true, conditions_true, edge_true}
use Rattle.def_meaning.specs.Ranges.{Range, above_interval, below_interval, bound_cmp, both_ranges, equal_columns, from_value, greater_bound, lesser_bound, misses, query_range, range_misses, range_of, range_of_list, range_of_op, ranges_of, up_to, whole_range}
use Rattle.law_lists.proofs.Each.{Each-passes}
use Rattle.law_rewrite.specs.Words.{Each}
use Rattle.law_rewrite.proofs.Placing.{linked_equal}
use Rattle.law_rewrite.proofs.Implying.{PlainIn, chain, compared_of, eq_is, gives, is_plain}

abbrev pub below_most : Value × Bool → Ordering → Bool
below_most m o = is_lt o || (is_eq o && m.1)

-- the value is within the range
abbrev pub least_in : Option Value → Value → Bool
least_in lo w = option_case lo true (λ v. is_ge (value_cmp w v))

abbrev pub most_in : Option (Value × Bool) → Value → Bool
most_in hi w = option_case hi true (λ m. below_most m (value_cmp w m.0))

pub record In (r : Range) (w : Value) : Type 0 where
  pub low : least_in r.least w ≡ true
  pub high : most_in r.most w ≡ true

In-both : (r s : Range) (w : Value) → In r w → In s w → In (both_ranges r s) w
In-both r s w h k = record { low = low r.least s.least h.low k.low; high = high r.most s.most h.high k.high }
  where
    low : (a b : Option Value) → least_in a w ≡ true → least_in b w ≡ true → least_in (greater_bound a b) w ≡ true
    low None b h k = k
    low (Some v) None h k = h
    low (Some v) (Some u) h k = by (is_lt (value_cmp v u))
      where
        by : (b : Bool) → least_in (Some (cond b u v)) w ≡ true
        by true = k
        by false = h

    high : (a b : Option (Value × Bool)) → most_in a w ≡ true → most_in b w ≡ true → most_in (lesser_bound a b) w ≡ true
    high None b h k = k
    high (Some v) None h k = h
    high (Some v) (Some u) h k = by (is_lt (bound_cmp v u))
      where
        by : (b : Bool) → most_in (Some (cond b v u)) w ≡ true
        by true = h
        by false = k

In-whole : (w : Value) → In whole_range w
In-whole w = record { low = refl; high = refl }

In-from : (v w : Value) → is_ge (value_cmp w v) ≡ true → In (from_value v) w
In-from v w h = by (is_null v)
  where
    by : (b : Bool) → In (cond b whole_range (record { least = Some v; most = None })) w
    by true = In-whole w
    by false = record { low = h; high = refl }

In-up : (v w : Value) (i : Bool) → below_most (v, i) (value_cmp w v) ≡ true → In (up_to v i) w
In-up v w i h = by (is_null v)
  where
    by : (b : Bool) → In (cond b whole_range (record { least = None; most = Some (v, i) })) w
    by true = In-whole w
    by false = record { low = refl; high = h }

order_says : (p q : Ordering → Bool) → ((o : Ordering) → p o ≡ true → q o ≡ true) → (o : Ordering) → p o ≡ true → q o ≡ true
order_says p q f o h = f o h

eq_ge : (o : Ordering) → is_eq o ≡ true → is_ge o ≡ true
eq_ge Less h = cc
eq_ge Equal h = refl
eq_ge Greater h = cc

gt_ge : (o : Ordering) → is_gt o ≡ true → is_ge o ≡ true
gt_ge Less h = cc
gt_ge Equal h = refl
gt_ge Greater h = refl

eq_most : (v : Value) (o : Ordering) → is_eq o ≡ true → below_most (v, true) o ≡ true
eq_most v Less h = cc
eq_most v Equal h = refl
eq_most v Greater h = cc

le_most : (v : Value) (o : Ordering) → is_le o ≡ true → below_most (v, true) o ≡ true
le_most v Less h = refl
le_most v Equal h = refl
le_most v Greater h = cc

lt_most : (v : Value) (o : Ordering) → is_lt o ≡ true → below_most (v, false) o ≡ true
lt_most v Less h = refl
lt_most v Equal h = cc
lt_most v Greater h = cc

In-op : (op : Op) (v w : Value) → op_holds op (value_cmp w v) ≡ true → In (range_of_op op v) w
In-op Eq v w h = In-both (from_value v) (up_to v true) w (In-from v w (eq_ge (value_cmp w v) h)) (In-up v w true (eq_most v (value_cmp w v) h))
In-op Ne v w h = In-whole w
In-op Lt v w h = In-up v w false (lt_most v (value_cmp w v) h)
In-op Le v w h = In-up v w true (le_most v (value_cmp w v) h)
In-op Gt v w h = In-from v w (gt_ge (value_cmp w v) h)
In-op Ge v w h = In-from v w h

-- ---- a value of a list is within its range

itself_equal : (v : Value) → value_cmp v v ≡ Equal
itself_equal v = by (value_cmp v v) refl (value_total.antisymm v v)
  where
    by : (o : Ordering) → value_cmp v v ≡ o → value_cmp v v ≡ ordering_reverse (value_cmp v v) → value_cmp v v ≡ Equal
    by Less e h = absurd (let f : Less ≡ Greater = sym e ∙ h ∙ ap ordering_reverse e in cc)
    by Equal e h = e
    by Greater e h = absurd (let f : Greater ≡ Less = sym e ∙ h ∙ ap ordering_reverse e in cc)

turned_ge : (u m : Value) → is_gt (value_cmp u m) ≡ false → is_ge (value_cmp m u) ≡ true
turned_ge u m h = ap is_ge (value_total.antisymm m u) ∙ by (value_cmp u m) h
  where
    by : (o : Ordering) → is_gt o ≡ false → is_ge (ordering_reverse o) ≡ true
    by Less h = refl
    by Equal h = refl
    by Greater h = cc

turned_le : (u m : Value) → is_lt (value_cmp u m) ≡ false → is_le (value_cmp m u) ≡ true
turned_le u m h = ap is_le (value_total.antisymm m u) ∙ by (value_cmp u m) h
  where
    by : (o : Ordering) → is_lt o ≡ false → is_le (ordering_reverse o) ≡ true
    by Less h = cc
    by Equal h = refl
    by Greater h = refl

lt_le : (o : Ordering) → is_lt o ≡ true → is_le o ≡ true
lt_le Less h = refl
lt_le Equal h = refl
lt_le Greater h = cc

at_least_min : (w : Value) (us : List Value) → list_any (same_value w) us ≡ true → is_ge (value_cmp w (min_value us)) ≡ true
at_least_min w [] h = cc
at_least_min w (u ∷ us) h = ap (λ m. is_ge (value_cmp w m)) (either_lesser u (min_value us)) ∙ by (same_value w u) (is_gt (value_cmp u (min_value us))) refl refl h (at_least_min w us)
  where
    by : (a b : Bool) → same_value w u ≡ a → is_gt (value_cmp u (min_value us)) ≡ b → (a || list_any (same_value w) us) ≡ true
        → (list_any (same_value w) us ≡ true → is_ge (value_cmp w (min_value us)) ≡ true) → is_ge (value_cmp w (cond b (min_value us) u)) ≡ true
    by true true e f h k = ap (λ x. is_ge (value_cmp x (min_value us))) ((same_value-Decides w u).0 e) ∙ gt_ge (value_cmp u (min_value us)) f
    by true false e f h k = ap (λ x. is_ge (value_cmp x u)) ((same_value-Decides w u).0 e) ∙ ap is_ge (itself_equal u)
    by false true e f h k = k h
    by false false e f h k =
        gives is_ge is_ge is_ge (record { ll = refl; le = refl; lg = refl; el = refl; ee = refl; eg = refl; gl = refl; ge = refl; gg = refl })
        (value_cmp w (min_value us)) (value_cmp (min_value us) u) (value_cmp w u) (chain w (min_value us) u) (k h) (turned_ge u (min_value us) f)

either_greater : (u m : Value) → not_null u ≡ true → either_value greater u m ≡ cond (is_null m) u (greater u m)
either_greater Null m h = cc
either_greater (Num n) Null h = refl
either_greater (Num n) (Num m) h = refl
either_greater (Num n) (Text t) h = refl
either_greater (Num n) (Ratio a) h = refl
either_greater (Num n) (Day d) h = refl
either_greater (Text t) Null h = refl
either_greater (Text t) (Num m) h = refl
either_greater (Text t) (Text s) h = refl
either_greater (Text t) (Ratio a) h = refl
either_greater (Text t) (Day d) h = refl
either_greater (Ratio b) Null h = refl
either_greater (Ratio b) (Num m) h = refl
either_greater (Ratio b) (Text s) h = refl
either_greater (Ratio b) (Ratio a) h = refl
either_greater (Ratio b) (Day d) h = refl
either_greater (Day b) Null h = refl
either_greater (Day b) (Num m) h = refl
either_greater (Day b) (Text s) h = refl
either_greater (Day b) (Ratio a) h = refl
either_greater (Day b) (Day d) h = refl

-- at most, and not NULL
abbrev Under : Value → Value → Type 0
Under w m = (is_le (value_cmp w m) ≡ true) × (not_null m ≡ true)

at_most_max : (w : Value) (us : List Value) → Each (λ u. not_null u ≡ true) us → list_any (same_value w) us ≡ true → Under w (max_value us)
at_most_max w [] n h = cc
at_most_max w (u ∷ us) n h =
    subst (Under w) (sym (either_greater u (max_value us) n.0)) (by (same_value w u) (is_null (max_value us)) (is_lt (value_cmp u (max_value us))) refl refl refl h (at_most_max w us n.1))
  where
    here : same_value w u ≡ true → Under w u
    here e = (ap (λ x. is_le (value_cmp x u)) ((same_value-Decides w u).0 e) ∙ ap is_le (itself_equal u), n.0)

    by : (a b c : Bool) → same_value w u ≡ a → is_null (max_value us) ≡ b → is_lt (value_cmp u (max_value us)) ≡ c → (a || list_any (same_value w) us) ≡ true
        → (list_any (same_value w) us ≡ true → Under w (max_value us)) → Under w (cond b u (cond c (max_value us) u))
    by true true c e f g h k = here e
    by true false true e f g h k = (ap (λ x. is_le (value_cmp x (max_value us))) ((same_value-Decides w u).0 e) ∙ lt_le (value_cmp u (max_value us)) g, ap not f)
    by true false false e f g h k = here e
    by false true c e f g h k = absurd (let x : not true ≡ true = sym (ap not f) ∙ (k h).1 in cc)
    by false false true e f g h k = k h
    by false false false e f g h k = (
      gives is_le is_le is_le (record { ll = refl; le = refl; lg = refl; el = refl; ee = refl; eg = refl; gl = refl; ge = refl; gg = refl })
          (value_cmp w (max_value us)) (value_cmp (max_value us) u) (value_cmp w u) (chain w (max_value us) u) (k h).0 (turned_le u (max_value us) g),
      n.0,
    )

among : (w : Value) (vs : List Value) → is_plain w ≡ true → list_all is_plain vs ≡ true → list_any (is_true_that w Eq) vs ≡ true → list_any (same_value w) (filter not_null vs) ≡ true
among w [] p q h = cc
among w (v ∷ vs) p q h =
    let plain : (is_plain v ≡ true) × (list_all is_plain vs ≡ true) = and_parts (is_plain v) (list_all is_plain vs) q in
    by (is_true_that w Eq v) (not_null v) refl refl plain.0 h (among w vs p plain.1)
  where
    by : (a b : Bool) → is_true_that w Eq v ≡ a → not_null v ≡ b → is_plain v ≡ true → (a || list_any (is_true_that w Eq) vs) ≡ true
        → (list_any (is_true_that w Eq) vs ≡ true → list_any (same_value w) (filter not_null vs) ≡ true) → list_any (same_value w) (cond b (v ∷ filter not_null vs) (filter not_null vs)) ≡ true
    by true true e f r h k = ap (λ b. b || list_any (same_value w) (filter not_null vs)) ((same_value-Decides w v).1 (eq_is w v p r e))
    by true false e f r h k = absurd (let x : false ≡ true = sym f ∙ (compared_of w v Eq p r e).right in cc)
    by false true e f r h k = ap (λ b. same_value w v || b) (k h) ∙ or-true (same_value w v)
    by false false e f r h k = k h

listed : (w : Value) (vs : List Value) → is_plain w ≡ true → list_all is_plain vs ≡ true → list_any (is_true_that w Eq) vs ≡ true → In (range_of_list vs) w
listed w vs p q h =
    In-both (from_value (min_value (filter not_null vs))) (up_to (max_value (filter not_null vs)) true) w
    (In-from (min_value (filter not_null vs)) w (at_least_min w (filter not_null vs) (among w vs p q h)))
    (In-up (max_value (filter not_null vs)) w true (le_most (max_value (filter not_null vs)) (value_cmp w (max_value (filter not_null vs))) (at_most_max w (filter not_null vs) (Each-passes not_null vs) (among w vs p q h)).0))

module _ (value : ColRef → Value) (plain : (c : ColRef) → is_plain (value c) ≡ true) (columns : List ColRef) (w : Value) (same : (c : ColRef) → has_column columns c ≡ true → value c ≡ w) where
  In-condition : (c : Condition) → PlainIn c → condition_true value c ≡ true → In (range_of columns c) w
  In-condition (Compare c op v) p h = by (has_column columns c) refl
    where
      by : (b : Bool) → has_column columns c ≡ b → In (cond b (range_of_op op v) whole_range) w
      by true e = In-op op v w (ap (λ x. op_holds op (value_cmp x v)) (sym (same c e)) ∙ (compared_of (value c) v op (plain c) p h).holds)
      by false e = In-whole w
  In-condition (OneOf c vs) p h = by (has_column columns c) refl
    where
      by : (b : Bool) → has_column columns c ≡ b → In (cond b (range_of_list vs) whole_range) w
      by true e = listed w vs (ap is_plain (sym (same c e)) ∙ plain c) p (ap (λ x. list_any (is_true_that x Eq) vs) (sym (same c e)) ∙ h)
      by false e = In-whole w
  In-condition (IsNull c) p h = In-whole w
  In-condition (NotNull c) p h = In-whole w

  In-conditions : (cs : List Condition) → Each PlainIn cs → conditions_true value cs ≡ true → In (ranges_of columns cs) w
  In-conditions [] p h = In-whole w
  In-conditions (c ∷ cs) p h =
      let both : (condition_true value c ≡ true) × (conditions_true value cs ≡ true) = and_parts (condition_true value c) (conditions_true value cs) h in
      In-both (range_of columns c) (ranges_of columns cs) w (In-condition c p.0 both.0) (In-conditions cs p.1 both.1)

-- ---- a range that misses an interval

less_not : (o : Ordering) → is_lt o ≡ true → is_ge o ≡ false
less_not Less h = refl
less_not Equal h = cc
less_not Greater h = cc

ge_not : (o : Ordering) → is_ge o ≡ true → is_lt o ≡ false
ge_not Less h = cc
ge_not Equal h = refl
ge_not Greater h = refl

below_out : (most : Option (Value × Bool)) (lo : Option Value) (w : Value) → most_in most w ≡ true → below_interval most lo ≡ true → option_case lo true (λ l. is_ge (value_cmp w l)) ≡ false
below_out None lo w h k = cc
below_out (Some m) None w h k = cc
below_out (Some m) (Some l) w h k = less_not (value_cmp w l) (by m.1 h k)
  where
    by : (b : Bool) → (is_lt (value_cmp w m.0) || (is_eq (value_cmp w m.0) && b)) ≡ true → (is_lt (value_cmp m.0 l) || (is_eq (value_cmp m.0 l) && not b)) ≡ true → is_lt (value_cmp w l) ≡ true
    by true h k = gives (λ o. is_lt o || (is_eq o && true)) (λ o. is_lt o || (is_eq o && false)) is_lt (record { ll = refl; le = refl; lg = refl; el = refl; ee = refl; eg = refl; gl = refl; ge = refl; gg = refl }) (value_cmp w m.0) (value_cmp m.0 l) (value_cmp w l) (chain w m.0 l) h k
    by false h k = gives (λ o. is_lt o || (is_eq o && false)) (λ o. is_lt o || (is_eq o && true)) is_lt (record { ll = refl; le = refl; lg = refl; el = refl; ee = refl; eg = refl; gl = refl; ge = refl; gg = refl }) (value_cmp w m.0) (value_cmp m.0 l) (value_cmp w l) (chain w m.0 l) h k

above_out : (least hi : Option Value) (w : Value) → least_in least w ≡ true → above_interval least hi ≡ true → option_case hi true (λ x. is_lt (value_cmp w x)) ≡ false
above_out None hi w h k = cc
above_out (Some a) None w h k = cc
above_out (Some a) (Some x) w h k =
    ge_not (value_cmp w x) (gives is_ge is_ge is_ge (record { ll = refl; le = refl; lg = refl; el = refl; ee = refl; eg = refl; gl = refl; ge = refl; gg = refl }) (value_cmp w a) (value_cmp a x) (value_cmp w x) (chain w a x) h k)

pub missed : (r : Range) (i : Interval) (w : Value) → In r w → range_misses r i ≡ true → interval_has i w ≡ false
missed r i w inside h = by (below_interval r.most i.lo) (above_interval r.least i.hi) refl refl h
  where
    by : (a b : Bool) → below_interval r.most i.lo ≡ a → above_interval r.least i.hi ≡ b → (a || b) ≡ true → interval_has i w ≡ false
    by true b e f h = ap (λ x. x && option_case i.hi true (λ y. is_lt (value_cmp w y))) (below_out r.most i.lo w inside.high e)
    by false true e f h = ap (λ x. option_case i.lo true (λ y. is_ge (value_cmp w y)) && x) (above_out r.least i.hi w inside.low f) ∙ and-false (option_case i.lo true (λ y. is_ge (value_cmp w y)))
    by false false e f h = cc

-- **a tuple of the query has its key in no interval that the query's interval misses**
pub misses_out : (q : StarQuery) (key : ColRef) (i : Interval) (value : ColRef → Value) → ((c : ColRef) → is_plain (value c) ≡ true) → Each PlainIn q.conditions
    → list_all (edge_true value) q.edges ≡ true → conditions_true value q.conditions ≡ true → misses q key i ≡ true → interval_has i (value key) ≡ false
misses_out q key i value plain literals joins holds h =
    missed (query_range q key) i (value key)
    (In-conditions value plain (equal_columns q.edges key) (value key) (λ c k. linked_equal value q.edges joins key c k) q.conditions literals holds) h
