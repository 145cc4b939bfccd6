-- A condition that implies another makes it true, and conditions that are the same are true together.
use Rattle.std.proofs.Common.{◌≡◌, ◌∙◌, sym, ap, refl, Bool, true, false, cond, List, [], ◌∷◌}
use Rattle.std.specs.Prelude.{◌&&◌, ◌||◌}
use Rattle.std.specs.List.{filter, list_all, list_any}
use Rattle.std.specs.Ordering.{is_eq}
use Rattle.std.specs.declared.cmp.Ordering.{Ordering}
use Rattle.std.specs.declared.cmp.Ordering.TheVariants.{Less, Equal, Greater}
use Rattle.std.proofs.lemmas.Bool.{and_parts, or_left}
use Rattle.wh_base.specs.Values.{is_true_that, op_holds, same_value, value_cmp}
use Rattle.wh_base.proofs.Same.{same_value-Decides, same_values-Decides}
use Rattle.wh_base.specs.ValueLaws.{value_total, value_exact}
use Rattle.wh_base.specs.declared.queries.Condition.{Condition}
use Rattle.wh_base.specs.declared.queries.Condition.TheVariants.{Compare, IsNull, NotNull, OneOf}
use Rattle.wh_base.specs.declared.values.Op.{Op}
use Rattle.wh_base.specs.declared.values.Op.TheVariants.{Eq, Ge, Gt, Le, Lt, Ne}
use Rattle.wh_base.specs.declared.values.Value.{Value}
use Rattle.wh_base.specs.declared.values.Value.TheVariants.{Day, Null, Num, Text, Ratio}
use Rattle.def_meaning.specs.Joined.{condition_true}
use Rattle.def_meaning.specs.Meaning.{not_null}
use Rattle.def_rewriting.specs.Implied.{all_make, implies, op_implies, same_op, same_test}
use Rattle.def_meaning.proofs.Merging.{after_turns, before_turns}
pub use Rattle.law_rewrite.specs.Words.{PlainIn, is_plain}

-- ---- values as they stand in rows and literals: no pair

-- between plain values a comparison is the order's, where neither is NULL
pub plain_compared : (v w : Value) → is_plain v ≡ true → is_plain w ≡ true → (op : Op) → is_true_that v op w ≡ (not_null v && (not_null w && op_holds op (value_cmp v w)))
plain_compared Null w p q op = refl
plain_compared (Num m) Null p q op = refl
plain_compared (Num m) (Num n) p q op = refl
plain_compared (Num m) (Text t) p q op = refl
plain_compared (Num m) (Day d) p q op = refl
plain_compared (Text s) Null p q op = refl
plain_compared (Text s) (Num n) p q op = refl
plain_compared (Text s) (Text t) p q op = refl
plain_compared (Text s) (Day d) p q op = refl
plain_compared (Day m) Null p q op = refl
plain_compared (Day m) (Num n) p q op = refl
plain_compared (Day m) (Text t) p q op = refl
plain_compared (Day m) (Day d) p q op = refl
plain_compared (Ratio a) w p q op = cc
plain_compared v (Ratio b) p q op = cc

pub record Compared (v : Value) (op : Op) (w : Value) : Type 0 where
  pub left : not_null v ≡ true
  pub right : not_null w ≡ true
  pub holds : op_holds op (value_cmp v w) ≡ true

pub compared_of : (v w : Value) (op : Op) → is_plain v ≡ true → is_plain w ≡ true → is_true_that v op w ≡ true → Compared v op w
compared_of v w op p q h =
    let a : (not_null v ≡ true) × ((not_null w && op_holds op (value_cmp v w)) ≡ true) = and_parts (not_null v) (not_null w && op_holds op (value_cmp v w)) (sym (plain_compared v w p q op) ∙ h) in
    let b : (not_null w ≡ true) × (op_holds op (value_cmp v w) ≡ true) = and_parts (not_null w) (op_holds op (value_cmp v w)) a.1 in
    record { left = a.0; right = b.0; holds = b.1 }

pub of_compared : (v w : Value) (op : Op) → is_plain v ≡ true → is_plain w ≡ true → Compared v op w → is_true_that v op w ≡ true
of_compared v w op p q c = plain_compared v w p q op ∙ (λ i. c.left i && (c.right i && c.holds i))

-- ---- what the order of a and b, and of b and c, says of a and c

abbrev pub Chain : Ordering → Ordering → Ordering → Type 0
Chain Less Less o = o ≡ Less
Chain Less Equal o = o ≡ Less
Chain Less Greater o = Unit {0}
Chain Equal p o = o ≡ p
Chain Greater Less o = Unit {0}
Chain Greater Equal o = o ≡ Greater
Chain Greater Greater o = o ≡ Greater

pub chain : (a b c : Value) → Chain (value_cmp a b) (value_cmp b c) (value_cmp a c)
chain a b c = by (value_cmp a b) (value_cmp b c) refl refl
  where
    by : (o p : Ordering) → value_cmp a b ≡ o → value_cmp b c ≡ p → Chain o p (value_cmp a c)
    by Less Less e f = value_total.trans a b c e f
    by Less Equal e f = ap (value_cmp a) (sym (value_exact b c f)) ∙ e
    by Less Greater e f = tt
    by Equal p e f = value_total.congr a b c e ∙ f
    by Greater Less e f = tt
    by Greater Equal e f = ap (value_cmp a) (sym (value_exact b c f)) ∙ e
    by Greater Greater e f = before_turns c a (value_total.trans c b a (after_turns b c f) (after_turns a b e))

abbrev pub imp : Bool → Bool → Bool → Bool
imp true true r = r
imp true false r = true
imp false q r = true

-- p of the first and q of the second give r of both together
pub record Gives (p q r : Ordering → Bool) : Type 0 where
  pub ll : imp (p Less) (q Less) (r Less) ≡ true
  pub le : imp (p Less) (q Equal) (r Less) ≡ true
  pub lg : imp (p Less) (q Greater) false ≡ true
  pub el : imp (p Equal) (q Less) (r Less) ≡ true
  pub ee : imp (p Equal) (q Equal) (r Equal) ≡ true
  pub eg : imp (p Equal) (q Greater) (r Greater) ≡ true
  pub gl : imp (p Greater) (q Less) false ≡ true
  pub ge : imp (p Greater) (q Equal) (r Greater) ≡ true
  pub gg : imp (p Greater) (q Greater) (r Greater) ≡ true

given : (a b c : Bool) → imp a b c ≡ true → a ≡ true → b ≡ true → c ≡ true
given true true c h k l = h
given true false c h k l = cc
given false b c h k l = cc

pub gives : (p q r : Ordering → Bool) → Gives p q r → (o1 o2 o3 : Ordering) → Chain o1 o2 o3 → p o1 ≡ true → q o2 ≡ true → r o3 ≡ true
gives p q r g Less Less o3 c h k = ap r c ∙ given (p Less) (q Less) (r Less) g.ll h k
gives p q r g Less Equal o3 c h k = ap r c ∙ given (p Less) (q Equal) (r Less) g.le h k
gives p q r g Less Greater o3 c h k = absurd (let e : false ≡ true = given (p Less) (q Greater) false g.lg h k in cc)
gives p q r g Equal Less o3 c h k = ap r c ∙ given (p Equal) (q Less) (r Less) g.el h k
gives p q r g Equal Equal o3 c h k = ap r c ∙ given (p Equal) (q Equal) (r Equal) g.ee h k
gives p q r g Equal Greater o3 c h k = ap r c ∙ given (p Equal) (q Greater) (r Greater) g.eg h k
gives p q r g Greater Less o3 c h k = absurd (let e : false ≡ true = given (p Greater) (q Less) false g.gl h k in cc)
gives p q r g Greater Equal o3 c h k = ap r c ∙ given (p Greater) (q Equal) (r Greater) g.ge h k
gives p q r g Greater Greater o3 c h k = ap r c ∙ given (p Greater) (q Greater) (r Greater) g.gg h k

-- w op a, and a mid b, so w op' b
through : (op mid op' : Op) → Gives (op_holds op) (op_holds mid) (op_holds op') → (w a b : Value) → is_plain w ≡ true → is_plain a ≡ true → is_plain b ≡ true
    → is_true_that w op a ≡ true → is_true_that a mid b ≡ true → is_true_that w op' b ≡ true
through op mid op' g w a b p q r h k =
    let c : Compared w op a = compared_of w a op p q h in
    let d : Compared a mid b = compared_of a b mid q r k in
    of_compared w b op' p r (record {
      left = c.left;
      right = d.right;
      holds = gives (op_holds op) (op_holds mid) (op_holds op') g (value_cmp w a) (value_cmp a b) (value_cmp w b) (chain w a b) c.holds d.holds;
    })

-- ---- what implies what

true_not_null : (w a : Value) (op : Op) → is_plain w ≡ true → is_plain a ≡ true → is_true_that w op a ≡ true → not_null w ≡ true
true_not_null w a op p q h = (compared_of w a op p q h).left

pub eq_is : (w a : Value) → is_plain w ≡ true → is_plain a ≡ true → is_true_that w Eq a ≡ true → w ≡ a
eq_is w a p q h = value_exact w a (is_equal (value_cmp w a) (compared_of w a Eq p q h).holds)
  where
    is_equal : (o : Ordering) → is_eq o ≡ true → o ≡ Equal
    is_equal Less h = cc
    is_equal Equal h = refl
    is_equal Greater h = cc

-- the value is one that makes the condition true
made_true : (w : Value) (vs : List Value) (c : Condition) → is_plain w ≡ true → list_all is_plain vs ≡ true → all_make vs c ≡ true → list_any (is_true_that w Eq) vs ≡ true → condition_true (λ _. w) c ≡ true
made_true w [] c p q h k = cc
made_true w (v ∷ vs) c p q h k =
    let plain : (is_plain v ≡ true) × (list_all is_plain vs ≡ true) = and_parts (is_plain v) (list_all is_plain vs) q in
    by (is_true_that w Eq v) refl plain.0 k (made_true w vs c p plain.1 (later (not_null v) h))
  where
    later : (b : Bool) → list_all (λ u. condition_true (λ _. u) c) (cond b (v ∷ filter not_null vs) (filter not_null vs)) ≡ true → all_make vs c ≡ true
    later true h = (and_parts (condition_true (λ _. v) c) (all_make vs c) h).1
    later false h = h

    first : (b : Bool) → not_null v ≡ b → b ≡ true → list_all (λ u. condition_true (λ _. u) c) (cond b (v ∷ filter not_null vs) (filter not_null vs)) ≡ true → condition_true (λ _. v) c ≡ true
    first true e f h = (and_parts (condition_true (λ _. v) c) (all_make vs c) h).0
    first false e f h = cc

    by : (b : Bool) → is_true_that w Eq v ≡ b → is_plain v ≡ true → (b || list_any (is_true_that w Eq) vs) ≡ true → (list_any (is_true_that w Eq) vs ≡ true → condition_true (λ _. w) c ≡ true) → condition_true (λ _. w) c ≡ true
    by true e r k ih = ap (λ x. condition_true (λ _. x) c) (eq_is w v p r e) ∙ first (not_null v) refl (compared_of w v Eq p r e).right h
    by false e r k ih = ih k

op_sound : (op : Op) (w a : Value) (c : Condition) → is_plain w ≡ true → is_plain a ≡ true → PlainIn c → op_implies op a c ≡ true → is_true_that w op a ≡ true → condition_true (λ _. w) c ≡ true
op_sound Eq w a c p q r h k = made_true w (a ∷ []) c p (λ i. q i && true) h (or_left (is_true_that w Eq a) false k)
op_sound Ne w a (Compare d Ne b) p q r h k = through Ne Eq Ne (record { ll = refl; le = refl; lg = refl; el = refl; ee = refl; eg = refl; gl = refl; ge = refl; gg = refl }) w a b p q r k h
op_sound Lt w a (Compare d Lt b) p q r h k = through Lt Le Lt (record { ll = refl; le = refl; lg = refl; el = refl; ee = refl; eg = refl; gl = refl; ge = refl; gg = refl }) w a b p q r k h
op_sound Lt w a (Compare d Le b) p q r h k = through Lt Le Le (record { ll = refl; le = refl; lg = refl; el = refl; ee = refl; eg = refl; gl = refl; ge = refl; gg = refl }) w a b p q r k h
op_sound Lt w a (Compare d Ne b) p q r h k = through Lt Le Ne (record { ll = refl; le = refl; lg = refl; el = refl; ee = refl; eg = refl; gl = refl; ge = refl; gg = refl }) w a b p q r k h
op_sound Le w a (Compare d Lt b) p q r h k = through Le Lt Lt (record { ll = refl; le = refl; lg = refl; el = refl; ee = refl; eg = refl; gl = refl; ge = refl; gg = refl }) w a b p q r k h
op_sound Le w a (Compare d Le b) p q r h k = through Le Le Le (record { ll = refl; le = refl; lg = refl; el = refl; ee = refl; eg = refl; gl = refl; ge = refl; gg = refl }) w a b p q r k h
op_sound Le w a (Compare d Ne b) p q r h k = through Le Lt Ne (record { ll = refl; le = refl; lg = refl; el = refl; ee = refl; eg = refl; gl = refl; ge = refl; gg = refl }) w a b p q r k h
op_sound Gt w a (Compare d Gt b) p q r h k = through Gt Ge Gt (record { ll = refl; le = refl; lg = refl; el = refl; ee = refl; eg = refl; gl = refl; ge = refl; gg = refl }) w a b p q r k h
op_sound Gt w a (Compare d Ge b) p q r h k = through Gt Ge Ge (record { ll = refl; le = refl; lg = refl; el = refl; ee = refl; eg = refl; gl = refl; ge = refl; gg = refl }) w a b p q r k h
op_sound Gt w a (Compare d Ne b) p q r h k = through Gt Ge Ne (record { ll = refl; le = refl; lg = refl; el = refl; ee = refl; eg = refl; gl = refl; ge = refl; gg = refl }) w a b p q r k h
op_sound Ge w a (Compare d Gt b) p q r h k = through Ge Gt Gt (record { ll = refl; le = refl; lg = refl; el = refl; ee = refl; eg = refl; gl = refl; ge = refl; gg = refl }) w a b p q r k h
op_sound Ge w a (Compare d Ge b) p q r h k = through Ge Ge Ge (record { ll = refl; le = refl; lg = refl; el = refl; ee = refl; eg = refl; gl = refl; ge = refl; gg = refl }) w a b p q r k h
op_sound Ge w a (Compare d Ne b) p q r h k = through Ge Gt Ne (record { ll = refl; le = refl; lg = refl; el = refl; ee = refl; eg = refl; gl = refl; ge = refl; gg = refl }) w a b p q r k h
op_sound op w a (NotNull d) p q r h k = true_not_null w a op p q k
op_sound op w a c p q r h k = cc

pub implies_sound : (d c : Condition) (w : Value) → is_plain w ≡ true → PlainIn d → PlainIn c → implies d c ≡ true → condition_true (λ _. w) d ≡ true → condition_true (λ _. w) c ≡ true
implies_sound (Compare x op a) c w p q r h k = op_sound op w a c p q r h k
implies_sound (OneOf x vs) c w p q r h k = made_true w vs c p q h k
implies_sound (IsNull x) (IsNull y) w p q r h k = k
implies_sound (NotNull x) (NotNull y) w p q r h k = k
implies_sound (IsNull x) c w p q r h k = cc
implies_sound (NotNull x) c w p q r h k = cc

same_op_is : (o p : Op) → same_op o p ≡ true → o ≡ p
same_op_is Eq Eq h = refl
same_op_is Ne Ne h = refl
same_op_is Lt Lt h = refl
same_op_is Le Le h = refl
same_op_is Gt Gt h = refl
same_op_is Ge Ge h = refl
same_op_is o p h = cc

-- the same condition is true of the same value
pub same_test_true : (d c : Condition) (w : Value) → same_test d c ≡ true → condition_true (λ _. w) d ≡ condition_true (λ _. w) c
same_test_true (Compare x op a) (Compare y op' b) w h =
    let both : (same_op op op' ≡ true) × (same_value a b ≡ true) = and_parts (same_op op op') (same_value a b) h in
    λ i. is_true_that w (same_op_is op op' both.0 i) ((same_value-Decides a b).0 both.1 i)
same_test_true (OneOf x vs) (OneOf y ws) w h = ap (λ us. list_any (is_true_that w Eq) us) ((same_values-Decides vs ws).0 h)
same_test_true (IsNull x) (IsNull y) w h = refl
same_test_true (NotNull x) (NotNull y) w h = refl
same_test_true d c w h = cc
