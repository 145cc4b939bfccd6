-- What is kept of two lists in a row is what is kept of each, merged.
use Rattle.std.proofs.Common.{◌≡◌, ◌∙◌, sym, ap, refl, ℕ, ◌+◌, Bool, true, false, cond, List, [], ◌∷◌, ◌++◌, length, map}
use Rattle.std.specs.Prelude.{◌+ℤ◌}
use Rattle.std.specs.List.{filter}
use Rattle.std.proofs.Math.IntN.{+ℤ_assoc, +ℤ_idl}
use Rattle.std.proofs.lemmas.List.Elements.{filter-append}
use Rattle.std.proofs.lemmas.List.{map-append, length-append}
use Rattle.std.specs.Ordering.{is_gt, is_lt, ordering_reverse}
use Rattle.std.specs.declared.cmp.Ordering.{Ordering}
use Rattle.std.specs.declared.cmp.Ordering.TheVariants.{Less, Equal, Greater}
use Rattle.wh_base.specs.Values.{value_cmp}
use Rattle.wh_base.specs.ValueLaws.{value_total, value_exact}
use Rattle.wh_base.specs.declared.values.Value.{Value}
use Rattle.wh_base.specs.declared.values.Value.TheVariants.{Null}
use Rattle.wh_base.specs.declared.columns.ColRef.{ColRef}
use Rattle.wh_base.specs.declared.columns.Expr.{Expr}
use Rattle.wh_base.specs.declared.columns.Agg.{Agg}
use Rattle.wh_base.specs.declared.columns.Agg.TheVariants.{CountAll, Count, Sum, Avg, Min, Max}
use Rattle.def_meaning.specs.Meaning.{lesser, greater, either_value, min_value, max_value, total_of, number_of, values_of, expr_value, not_null}
use Rattle.def_meaning.specs.Accumulated.{acc_of, acc_by, agg_values, merged_acc}

-- ---- the lesser of three

pub is_greater : (o : Ordering) → is_gt o ≡ true → o ≡ Greater
is_greater Less h = cc
is_greater Equal h = cc
is_greater Greater h = refl

pub after_turns : (v w : Value) → value_cmp v w ≡ Greater → value_cmp w v ≡ Less
after_turns v w h = value_total.antisymm w v ∙ ap ordering_reverse h

pub before_turns : (v w : Value) → value_cmp v w ≡ Less → value_cmp w v ≡ Greater
before_turns v w h = value_total.antisymm w v ∙ ap ordering_reverse h

pub greater_trans : (a b c : Value) → value_cmp a b ≡ Greater → value_cmp b c ≡ Greater → value_cmp a c ≡ Greater
greater_trans a b c h k = before_turns c a (value_total.trans c b a (after_turns b c k) (after_turns a b h))

-- at most, then at most
pub at_most_trans : (a b c : Value) → is_gt (value_cmp a b) ≡ false → is_gt (value_cmp b c) ≡ false → is_gt (value_cmp a c) ≡ false
at_most_trans a b c h k = by (value_cmp a b) (value_cmp b c) refl refl h k
  where
    by : (o p : Ordering) → value_cmp a b ≡ o → value_cmp b c ≡ p → is_gt o ≡ false → is_gt p ≡ false → is_gt (value_cmp a c) ≡ false
    by Less Less e f h k = ap is_gt (value_total.trans a b c e f)
    by Less Equal e f h k = ap is_gt (ap (value_cmp a) (sym (value_exact b c f)) ∙ e)
    by Less Greater e f h k = cc
    by Equal p e f h k = ap (λ v. is_gt (value_cmp v c)) (value_exact a b e) ∙ ap is_gt f ∙ k
    by Greater p e f h k = cc

lesser_assoc : (a b c : Value) → lesser (lesser a b) c ≡ lesser a (lesser b c)
lesser_assoc a b c = by (is_gt (value_cmp a b)) (is_gt (value_cmp b c)) refl refl
  where
    by : (x y : Bool) → is_gt (value_cmp a b) ≡ x → is_gt (value_cmp b c) ≡ y → lesser (cond x b a) c ≡ lesser a (cond y c b)
    by true true e f =
        let goes : is_gt (value_cmp a c) ≡ true = ap is_gt (greater_trans a b c (is_greater (value_cmp a b) e) (is_greater (value_cmp b c) f)) in
        ap (λ x. cond x c b) f ∙ sym (ap (λ x. cond x c a) goes)
    by true false e f = ap (λ x. cond x c b) f ∙ sym (ap (λ x. cond x b a) e)
    by false true e f = refl
    by false false e f = ap (λ x. cond x c a) (at_most_trans a b c e f) ∙ sym (ap (λ x. cond x b a) e)

-- NULL is after all values, so it gives way to the lesser by itself
pub either_lesser : (v w : Value) → either_value lesser v w ≡ lesser v w
either_lesser Null Null = refl
either_lesser Null w = refl
either_lesser v Null = refl
either_lesser v w = refl

pub either_lesser_assoc : (a b c : Value) → either_value lesser (either_value lesser a b) c ≡ either_value lesser a (either_value lesser b c)
either_lesser_assoc a b c =
    either_lesser (either_value lesser a b) c
    ∙ ap (λ v. lesser v c) (either_lesser a b)
    ∙ lesser_assoc a b c
    ∙ ap (lesser a) (sym (either_lesser b c))
    ∙ sym (either_lesser a (either_value lesser b c))

-- ---- the greater of three

pub is_less : (o : Ordering) → is_lt o ≡ true → o ≡ Less
is_less Less h = refl
is_less Equal h = cc
is_less Greater h = cc

pub at_least_trans : (a b c : Value) → is_lt (value_cmp a b) ≡ false → is_lt (value_cmp b c) ≡ false → is_lt (value_cmp a c) ≡ false
at_least_trans a b c h k = by (value_cmp a b) (value_cmp b c) refl refl h k
  where
    by : (o p : Ordering) → value_cmp a b ≡ o → value_cmp b c ≡ p → is_lt o ≡ false → is_lt p ≡ false → is_lt (value_cmp a c) ≡ false
    by Greater Greater e f h k = ap is_lt (greater_trans a b c e f)
    by Greater Equal e f h k = ap is_lt (ap (value_cmp a) (sym (value_exact b c f)) ∙ e)
    by Greater Less e f h k = cc
    by Equal p e f h k = ap (λ v. is_lt (value_cmp v c)) (value_exact a b e) ∙ ap is_lt f ∙ k
    by Less p e f h k = cc

greater_assoc : (a b c : Value) → greater (greater a b) c ≡ greater a (greater b c)
greater_assoc a b c = by (is_lt (value_cmp a b)) (is_lt (value_cmp b c)) refl refl
  where
    by : (x y : Bool) → is_lt (value_cmp a b) ≡ x → is_lt (value_cmp b c) ≡ y → greater (cond x b a) c ≡ greater a (cond y c b)
    by true true e f =
        let goes : is_lt (value_cmp a c) ≡ true = ap is_lt (value_total.trans a b c (is_less (value_cmp a b) e) (is_less (value_cmp b c) f)) in
        ap (λ x. cond x c b) f ∙ sym (ap (λ x. cond x c a) goes)
    by true false e f = ap (λ x. cond x c b) f ∙ sym (ap (λ x. cond x b a) e)
    by false true e f = refl
    by false false e f = ap (λ x. cond x c a) (at_least_trans a b c e f) ∙ sym (ap (λ x. cond x b a) e)

pub either_null : (v : Value) → either_value greater v Null ≡ v
either_null Null = refl
either_null v = refl

pub either_greater_assoc : (a b c : Value) → either_value greater (either_value greater a b) c ≡ either_value greater a (either_value greater b c)
either_greater_assoc Null b c = refl
either_greater_assoc a Null c = refl
either_greater_assoc a b Null = either_null (either_value greater a b)
either_greater_assoc a b c = left (is_lt (value_cmp a b)) ∙ greater_assoc a b c ∙ sym (right (is_lt (value_cmp b c)))
  where
    left : (x : Bool) → either_value greater (cond x b a) c ≡ greater (cond x b a) c
    left true = refl
    left false = refl

    right : (y : Bool) → either_value greater a (cond y c b) ≡ greater a (cond y c b)
    right true = refl
    right false = refl

-- ---- lists in a row

pub min-append : (vs ws : List Value) → min_value (vs ++ ws) ≡ either_value lesser (min_value vs) (min_value ws)
min-append [] ws = refl
min-append (v ∷ vs) ws = ap (either_value lesser v) (min-append vs ws) ∙ sym (either_lesser_assoc v (min_value vs) (min_value ws))

pub max-append : (vs ws : List Value) → max_value (vs ++ ws) ≡ either_value greater (max_value vs) (max_value ws)
max-append [] ws = refl
max-append (v ∷ vs) ws = ap (either_value greater v) (max-append vs ws) ∙ sym (either_greater_assoc v (max_value vs) (max_value ws))

pub total-append : (vs ws : List Value) → total_of (vs ++ ws) ≡ total_of vs +ℤ total_of ws
total-append [] ws = sym (+ℤ_idl (total_of ws))
total-append (v ∷ vs) ws = ap (λ n. number_of v +ℤ n) (total-append vs ws) ∙ sym (+ℤ_assoc (number_of v) (total_of vs) (total_of ws))

pub acc_by-append : (m n : ℕ) (vs ws : List Value) → acc_by (m + n) (vs ++ ws) ≡ merged_acc (acc_by m vs) (acc_by n ws)
acc_by-append m n vs ws =
    λ i. record { rows = m + n; count = length-append vs ws i; sum = total-append vs ws i; least = min-append vs ws i; greatest = max-append vs ws i }

pub values_of-append : {T : Type 0} (value : T → ColRef → Value) (e : Expr) (ts us : List T) → values_of value e (ts ++ us) ≡ values_of value e ts ++ values_of value e us
values_of-append value e ts us =
    ap (filter not_null) (map-append (λ t. expr_value (value t) e) ts us)
    ∙ filter-append not_null (map (λ t. expr_value (value t) e) ts) (map (λ t. expr_value (value t) e) us)

pub agg_values-append : {T : Type 0} (value : T → ColRef → Value) (a : Agg) (ts us : List T) → agg_values value (ts ++ us) a ≡ agg_values value ts a ++ agg_values value us a
agg_values-append value CountAll ts us = refl
agg_values-append value (Count e) ts us = values_of-append value e ts us
agg_values-append value (Sum e) ts us = values_of-append value e ts us
agg_values-append value (Avg e) ts us = values_of-append value e ts us
agg_values-append value (Min e) ts us = values_of-append value e ts us
agg_values-append value (Max e) ts us = values_of-append value e ts us

-- what is kept of two parts of a group, merged, is what is kept of the whole
pub acc_of-append : {T : Type 0} (value : T → ColRef → Value) (a : Agg) (ts us : List T) → acc_of value (ts ++ us) a ≡ merged_acc (acc_of value ts a) (acc_of value us a)
acc_of-append value a ts us =
    (λ i. acc_by (length-append ts us i) (agg_values-append value a ts us i))
    ∙ acc_by-append (length ts) (length us) (agg_values value ts a) (agg_values value us a)
