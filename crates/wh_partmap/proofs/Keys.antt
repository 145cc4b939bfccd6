-- Where a key lies among partitions with rising bounds.
use Rattle.std.proofs.Common.{◌≡◌, ◌+◌, ◌≤◌, ℕ, suc, Bool, true, false, cond, not, nat_lt, List, [], ◌∷◌, Some, None, Option, IsTrue, length, refl, arith, sym, ap, ◌∙◌}
use Rattle.std.proofs.lemmas.Bool.Decides.{nat_tests}
use Rattle.std.specs.List.{find, position, position_or_len, prefix_len, slice_get}
use Rattle.std.specs.Option.{option_and_then}
use Rattle.std.proofs.lemmas.List.Folds.{find_at}
use Rattle.std.proofs.lemmas.Option.{slice_get_past}
use Rattle.wh_partmap.proofs.Points.{parted}
use Rattle.std.specs.List.Sorted.{IsPartitionedBy}
use Rattle.std.specs.Ordering.{is_ge, is_lt}
use Rattle.std.specs.declared.cmp.Ordering.{Ordering}
use Rattle.std.specs.declared.cmp.Ordering.TheVariants.{Less, Equal, Greater}
use Rattle.def_effect.specs.Define.{is_above}
use Rattle.wh_base.specs.Lists.{option_case}
use Rattle.wh_base.specs.Tables.{with_intervals}
use Rattle.wh_base.specs.ValueLaws.{value_total}
use Rattle.wh_base.specs.Values.{value_cmp, interval_has}
use Rattle.wh_base.specs.declared.tables.Part.{Part}
use Rattle.wh_base.specs.declared.values.Value.{Value}
use Rattle.wh_partmap.specs.History.{lies_below, part_with_key, place_of_key}
use Rattle.wh_partmap.specs.Laws.{BoundsRise}

is_less : (o : Ordering) → is_lt o ≡ true → o ≡ Less
is_less Less h = refl
is_less Equal h = cc
is_less Greater h = cc

not_less : (o : Ordering) → is_ge o ≡ true → o ≡ Less → ⊥
not_less Less h e = cc
not_less Equal h e = cc
not_less Greater h e = cc

not_lt : (o : Ordering) → (o ≡ Less → ⊥) → is_ge o ≡ true
not_lt Less h = absurd (h refl)
not_lt Equal h = refl
not_lt Greater h = refl

-- a key at or above a bound is above the lower ones
below_lower : (key : Value) (b c : Option Value) → IsTrue (is_above b c) → option_case c false (λ w. is_ge (value_cmp key w)) ≡ true → option_case b false (λ v. is_ge (value_cmp key v)) ≡ true
below_lower key None c up h = cc
below_lower key (Some v) None up h = cc
below_lower key (Some v) (Some w) up h =
    not_lt (value_cmp key v) (λ less. not_less (value_cmp key w) h (value_total.trans key v w less (is_less (value_cmp v w) up)))

pub key_parts : (key : Value) (parts : List Part) → BoundsRise parts → IsPartitionedBy (lies_below key) parts
key_parts key parts up = parted (lies_below key) (λ p q. IsTrue (is_above p.below q.below)) parts up (λ p q r h. below_lower key p.below q.below r h)

step_by : (o : Ordering) (m n : ℕ) → (is_ge o ≡ true → m ≡ n) → cond (not (is_lt o)) (1 + m) 0 ≡ cond (is_ge o) (1 + n) 0
step_by Less m n same = refl
step_by Equal m n same = ap (λ k. 1 + k) (same refl)
step_by Greater m n same = ap (λ k. 1 + k) (same refl)

step : (key : Value) (b : Option Value) (m n : ℕ) → (option_case b true (λ v. is_ge (value_cmp key v)) ≡ true → m ≡ n) → cond (not (option_case b true (λ v. is_lt (value_cmp key v)))) (1 + m) 0 ≡ cond (option_case b false (λ v. is_ge (value_cmp key v))) (1 + n) 0
step key None m n same = refl
step key (Some v) m n same = step_by (value_cmp key v) m n same

-- the first partition that doesn't lie below the key has it
place_from : (key : Value) (lo : Option Value) (parts : List Part) → option_case lo true (λ v. is_ge (value_cmp key v)) ≡ true → position_or_len (λ p. interval_has p.1 key) (with_intervals lo parts) ≡ prefix_len (lies_below key) parts
place_from key lo [] h = refl
place_from key lo (p ∷ ps) h = rw h (step key p.below _ _ (place_from key p.below ps))

length_intervals : (lo : Option Value) (parts : List Part) → length (with_intervals lo parts) ≡ length parts
length_intervals lo [] = refl
length_intervals lo (p ∷ ps) = ap suc (length_intervals p.below ps)

pub place_found : (key : Value) (parts : List Part) → place_of_key parts key ≡ cond (nat_lt (prefix_len (lies_below key) parts) (length parts)) (Some (prefix_len (lies_below key) parts)) None
place_found key parts = rw (place_from key None parts refl, length_intervals None parts) refl

was_past : (m n : ℕ) → nat_lt m n ≡ false → n ≤ m
was_past m n h = grind (arith, nat_tests)

found_at : {X : Type 0} (p : X → Bool) (xs : List X) → option_and_then (λ i. slice_get xs i) (position p xs) ≡ find p xs
found_at p xs = by (nat_lt (position_or_len p xs) (length xs)) refl ∙ sym (find_at p xs)
  where
    by : (b : Bool) → nat_lt (position_or_len p xs) (length xs) ≡ b → option_and_then (λ i. slice_get xs i) (cond b (Some (position_or_len p xs)) None) ≡ slice_get xs (position_or_len p xs)
    by true e = refl
    by false e = sym (slice_get_past xs (position_or_len p xs) (was_past (position_or_len p xs) (length xs) e))

pub part_found : (parts : List Part) (key : Value) → option_and_then (λ i. slice_get (with_intervals None parts) i) (place_of_key parts key) ≡ part_with_key parts key
part_found parts key = found_at (λ p. interval_has p.1 key) (with_intervals None parts)

pub ruleset finding = (place_found)
