-- The partitions after an ADD or a DROP.
use Rattle.std.proofs.Common.{◌≡◌, ◌≢◌, ◌-◌, ◌<◌, ◌≤◌, ◌++◌, inl, inr, ℕ, zero, suc, true, false, IsTrue, List, [], ◌∷◌, Option, Some, None, length, get_or, slice_get, refl, arith, sym, ap, ◌∙◌, subst}
use Rattle.std.proofs.Math.Nat.{eq-or-lt_of_le}
use Rattle.std.proofs.lemmas.List.Elements.{All-filter, All-head, All-push, All-tail}
use Rattle.std.proofs.lemmas.Bool.Decides.{nat_tests}
use Rattle.std.specs.Prelude.{not, ◌==◌}
use Rattle.std.proofs.lemmas.List.Kept.{AllPairs-filter}
use Rattle.std.proofs.lemmas.List.Quantifiers.{all_pairs_push}
use Rattle.std.proofs.lemmas.Option.{get_or_from_slice_get, slice_get-get_or, slice_get_within}
use Rattle.std.specs.List.{All, remove}
use Rattle.std.specs.Option.{option_map}
use Rattle.std.specs.Ordering.{is_lt}
use Rattle.std.specs.declared.cmp.Ordering.{Ordering}
use Rattle.std.specs.declared.cmp.Ordering.TheVariants.{Less, Equal, Greater}
use Rattle.def_effect.specs.Define.{is_above, is_above_last}
use Rattle.wh_base.specs.Lists.{last, option_case}
use Rattle.wh_base.specs.ValueLaws.{value_total}
use Rattle.wh_base.specs.Values.{value_cmp}
use Rattle.wh_base.specs.declared.tables.Part.{Part}
use Rattle.wh_base.specs.declared.values.Value.{Value}
use Rattle.wh_partmap.proofs.UpperBounds.{last_bound}
use Rattle.wh_partmap.specs.History.{number_at, upper_bounds, without_part}
use Rattle.wh_partmap.specs.Laws.{AreParts, BoundsRise, NumbersDiffer}

is_less : (o : Ordering) → is_lt o ≡ true → o ≡ Less
is_less Less h = refl
is_less Equal h = cc
is_less Greater h = cc

above_trans : (a b c : Option Value) → IsTrue (is_above a b) → IsTrue (is_above b c) → IsTrue (is_above a c)
above_trans None b c h k = cc
above_trans (Some v) None c h k = cc
above_trans (Some v) (Some w) None h k = refl
above_trans (Some v) (Some w) (Some x) h k =
    ap is_lt (value_total.trans v w x (is_less (value_cmp v w) h) (is_less (value_cmp w x) k))

-- what is above the last bound is above all
above_each : (parts : List Part) (below : Option Value) → BoundsRise parts → is_above_last (upper_bounds parts) below ≡ true → (k : ℕ) (d : Part) → k < length parts → IsTrue (is_above (get_or parts k d).below below)
above_each parts below up above k d within =
    let n = length parts in
    let end : last (upper_bounds parts) ≡ Some (get_or parts (n - 1) d).below =
    last_bound parts ∙ ap (option_map (λ (p : Part). p.below)) (slice_get-get_or parts (n - 1) d (omega arith)) in
    let top : IsTrue (is_above (get_or parts (n - 1) d).below below) = subst (λ o. option_case o true (λ b. is_above b below) ≡ true) end above in
    let le : k ≤ n - 1 = omega arith in
    elim (eq-or-lt_of_le le) as (λ _. IsTrue (is_above (get_or parts k d).below below)) [
      | inl same ↦ subst (λ i. IsTrue (is_above (get_or parts i d).below below)) (sym same) top
      | inr less ↦ above_trans (get_or parts k d).below (get_or parts (n - 1) d).below below (up k (n - 1) d less (omega arith)) top
    ]

pub parts_more : (made : ℕ) (parts : List Part) (p : Part) → AreParts made parts → p.number ≡ suc made → is_above_last (upper_bounds parts) p.below ≡ true → AreParts p.number (parts ++ p ∷ [])
parts_more made parts p are number above =
    record {
      bounds = all_pairs_push (λ q r. IsTrue (is_above q.below r.below)) parts p are.bounds (above_each parts p.below are.bounds above);
      numbers = all_pairs_push (λ q r. q.number ≢ r.number) parts p are.numbers (λ k d l e. let count = are.counts k d l in absurd (omega (arith, count.1)));
      counts =
          All-push (λ q. (1 ≤ q.number) × (q.number ≤ p.number)) parts p
          (λ k d l. let count = are.counts k d l in (count.0, let below : (get_or parts k d).number ≤ made = count.1 in omega arith))
          (omega arith, omega arith);
    }

pub parts_fewer : (made number : ℕ) (parts : List Part) → AreParts made parts → AreParts made (without_part parts number)
parts_fewer made number parts are =
    record {
      bounds = AllPairs-filter (λ q r. IsTrue (is_above q.below r.below)) _ parts are.bounds;
      numbers = AllPairs-filter (λ q r. q.number ≢ r.number) _ parts are.numbers;
      counts = All-filter _ (λ q. (1 ≤ q.number) × (q.number ≤ made)) parts are.counts;
    }

pub counted_still : (made more : ℕ) (parts : List Part) → made ≤ more → AreParts made parts → AreParts more parts
counted_still made more parts le are =
    record {
      bounds = are.bounds;
      numbers = are.numbers;
      counts = λ k d l. let count = are.counts k d l in (count.0, let below : (get_or parts k d).number ≤ made = count.1 in omega arith);
    }

-- ---- the partition of a number stands at one place

other : (m n : ℕ) → m ≢ n → not (m == n) ≡ true
other m n h = grind (arith, nat_tests)

itself : (m n : ℕ) → m ≡ n → not (m == n) ≡ false
itself m n h = grind (arith, nat_tests)

others_stay : (p : Part) (parts : List Part) → All (λ (q : Part). p.number ≢ q.number) parts → without_part parts p.number ≡ parts
others_stay p [] all = refl
others_stay p (q ∷ qs) all =
    let head : not (q.number == p.number) ≡ true = other q.number p.number (λ e. All-head (λ (r : Part). p.number ≢ r.number) q qs all (sym e)) in
    let rest : without_part qs p.number ≡ qs = others_stay p qs (All-tail (λ (r : Part). p.number ≢ r.number) q qs all) in
    rw (head, rest) refl

without_at : (parts : List Part) (place : ℕ) (p : Part) → NumbersDiffer parts → slice_get parts place ≡ Some p → without_part parts p.number ≡ remove parts place
without_at [] place p differ at = cc
without_at (q ∷ qs) zero p differ at =
    let same : q ≡ p = cc in
    let head : not (q.number == p.number) ≡ false = itself q.number p.number (ap (λ (r : Part). r.number) same) in
    let rest : without_part qs p.number ≡ qs = others_stay p qs (λ k d l. subst (λ (r : Part). r.number ≢ (get_or qs k d).number) same (differ 0 (suc k) d (omega arith) (omega arith))) in
    rw (head, rest) refl
without_at (q ∷ qs) (suc i) p differ at =
    let within : i < length qs = slice_get_within qs i p at in
    let there : get_or qs i p ≡ p = get_or_from_slice_get qs i p p at in
    let head : not (q.number == p.number) ≡ true = other q.number p.number (subst (λ (r : Part). q.number ≢ r.number) there (differ 0 (suc i) p (omega arith) (omega arith))) in
    rw head (ap (λ ps. q ∷ ps) (without_at qs i p (λ j k d l m. differ (suc j) (suc k) d (omega arith) (omega arith)) at))

pub without_place : (made : ℕ) (parts : List Part) (place : ℕ) → AreParts made parts → place < length parts → without_part parts (number_at parts place) ≡ remove parts place
without_place made [] place are within = absurd (omega arith)
without_place made (q ∷ qs) place are within =
    let at : slice_get (q ∷ qs) place ≡ Some (get_or (q ∷ qs) place q) = slice_get-get_or (q ∷ qs) place q within in
    ap (λ o. without_part (q ∷ qs) (option_case o 0 (λ (p : Part). p.number))) at ∙ without_at (q ∷ qs) place (get_or (q ∷ qs) place q) are.numbers at
