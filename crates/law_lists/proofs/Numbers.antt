-- Numbers and lists of numbers: whether one is listed, and whether any is listed twice.
use Rattle.std.proofs.Common.{◌≡◌, ◌∙◌, sym, subst, refl, ℕ, Bool, true, false, List, [], ◌∷◌, ◌==◌, ◌||◌, true≢false}
use Rattle.std.proofs.lemmas.Bool.{eq-eqb, eqb-true}
use Rattle.wh_base.specs.Lists.{has_number}
use Rattle.law_lists.proofs.Each.{Each}

pub equal_turned : (m n : ℕ) → (m == n) ≡ (n == m)
equal_turned m n = by (m == n) (n == m) refl refl
  where
    by : (a b : Bool) → (m == n) ≡ a → (n == m) ≡ b → a ≡ b
    by true true e f = refl
    by true false e f = absurd (true≢false (sym (eq-eqb n m (sym (eqb-true m n e))) ∙ f))
    by false true e f = absurd (true≢false (sym (eq-eqb m n (sym (eqb-true n m f))) ∙ e))
    by false false e f = refl

pub differs_turned : (m n : ℕ) → (m == n) ≡ false → (n == m) ≡ false
differs_turned m n h = equal_turned n m ∙ h

-- what holds of each holds of one that is listed
pub number_among : (P : ℕ → Type 0) (ns : List ℕ) (n : ℕ) → Each P ns → has_number ns n ≡ true → P n
number_among P [] n h e = cc
number_among P (m ∷ ns) n h e = by (m == n) refl e (number_among P ns n h.1)
  where
    by : (b : Bool) → (m == n) ≡ b → (b || has_number ns n) ≡ true → (has_number ns n ≡ true → P n) → P n
    by true f g later = subst P (eqb-true m n f) h.0
    by false f g later = later g

-- each number once
abbrev pub Distinct : List ℕ → Type 0
Distinct [] = Unit {0}
Distinct (n ∷ ns) = (has_number ns n ≡ false) × Distinct ns
