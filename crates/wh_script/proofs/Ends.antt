-- The ends of lines.
use Rattle.std.proofs.Common.{◌≡◌, ℕ, ◌-◌, ◌<◌, suc, List, [], ◌∷◌, length, take, get_or, false, refl, ap, arith}
use Rattle.std.specs.Prelude.{◌==◌}
use Rattle.def_grammar.specs.Lines.{before_last}
use Rattle.wh_base.specs.Lists.{last, option_nat_is}

pub before_last-take : (xs : List ℕ) → before_last xs ≡ take (length xs - 1) xs
before_last-take [] = refl
before_last-take (x ∷ []) = refl
before_last-take (x ∷ y ∷ ys) =
    let one : length (x ∷ y ∷ ys) - 1 ≡ suc (length (y ∷ ys) - 1) = omega arith in
    rw one (ap (λ zs. x ∷ zs) (before_last-take (y ∷ ys)))

-- whether there is a last byte, and which
pub last-is : (xs : List ℕ) (b : ℕ) → 0 < length xs → option_nat_is (last xs) b ≡ (get_or xs (length xs - 1) 0 == b)
last-is [] b h = absurd (omega arith)
last-is (x ∷ []) b h = refl
last-is (x ∷ y ∷ ys) b h =
    let one : length (x ∷ y ∷ ys) - 1 ≡ suc (length (y ∷ ys) - 1) = omega arith in
    rw one (last-is (y ∷ ys) b (omega arith))

pub last-none : (xs : List ℕ) (b : ℕ) → length xs ≡ 0 → option_nat_is (last xs) b ≡ false
last-none [] b h = refl
last-none (x ∷ xs) b h = absurd (omega arith)

pub ruleset ends = (before_last-take)

pub ruleset lasts = (last-is, last-none)
