-- A number of at most four digits is read digit by digit.
use Rattle.std.proofs.Common.{◌≡◌, ◌∙◌, ◌<◌, ◌+◌, ◌-◌, ◌*◌, ◌^◌, ℕ, List, ◌∷◌, cond, Option, None, false, ap, sym, arith, zero, suc}
use Rattle.std.specs.Char.{is_ascii_digit}
use Rattle.wh_base.specs.Values.{digits_value}

-- a byte that is no digit ends it
pub no_digit : (n d : ℕ) (ds : List ℕ) (r : Option ℕ) → digits_value n (d ∷ ds) ≡ r → is_ascii_digit d ≡ false → None ≡ r
no_digit n d ds r e t = sym (ap (λ b. cond b (digits_value (n * 10 + (d - 48)) ds) None) t) ∙ e

-- before the fourth digit the number is small
pub few_so_far : (k n : ℕ) → k < 4 → n < 10 ^ k → n < 1000
few_so_far zero n less few = omega (arith, few)
few_so_far (suc zero) n less few = omega (arith, few)
few_so_far (suc (suc zero)) n less few = omega (arith, few)
few_so_far (suc (suc (suc zero))) n less few = omega (arith, few)
few_so_far (suc (suc (suc (suc k)))) n less few = absurd (omega (arith, less))
