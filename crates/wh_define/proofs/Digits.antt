-- Powers of ten beside 128 bits.
use Rattle.std.proofs.Common.{◌≡◌, ◌<◌, ◌≤◌, ◌^◌, arith, lit≤, ℕ, true}
use Rattle.std.specs.Prelude.{nat_lt}
use Rattle.std.proofs.Math.Nat.{pow-le-pow_right}
use Rattle.std.proofs.lemmas.Bool.Decides.{nat_tests}

-- no number of 128 bits has more than 39 digits
pub below_power : (digits n : ℕ) → 38 < digits → n ≤ 2 ^ 127 → true ≡ nat_lt n (10 ^ digits)
below_power digits n more small =
    let rises : 10 ^ 39 ≤ 10 ^ digits = pow-le-pow_right (lit≤ tt) more in
    let less : n < 10 ^ digits = omega (arith, rises, small) in
    grind (arith, nat_tests, less)

-- the lower powers have 128 bits
pub power_fits : (digits : ℕ) → digits ≤ 38 → 10 ^ digits < 2 ^ 128
power_fits digits few =
    let rises : 10 ^ digits ≤ 10 ^ 38 = pow-le-pow_right (lit≤ tt) few in
    omega (arith, rises)

pub ruleset digits = (below_power, power_fits)
