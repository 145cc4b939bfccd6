-- Sameness and products of values.
use Rattle.std.proofs.Common.{◌≡◌, ◌<◌, ◌^◌, Some, None, IsTrue, refl, arith}
use Rattle.std.specs.Prelude.{ℤ, ◌*ℤ◌, nat_abs}
use Rattle.std.proofs.lemmas.Bool.Decides.{nat_tests}
use Rattle.wh_base.proofs.Same.{same_value-Decides}
use Rattle.wh_base.specs.Values.{is_small, product_value}
use Rattle.wh_base.specs.declared.values.Value.{Value}
use Rattle.wh_base.specs.declared.values.Value.TheVariants.{Null, Num}
use Rattle.wh_tuple.specs.Meant.{number_in}

pub ruleset sameness = (same_value-Decides)

-- the number is small where the value is
pub small-number : (v : Value) (n : ℤ) → number_in v ≡ Some n → IsTrue (is_small v) → nat_abs n < 10 ^ 15
small-number (Num m) n e h = let same : m ≡ n = cc in rw (← same) (grind (arith, nat_tests))
small-number v n e h = cc

pub product-of : (v w : Value) (m n : ℤ) → number_in v ≡ Some m → number_in w ≡ Some n → product_value v w ≡ Num (m *ℤ n)
product-of (Num x) (Num y) m n e f = cc
product-of v w m n e f = cc

pub no-product-left : (v w : Value) → number_in v ≡ None → product_value v w ≡ Null
no-product-left (Num x) w e = cc
no-product-left v w e = refl

pub no-product-right : (v w : Value) → number_in w ≡ None → product_value v w ≡ Null
no-product-right (Num x) (Num y) e = cc
no-product-right v w e = refl

pub ruleset products = (small-number, product-of, no-product-left, no-product-right)
