-- The number that a value is.
use Rattle.std.proofs.Common.{◌≡◌, refl}
use Rattle.std.specs.Prelude.{pos, unwrap_or}
use Rattle.def_meaning.specs.Meaning.{number_of}
use Rattle.wh_base.specs.declared.values.Value.{Value}
use Rattle.wh_base.specs.declared.values.Value.TheVariants.{Num}
use Rattle.wh_tuple.specs.Meant.{number_in}

pub number-of : (v : Value) → number_of v ≡ unwrap_or (number_in v) (pos 0)
number-of (Num n) = refl
number-of v = refl

pub ruleset numbers = (number-of)
