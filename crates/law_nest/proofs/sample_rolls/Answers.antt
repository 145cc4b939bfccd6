use Rattle.std.proofs.Common.{refl}
use Rattle.wh_lex.specs.Lex.{tokens_of}
use Rattle.wh_lex.specs.Tokens.{front_of}
use Rattle.law_nest.proofs.sample_rolls.Goals as goal

-- src/lib.rt
pub returns : goal.returns
unfolding tokens_of front_of
returns c = record { items = refl; composes = refl; rolls = refl }
