use Rattle.law_nest.proofs.nested_rolls.Goals as goal
use Rattle.law_nest.proofs.Nested.{nested_rolls_law}

-- src/lib.rt
pub returns : goal.returns
returns c = nested_rolls_law
