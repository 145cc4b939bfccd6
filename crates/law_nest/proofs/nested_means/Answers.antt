use Rattle.law_nest.proofs.nested_means.Goals as goal
use Rattle.law_nest.proofs.Nested.{nested_means_law}

-- src/lib.rt
pub returns : goal.returns
returns c = nested_means_law
