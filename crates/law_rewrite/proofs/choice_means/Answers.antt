use Rattle.law_rewrite.proofs.choice_means.Goals as goal
use Rattle.law_rewrite.proofs.Choosing.{choice_means}

-- src/lib.rt
pub returns : goal.returns
returns c = choice_means
