use Rattle.law_rewrite.proofs.concat_means.Goals as goal
use Rattle.law_rewrite.proofs.Concat_law.{concat_means}

-- src/lib.rt
pub returns : goal.returns
returns c = concat_means
