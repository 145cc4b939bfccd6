use Rattle.law_rewrite.proofs.standing_means.Goals as goal
use Rattle.law_rewrite.proofs.In_part.{full_means}

-- src/lib.rt
pub returns : goal.returns
returns c = full_means
