use Rattle.law_rewrite.proofs.stars_fine.Goals as goal
use Rattle.law_rewrite.proofs.Resolved.{star_fine_of}

-- src/lib.rt
pub returns : goal.returns
returns c = star_fine_of
