use Rattle.law_rewrite.proofs.answers_mean.Goals as goal
use Rattle.law_rewrite.proofs.Answered_law.{answers_mean}

-- src/lib.rt
pub returns : goal.returns
returns c = answers_mean
