use Rattle.law_rewrite.proofs.kinds_owe.Goals as goal
use Rattle.law_rewrite.proofs.Counting.{kinds_owe}

-- src/lib.rt
pub returns : goal.returns
returns c = kinds_owe
