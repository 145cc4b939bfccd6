use Rattle.law_rewrite.proofs.enforced_owe.Goals as goal
use Rattle.law_rewrite.proofs.Enforcing.{enforced_owe}

-- src/lib.rt
pub returns : goal.returns
returns c = enforced_owe
