use Rattle.law_rewrite.proofs.composed_fine.Goals as goal
use Rattle.law_rewrite.proofs.Composed.{composed_fine}

-- src/lib.rt
pub returns : goal.returns
returns c = λ defs beneath query q fine h. composed_fine defs beneath fine query q h
