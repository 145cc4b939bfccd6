use Rattle.law_rewrite.proofs.plans_mean.Goals as goal
use Rattle.law_rewrite.proofs.Assembled.{eligible_plan}

-- src/lib.rt
pub returns : goal.returns
returns c = λ defs dims level q v base key stale fine_q fine_v rows_fine relies kinds passes reaches seven. eligible_plan defs dims q v base fine_q fine_v level rows_fine relies passes reaches seven kinds
