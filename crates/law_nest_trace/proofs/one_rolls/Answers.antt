use Rattle.law_nest_trace.proofs.one_rolls.Goals as goal
use Rattle.law_nest_trace.proofs.Rows.{one_rolls_law}

-- src/lib.rt
pub returns : goal.returns
returns c = one_rolls_law
