use Rattle.law_nest_trace.proofs.lists_roll.Goals as goal
use Rattle.law_nest_trace.proofs.Rows.{lists_roll_law}

-- src/lib.rt
pub returns : goal.returns
returns c = lists_roll_law
