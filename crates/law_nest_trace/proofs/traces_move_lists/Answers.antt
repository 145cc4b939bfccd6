use Rattle.law_nest_trace.proofs.traces_move_lists.Goals as goal
use Rattle.law_nest_trace.proofs.Always.{traces_move_lists_law}

-- src/lib.rt
pub returns : goal.returns
returns c = traces_move_lists_law
