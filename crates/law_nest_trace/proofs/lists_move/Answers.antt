use Rattle.law_nest_trace.proofs.lists_move.Goals as goal
use Rattle.law_nest_trace.proofs.Moving.{lists_move_law}

-- src/lib.rt
pub returns : goal.returns
returns c = lists_move_law
