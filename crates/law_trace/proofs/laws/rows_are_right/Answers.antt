use Rattle.law_trace.proofs.Rowing.{row_laws}
use Rattle.law_trace.proofs.laws.rows_are_right.Goals as goal

pub returns : goal.returns
returns c = row_laws
