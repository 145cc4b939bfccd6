use Rattle.law_trace.proofs.Tabling.{table_laws}
use Rattle.law_trace.proofs.laws.tables_stay.Goals as goal

pub returns : goal.returns
returns c = table_laws
