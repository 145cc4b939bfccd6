use Rattle.law_trace.proofs.Growing.{change_laws}
use Rattle.law_trace.proofs.laws.changes_stay.Goals as goal

pub returns : goal.returns
returns c = change_laws
