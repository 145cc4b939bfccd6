use Rattle.law_trace.proofs.Pointing.{view_laws}
use Rattle.law_trace.proofs.laws.views_stay.Goals as goal

pub returns : goal.returns
returns c = view_laws
