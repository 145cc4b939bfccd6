use Rattle.law_trace.proofs.Traces.{session_laws}
use Rattle.law_trace.proofs.laws.sessions_stand_apart.Goals as goal

pub returns : goal.returns
returns c = session_laws
