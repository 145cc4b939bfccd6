use Rattle.law_trace.proofs.Growing.{base_laws}
use Rattle.law_trace.proofs.laws.the_past_stays.Goals as goal

pub returns : goal.returns
returns c = base_laws
