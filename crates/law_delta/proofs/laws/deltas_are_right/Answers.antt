use Rattle.law_delta.proofs.Gathered.{delta_laws}
use Rattle.law_delta.proofs.laws.deltas_are_right.Goals as goal

pub returns : goal.returns
returns c = delta_laws
