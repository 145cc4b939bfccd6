use Rattle.law_trace.proofs.Installing.{install_laws}
use Rattle.law_trace.proofs.laws.installs_are_right.Goals as goal

pub returns : goal.returns
returns c = install_laws
