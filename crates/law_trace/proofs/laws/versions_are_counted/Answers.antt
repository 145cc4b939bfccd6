use Rattle.law_trace.proofs.Versions.{version_laws}
use Rattle.law_trace.proofs.laws.versions_are_counted.Goals as goal

pub returns : goal.returns
returns c = version_laws
