use Rattle.law_refresh.proofs.Told.{read_laws}
use Rattle.law_refresh.proofs.laws.logs_tell_the_changes.Goals as goal

pub returns : goal.returns
returns c = read_laws
