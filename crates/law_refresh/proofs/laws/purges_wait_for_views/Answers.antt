use Rattle.law_refresh.proofs.Logs.{log_laws}
use Rattle.law_refresh.proofs.laws.purges_wait_for_views.Goals as goal

pub returns : goal.returns
returns c = log_laws
