use Rattle.law_refresh.proofs.Told.{history_laws}
use Rattle.law_refresh.proofs.laws.tables_follow_their_changes.Goals as goal

pub returns : goal.returns
returns c = history_laws
