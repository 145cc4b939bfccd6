use Rattle.law_views.proofs.Plain.{plain_sessions}
use Rattle.law_views.proofs.laws.plain_sessions.Goals as goal

pub returns : goal.returns
returns c = plain_sessions
