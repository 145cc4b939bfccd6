use Rattle.law_refresh.proofs.Midway.{commit_laws}
use Rattle.law_refresh.proofs.laws.commits_change_views_alone.Goals as goal

pub returns : goal.returns
returns c = commit_laws
