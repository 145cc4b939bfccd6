use Rattle.law_refresh.proofs.Viewed.{plan_laws}
use Rattle.law_refresh.proofs.laws.views_are_stars.Goals as goal

pub returns : goal.returns
returns c = plan_laws
