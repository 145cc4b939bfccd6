use Rattle.wh_answer.proofs.Steps.{shows}
use Rattle.wh_answer.proofs.laws.shows_agree.Goals as goal

pub returns : goal.returns
returns c = shows
