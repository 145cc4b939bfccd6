use Rattle.wh_image.proofs.Showing.{shows}
use Rattle.wh_image.proofs.laws.shows_agree.Goals as goal

pub returns : goal.returns
returns c = shows
