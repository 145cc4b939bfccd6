use Rattle.wh_image.proofs.Viewing.{view_changes}
use Rattle.wh_image.proofs.laws.views_follow.Goals as goal

pub returns : goal.returns
returns c = view_changes
