use Rattle.wh_image.proofs.Lookup.{lookups}
use Rattle.wh_image.proofs.laws.lookups_agree.Goals as goal

pub returns : goal.returns
returns c = lookups
