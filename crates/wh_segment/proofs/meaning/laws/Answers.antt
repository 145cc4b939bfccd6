use Rattle.wh_segment.proofs.Lawful.{lawful}
use Rattle.wh_segment.proofs.meaning.laws.Goals as goal

pub returns : goal.returns
returns g c = lawful
