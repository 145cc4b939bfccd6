use Rattle.wh_log.proofs.Lawful.{lawful}
use Rattle.wh_log.proofs.meaning.laws.Goals as goal

pub returns : goal.returns
returns c = lawful
