use Rattle.wh_register.proofs.Lawful.{lawful}
use Rattle.wh_register.proofs.meaning.laws.Goals as goal

pub returns : goal.returns
returns c = lawful
