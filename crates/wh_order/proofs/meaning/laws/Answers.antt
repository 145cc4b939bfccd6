use Rattle.wh_order.proofs.Lawful.{laws_hold}
use Rattle.wh_order.proofs.meaning.laws.Goals as goal

pub returns : goal.returns
returns c = laws_hold
