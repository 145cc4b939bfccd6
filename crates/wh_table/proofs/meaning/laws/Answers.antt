use Rattle.wh_table.proofs.Seen.{laws_hold}
use Rattle.wh_table.proofs.meaning.laws.Goals as goal

pub returns : goal.returns
returns g c = laws_hold
