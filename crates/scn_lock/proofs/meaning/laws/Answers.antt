use Rattle.scn_lock.proofs.Lawful.{lawful}
use Rattle.scn_lock.proofs.meaning.laws.Goals as goal

pub returns : goal.returns
returns g c = lawful g.C.Journaled.journal g.C.Journaled.number
