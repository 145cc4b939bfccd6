use Rattle.std.proofs.Common.{rules}
use Rattle.scn_lock.proofs.Turning.{serves}
use Rattle.scn_lock.proofs.lock.ScnLock.wait.Goals as goal

pub load-serving-requires : goal.load-serving-requires
load-serving-requires g c = (search rules, search rules, serves g.C.Journaled.journal g.C.Journaled.number _ _ _ c.loop.pass.live (search rules))
