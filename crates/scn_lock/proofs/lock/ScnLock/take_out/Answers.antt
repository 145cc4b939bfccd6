use Rattle.std.proofs.Common.{rules, Some}
use Rattle.scn_lock.proofs.Turning.{takes_out}
use Rattle.scn_lock.proofs.lock.ScnLock.take_out.Goals as goal

pub load-requires : goal.load-requires
load-requires g c = (search rules, search rules, takes_out g.C.Journaled.journal g.C.Journaled.number _ _ _ c.args.pass.now.live c.requires.1 (search rules))

pub exchange-requires : goal.exchange-requires
exchange-requires g c = (search rules, (Some c.load.ensures.2.0, search rules))
