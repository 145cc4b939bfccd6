use Rattle.std.proofs.Common.{rules}
use Rattle.scn_lock.proofs.Turning.{draws}
use Rattle.scn_lock.proofs.lock.ScnLock.draw.Goals as goal

pub fetch_add-requires : goal.fetch_add-requires
fetch_add-requires g c = (search rules, search rules, draws g.C.Journaled.journal g.C.Journaled.number _ _ _ _ c.args.pass.now.live c.requires.1 (search rules))
