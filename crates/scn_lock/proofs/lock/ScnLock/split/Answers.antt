use Rattle.std.proofs.Common.{rules}
use Rattle.scn_lock.proofs.Sharing.{splits}
use Rattle.scn_lock.proofs.Turning.{looks}
use Rattle.scn_lock.proofs.lock.ScnLock.split.Goals as goal

pub load-requires : goal.load-requires
load-requires g c = (search rules, search rules, looks g.C.Journaled.journal g.C.Journaled.number _ _ _ c.args.pass.now.live)

pub split_seat-seat-requires : goal.split_seat-seat-requires
split_seat-seat-requires g c = (search rules, search rules, splits g.C.Journaled.journal g.C.Journaled.number _ _ (search rules) (search rules) (search rules))
