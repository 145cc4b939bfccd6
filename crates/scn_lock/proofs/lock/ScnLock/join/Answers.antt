use Rattle.std.proofs.Common.{rules}
use Rattle.scn_lock.proofs.Sharing.{merges}
use Rattle.scn_lock.proofs.Turning.{looks}
use Rattle.scn_lock.proofs.lock.ScnLock.join.Goals as goal

pub join_seat-requires : goal.join_seat-requires
join_seat-requires g c = (
  search rules,
  search rules,
  search rules,
  search rules,
  merges g.C.Journaled.journal g.C.Journaled.number _ _ _ _ c.args.pass.now.live c.requires.first.1 c.requires.first.2 c.args.other.live c.requires.other.1,
)

pub load-requires : goal.load-requires
load-requires g c = (search rules, search rules, looks g.C.Journaled.journal g.C.Journaled.number _ _ _ (search rules))
