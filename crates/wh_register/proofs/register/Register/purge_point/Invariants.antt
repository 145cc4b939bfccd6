use Rattle.std.proofs.Common.{◌≡◌}
use Rattle.std.specs.FinMap as fin
use Rattle.wh_register.specs.Register.{purge_point}
use Rattle.wh_register.proofs.Rooms.{rooms_left}
use Rattle.wh_register.proofs.register.Register.purge_point.Given as goal

abbrev pub invariant-loop-room : goal.invariant-loop-room
invariant-loop-room l = rooms_left l.least l.room-iterator l.table l.now ≡ purge_point (fin.values l.self) l.table l.now
