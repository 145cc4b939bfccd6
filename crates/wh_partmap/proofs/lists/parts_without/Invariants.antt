use Rattle.std.proofs.Common.{◌≡◌, take}
use Rattle.wh_partmap.specs.History.{without_part}
use Rattle.wh_partmap.proofs.lists.parts_without.Given as goal

abbrev pub invariant-loop-part : goal.invariant-loop-part
invariant-loop-part l = l.copy ≡ without_part (take l.part-index l.part-items) l.number
