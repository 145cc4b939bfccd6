use Rattle.std.proofs.Common.{◌≡◌, ◌++◌, drop, map, take}
use Rattle.wh_order.specs.Left.{passed_of}
use Rattle.wh_order.proofs.order.pass_next.Given as goal

-- those before the place are passed, and those from it on are as they were
abbrev pub invariant-loop-cursor : goal.invariant-loop-cursor
invariant-loop-cursor l = l.left ≡ map (passed_of l.session) (take l.cursor-index l.initial.left) ++ drop l.cursor-index l.initial.left
