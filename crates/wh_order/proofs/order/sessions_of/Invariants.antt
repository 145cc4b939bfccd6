use Rattle.std.proofs.Common.{◌≡◌, ◌++◌, drop}
use Rattle.wh_order.specs.Left.{begun}
use Rattle.wh_order.proofs.order.sessions_of.Given as goal

abbrev pub invariant-loop-section : goal.invariant-loop-section
invariant-loop-section l = l.left.items ++ begun (drop l.section-index l.sections) ≡ begun l.sections
