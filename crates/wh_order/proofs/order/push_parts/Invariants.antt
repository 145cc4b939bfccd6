use Rattle.std.proofs.Common.{◌≡◌, ◌++◌, length}
use Rattle.wh_order.proofs.order.push_parts.Given as goal

abbrev pub invariant-loop-entry : goal.invariant-loop-entry
invariant-loop-entry l = l.journal ++ l.cursor.1 ≡ l.initial.journal ++ l.initial.cursor.1

abbrev pub decreases-loop-entry : goal.decreases-loop-entry
decreases-loop-entry l = length l.cursor.1
