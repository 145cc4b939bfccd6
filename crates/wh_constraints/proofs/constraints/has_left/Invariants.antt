use Rattle.std.proofs.Common.{◌≡◌, drop}
use Rattle.std.specs.List.{enumerate_from, list_any}
use Rattle.wh_constraints.specs.Constraints.{child_left}
use Rattle.wh_constraints.proofs.constraints.has_left.Given as goal

abbrev pub invariant-loop-number : goal.invariant-loop-number
invariant-loop-number l =
    list_any (child_left l.defs l.keys.now l.table l.changes l.child) (enumerate_from l.number (drop l.number l.foreign))
    ≡ list_any (child_left l.defs l.keys.now l.table l.changes l.child) (enumerate_from 0 l.foreign)
