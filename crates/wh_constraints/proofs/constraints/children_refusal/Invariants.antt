use Rattle.std.proofs.Common.{◌≡◌, drop}
use Rattle.std.specs.List.{enumerate_from}
use Rattle.wh_base.specs.Lists.{first_of}
use Rattle.wh_constraints.specs.Constraints.{children_refusal, left_refusal}
use Rattle.wh_constraints.proofs.constraints.children_refusal.Given as goal

abbrev pub invariant-loop-number : goal.invariant-loop-number
invariant-loop-number l = first_of (left_refusal l.defs l.keys.now l.table l.changes) (enumerate_from l.number (drop l.number l.children)) ≡ children_refusal l.defs l.keys.now l.table l.changes
