use Rattle.std.proofs.Common.{◌≡◌, drop}
use Rattle.wh_constraints.specs.Constraints.{parent_missing}
use Rattle.wh_constraints.proofs.constraints.parent_missing.Given as goal

abbrev pub invariant-loop-change : goal.invariant-loop-change
invariant-loop-change l = parent_missing l.defs l.keys.now (drop l.change-index l.changes) l.foreign ≡ parent_missing l.defs l.keys.now l.changes l.foreign
