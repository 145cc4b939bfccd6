use Rattle.std.proofs.Common.{◌≡◌, drop}
use Rattle.wh_constraints.specs.Constraints.{key_index, parent_lost}
use Rattle.wh_keys.specs.Made.{foreign_at, indexes_at}
use Rattle.wh_constraints.proofs.constraints.parent_lost.Given as goal

abbrev pub invariant-loop-change : goal.invariant-loop-change
invariant-loop-change l =
    parent_lost (key_index l.defs l.keys.now l.foreign.table l.foreign.to) (foreign_at (indexes_at l.keys.now l.child).foreign l.number) (drop l.change-index l.changes) l.foreign
    ≡ parent_lost (key_index l.defs l.keys.now l.foreign.table l.foreign.to) (foreign_at (indexes_at l.keys.now l.child).foreign l.number) l.changes l.foreign
