use Rattle.std.proofs.Common.{◌≡◌, drop}
use Rattle.wh_star.specs.Lookups.{completed_by}
use Rattle.wh_star.proofs.joining.complete.Given as goal

abbrev pub invariant-loop-at : goal.invariant-loop-at
invariant-loop-at l =
    completed_by (drop l.at l.indexes) l.tables l.tuple.items (drop l.at l.edges) ≡ completed_by l.indexes l.tables l.initial.tuple.items l.edges
