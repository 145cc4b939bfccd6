use Rattle.std.proofs.Common.{◌≡◌, drop}
use Rattle.wh_star.specs.Lookups.{tuples_from}
use Rattle.wh_star.proofs.joining.next_tuple.Given as goal

abbrev pub invariant-loop-at : goal.invariant-loop-at
invariant-loop-at l = tuples_from l.query l.indexes (drop l.at l.roots) ≡ tuples_from l.query l.indexes (drop l.from l.roots)
