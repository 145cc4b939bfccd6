use Rattle.std.proofs.Common.{◌≡◌, ◌≤◌, drop, length}
use Rattle.def_meaning.specs.Ranges.{ranges_of}
use Rattle.wh_star.proofs.range.ranges_of.Given as goal

abbrev pub invariant-loop-at : goal.invariant-loop-at
invariant-loop-at l = (l.range ≡ ranges_of l.columns (drop l.at l.conditions)) × (l.at ≤ length l.conditions)

abbrev pub decreases-loop-at : goal.decreases-loop-at
decreases-loop-at l = l.at
