use Rattle.std.proofs.Common.{◌≡◌, take}
use Rattle.def_meaning.specs.Joined.{column_value}
use Rattle.wh_group.specs.Tallies.{counted, tallies_with}
use Rattle.wh_group.proofs.groups.add_each.Given as goal

-- those of the first aggregates have the tuple
abbrev pub invariant-loop-at : goal.invariant-loop-at
invariant-loop-at l = l.tallies ≡ tallies_with (counted (column_value l.tables l.tuple)) (take l.at l.aggs) l.fn.tallies
