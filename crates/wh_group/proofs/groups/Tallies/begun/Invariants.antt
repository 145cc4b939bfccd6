use Rattle.std.proofs.Common.{◌≡◌, take}
use Rattle.wh_group.specs.Tallies.{begun}
use Rattle.wh_group.proofs.groups.Tallies.begun.Given as goal

abbrev pub invariant-loop-agg : goal.invariant-loop-agg
invariant-loop-agg l = l.list.items ≡ begun (take l.agg-index l.aggs)
