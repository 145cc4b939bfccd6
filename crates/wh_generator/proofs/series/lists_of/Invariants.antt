use Rattle.std.proofs.Common.{◌≡◌, flat_map}
use Rattle.wh_base.specs.Lists.{count_from}
use Rattle.wh_generator.proofs.series.lists_of.Given as goal

abbrev pub invariant-loop-number : goal.invariant-loop-number
invariant-loop-number g l = l.all ≡ flat_map (g.S.Series.items l.series) (count_from 0 l.number)
