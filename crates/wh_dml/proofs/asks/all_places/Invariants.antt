use Rattle.std.proofs.Common.{◌≡◌}
use Rattle.wh_base.specs.Lists.{count_from}
use Rattle.wh_dml.proofs.asks.all_places.Given as goal

abbrev pub invariant-loop-place : goal.invariant-loop-place
invariant-loop-place l = l.places ≡ count_from 0 l.place
