use Rattle.std.proofs.Common.{◌≡◌, map, take}
use Rattle.wh_dml.specs.Asking.{sourced}
use Rattle.wh_dml.proofs.asks.sourced_row.Given as goal

abbrev pub invariant-loop-source : goal.invariant-loop-source
invariant-loop-source l = l.values.items ≡ map (sourced l.row) (take l.source-index l.sources)
