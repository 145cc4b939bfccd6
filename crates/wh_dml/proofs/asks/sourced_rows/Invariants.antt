use Rattle.std.proofs.Common.{◌≡◌, map, take}
use Rattle.wh_dml.specs.Asking.{sourced_row}
use Rattle.wh_dml.proofs.asks.sourced_rows.Given as goal

abbrev pub invariant-loop-row : goal.invariant-loop-row
invariant-loop-row l = l.all.items ≡ map (sourced_row l.sources) (take l.row-index l.rows)
