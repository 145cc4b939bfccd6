use Rattle.std.proofs.Common.{◌≡◌, drop}
use Rattle.wh_dml.specs.Asking.{unknown_in}
use Rattle.wh_dml.proofs.asks.unknown_column.Given as goal

abbrev pub invariant-loop-name : goal.invariant-loop-name
invariant-loop-name l = unknown_in l.def (drop l.name-index l.names) ≡ unknown_in l.def l.names
