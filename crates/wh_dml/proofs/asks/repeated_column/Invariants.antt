use Rattle.std.proofs.Common.{◌≡◌, [], drop, take}
use Rattle.wh_base.specs.Lists.{repeated, repeated_after, same_text}
use Rattle.wh_dml.proofs.Names.{turned}
use Rattle.wh_dml.proofs.asks.repeated_column.Given as goal

abbrev pub invariant-loop-at : goal.invariant-loop-at
invariant-loop-at l = repeated_after same_text (turned [] (take l.at l.names)) (drop l.at l.names) ≡ repeated same_text l.names
