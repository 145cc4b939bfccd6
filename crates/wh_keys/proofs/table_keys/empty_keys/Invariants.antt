use Rattle.std.proofs.Common.{◌≡◌, map, take}
use Rattle.wh_keys.specs.Undoing.{nothing}
use Rattle.wh_keys.proofs.table_keys.empty_keys.Given as goal

abbrev pub invariant-loop-column : goal.invariant-loop-column
invariant-loop-column l = l.keys.items ≡ map (λ _. nothing) (take l.column-index l.columns)
