use Rattle.std.proofs.Common.{◌≡◌, map, take}
use Rattle.wh_keys.specs.Undoing.{nothing}
use Rattle.wh_keys.proofs.table_keys.empty_foreign.Given as goal

abbrev pub invariant-loop-def : goal.invariant-loop-def
invariant-loop-def l = l.foreign.items ≡ map (λ _. nothing) (take l.def-index l.defs)
