use Rattle.std.proofs.Common.{◌≡◌, map, take}
use Rattle.wh_dml.specs.Setting.{placed_set}
use Rattle.wh_dml.proofs.set_list.placed_sets.Given as goal

abbrev pub invariant-loop-set : goal.invariant-loop-set
invariant-loop-set l = l.all.items ≡ map (placed_set l.def) (take l.set-index l.sets)
