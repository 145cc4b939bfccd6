use Rattle.std.proofs.Common.{◌≡◌, ◌++◌, drop, map}
use Rattle.std.specs.List.{enumerate_from}
use Rattle.wh_dml.specs.Setting.{value_after}
use Rattle.wh_dml.proofs.set_list.values_after.Given as goal

abbrev pub invariant-loop-place : goal.invariant-loop-place
invariant-loop-place l = l.all.items ++ map (value_after l.sets l.old) (enumerate_from l.place (drop l.place l.old)) ≡ map (value_after l.sets l.old) (enumerate_from 0 l.old)
