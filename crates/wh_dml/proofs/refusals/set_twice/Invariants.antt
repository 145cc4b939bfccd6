use Rattle.std.proofs.Common.{◌≡◌, [], drop, take}
use Rattle.wh_base.specs.Lists.{repeated, repeated_after, same_text}
use Rattle.wh_dml.proofs.Names.{turned}
use Rattle.wh_dml.proofs.Twice.{columns_set}
use Rattle.wh_dml.proofs.refusals.set_twice.Given as goal

abbrev pub invariant-loop-at : goal.invariant-loop-at
invariant-loop-at l = repeated_after same_text (turned [] (take l.at (columns_set l.sets))) (drop l.at (columns_set l.sets)) ≡ repeated same_text (columns_set l.sets)
