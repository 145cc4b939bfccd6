use Rattle.std.proofs.Common.{◌≡◌, take}
use Rattle.wh_table.proofs.tables.defs_with.Given as goal

abbrev pub invariant-loop-one : goal.invariant-loop-one
invariant-loop-one l = l.all ≡ take l.one-index l.one-items
