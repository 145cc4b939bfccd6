use Rattle.std.proofs.Common.{◌≡◌}
use Rattle.std.specs.Prelude.{map, take}
use Rattle.wh_base.specs.Tables.{def_at}
use Rattle.wh_core.proofs.viewing.table_defs.Given as goal

abbrev pub invariant-loop-number : goal.invariant-loop-number
invariant-loop-number l = l.all ≡ map (def_at l.defs) (take l.number-index l.numbers)
