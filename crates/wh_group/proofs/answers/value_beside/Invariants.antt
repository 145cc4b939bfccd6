use Rattle.std.proofs.Common.{◌≡◌, drop}
use Rattle.wh_group.specs.Entries.{value_beside}
use Rattle.wh_group.proofs.answers.value_beside.Given as goal

-- it is beside one of the columns that are left
abbrev pub invariant-loop-at : goal.invariant-loop-at
invariant-loop-at l = value_beside (drop l.at l.keys) (drop l.at l.values) l.column ≡ value_beside l.keys l.values l.column
