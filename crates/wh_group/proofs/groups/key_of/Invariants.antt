use Rattle.std.proofs.Common.{◌≡◌, map, take}
use Rattle.def_meaning.specs.Joined.{column_value}
use Rattle.wh_group.proofs.groups.key_of.Given as goal

abbrev pub invariant-loop-column : goal.invariant-loop-column
invariant-loop-column l = l.key.items ≡ map (column_value l.tables l.tuple) (take l.column-index l.keys)
