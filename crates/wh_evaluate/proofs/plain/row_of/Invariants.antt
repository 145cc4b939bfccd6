use Rattle.std.proofs.Common.{◌≡◌, map, take}
use Rattle.def_meaning.specs.Joined.{column_value}
use Rattle.def_meaning.specs.Meaning.{plain_item}
use Rattle.wh_evaluate.proofs.plain.row_of.Given as goal

abbrev pub invariant-loop-item : goal.invariant-loop-item
invariant-loop-item l = l.row.items ≡ map (plain_item (column_value l.tables l.tuple)) (take l.item-index l.items)
