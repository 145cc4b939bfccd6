use Rattle.std.proofs.Common.{◌≡◌, take}
use Rattle.wh_table.proofs.def_copy.copied_items.Given as goal

abbrev pub invariant-loop-item : goal.invariant-loop-item
invariant-loop-item g l = l.copies ≡ take l.item-index l.items
