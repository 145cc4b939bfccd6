use Rattle.std.proofs.Common.{◌≡◌, drop}
use Rattle.std.specs.List.{list_all}
use Rattle.wh_group.specs.Tallies.{small_item}
use Rattle.wh_group.proofs.small.are_small_items.Given as goal

abbrev pub invariant-loop-item : goal.invariant-loop-item
invariant-loop-item l = list_all small_item (drop l.item-index l.items) ≡ list_all small_item l.items
