use Rattle.std.proofs.Common.{◌≡◌, drop}
use Rattle.std.specs.List.{list_all}
use Rattle.def_resolve.specs.Resolve.{item_is_grouped}
use Rattle.wh_resolve.proofs.form.items_are_grouped.Given as goal

abbrev pub invariant-loop-item : goal.invariant-loop-item
invariant-loop-item l = list_all (item_is_grouped l.keys) (drop l.item-index l.items) ≡ list_all (item_is_grouped l.keys) l.items
