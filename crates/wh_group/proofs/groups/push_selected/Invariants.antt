use Rattle.std.proofs.Common.{◌≡◌, ◌++◌, take}
use Rattle.std.specs.Prelude.{flat_map}
use Rattle.def_meaning.specs.Accumulated.{item_aggs}
use Rattle.wh_group.proofs.groups.push_selected.Given as goal

abbrev pub invariant-loop-item : goal.invariant-loop-item
invariant-loop-item l = l.aggs.items ≡ l.fn.aggs.items ++ flat_map item_aggs (take l.item-index l.items)
