use Rattle.std.proofs.Common.{◌≡◌, ◌++◌, drop, map}
use Rattle.def_resolve.specs.Names.{column_named}
use Rattle.def_resolve.specs.Resolve.{resolved_item}
use Rattle.wh_resolve.proofs.parts.resolved_items.Given as goal

abbrev pub invariant-loop-item : goal.invariant-loop-item
invariant-loop-item l = l.all ++ map (λ i. resolved_item (column_named l.sources) i.what) (drop l.item-index l.items) ≡ map (λ i. resolved_item (column_named l.sources) i.what) l.items
