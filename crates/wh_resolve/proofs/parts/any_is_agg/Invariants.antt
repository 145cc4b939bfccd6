use Rattle.std.proofs.Common.{◌≡◌, drop}
use Rattle.std.specs.List.{list_any}
use Rattle.def_resolve.specs.Resolve.{is_agg}
use Rattle.wh_resolve.proofs.parts.any_is_agg.Given as goal

abbrev pub invariant-loop-item : goal.invariant-loop-item
invariant-loop-item l = list_any is_agg (drop l.item-index l.items) ≡ list_any is_agg l.items
