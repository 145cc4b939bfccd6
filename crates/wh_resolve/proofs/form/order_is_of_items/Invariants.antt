use Rattle.std.proofs.Common.{◌≡◌, drop}
use Rattle.std.specs.List.{list_all}
use Rattle.std.specs.Prelude.{is_some}
use Rattle.def_resolve.specs.Names.{column_named}
use Rattle.def_resolve.specs.Resolve.{order_item}
use Rattle.wh_resolve.proofs.form.order_is_of_items.Given as goal

abbrev pub invariant-loop-key : goal.invariant-loop-key
invariant-loop-key l = list_all (λ k. is_some (order_item l.query (column_named l.sources) l.items k.what)) (drop l.key-index l.order) ≡ list_all (λ k. is_some (order_item l.query (column_named l.sources) l.items k.what)) l.order
