use Rattle.std.proofs.Common.{◌≡◌, ◌++◌, drop, map}
use Rattle.def_resolve.specs.Names.{column_named}
use Rattle.def_resolve.specs.Resolve.{resolved_key}
use Rattle.wh_resolve.proofs.form.resolved_order.Given as goal

abbrev pub invariant-loop-key : goal.invariant-loop-key
invariant-loop-key l = l.all ++ map (resolved_key l.query (column_named l.sources) l.items) (drop l.key-index l.key-items) ≡ map (resolved_key l.query (column_named l.sources) l.items) l.key-items
