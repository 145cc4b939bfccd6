use Rattle.std.proofs.Common.{◌≡◌, ◌++◌, drop}
use Rattle.std.specs.Prelude.{flat_map}
use Rattle.def_resolve.specs.Names.{column_named}
use Rattle.def_resolve.specs.Resolve.{resolved_condition}
use Rattle.wh_resolve.proofs.parts.resolved_conditions.Given as goal

abbrev pub invariant-loop-condition : goal.invariant-loop-condition
invariant-loop-condition l = l.all ++ flat_map (resolved_condition (column_named l.sources)) (drop l.condition-index l.conditions) ≡ flat_map (resolved_condition (column_named l.sources)) l.conditions
