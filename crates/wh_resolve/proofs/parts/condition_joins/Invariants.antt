use Rattle.std.proofs.Common.{◌≡◌, ◌++◌, drop}
use Rattle.std.specs.Prelude.{flat_map}
use Rattle.def_resolve.specs.Names.{column_named}
use Rattle.def_resolve.specs.Resolve.{join_of_condition}
use Rattle.wh_resolve.proofs.parts.condition_joins.Given as goal

abbrev pub invariant-loop-condition : goal.invariant-loop-condition
invariant-loop-condition l = l.joins ++ flat_map (join_of_condition (column_named l.sources)) (drop l.condition-index l.conditions) ≡ flat_map (join_of_condition (column_named l.sources)) l.conditions
