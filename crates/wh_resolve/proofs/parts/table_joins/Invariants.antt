use Rattle.std.proofs.Common.{◌≡◌, ◌++◌, drop}
use Rattle.std.specs.Prelude.{flat_map}
use Rattle.def_resolve.specs.Names.{column_named}
use Rattle.def_resolve.specs.Resolve.{join_of_table}
use Rattle.wh_resolve.proofs.parts.table_joins.Given as goal

abbrev pub invariant-loop-table : goal.invariant-loop-table
invariant-loop-table l = l.joins ++ flat_map (join_of_table (column_named l.sources)) (drop l.table-index l.tables) ≡ flat_map (join_of_table (column_named l.sources)) l.tables
