use Rattle.std.proofs.Common.{◌≡◌, ◌++◌, drop}
use Rattle.std.specs.List.{filter_map}
use Rattle.def_resolve.specs.Names.{source_of}
use Rattle.wh_resolve.proofs.sources.sources_of.Given as goal

abbrev pub invariant-loop-table : goal.invariant-loop-table
invariant-loop-table l = l.sources.items ++ filter_map (source_of l.defs) (drop l.table-index l.table-items) ≡ filter_map (source_of l.defs) l.table-items
