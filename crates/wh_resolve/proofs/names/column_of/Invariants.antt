use Rattle.std.proofs.Common.{◌≡◌, drop}
use Rattle.std.specs.List.{cons_option, filter_map}
use Rattle.def_resolve.specs.Names.{column_in, column_of, the_only}
use Rattle.wh_resolve.proofs.names.column_of.Given as goal

-- what was found and what is still found are all that the name may stand for
abbrev pub invariant-loop-source : goal.invariant-loop-source
invariant-loop-source l = the_only (cons_option l.found (filter_map (column_in l.name) (drop l.source-index l.sources))) ≡ column_of l.sources l.name
