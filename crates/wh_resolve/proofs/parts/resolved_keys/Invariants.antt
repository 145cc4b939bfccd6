use Rattle.std.proofs.Common.{◌≡◌, ◌++◌, drop, map}
use Rattle.def_resolve.specs.Names.{column_named}
use Rattle.wh_resolve.proofs.parts.resolved_keys.Given as goal

abbrev pub invariant-loop-name : goal.invariant-loop-name
invariant-loop-name l = l.all ++ map (column_named l.sources) (drop l.name-index l.groups) ≡ map (column_named l.sources) l.groups
