use Rattle.std.proofs.Common.{◌≡◌, drop}
use Rattle.std.specs.List.{list_any}
use Rattle.def_resolve.specs.Kinds.{is_too_long}
use Rattle.wh_resolve.proofs.kinds.any_is_too_long.Given as goal

abbrev pub invariant-loop-literal : goal.invariant-loop-literal
invariant-loop-literal l = list_any is_too_long (drop l.literal-index l.literals) ≡ list_any is_too_long l.literals
