use Rattle.std.proofs.Common.{◌≡◌, ◌++◌, drop, map}
use Rattle.wh_base.specs.Values.{literal_value}
use Rattle.wh_resolve.proofs.parts.literal_values.Given as goal

abbrev pub invariant-loop-literal : goal.invariant-loop-literal
invariant-loop-literal l = l.all ++ map literal_value (drop l.literal-index l.literals) ≡ map literal_value l.literals
