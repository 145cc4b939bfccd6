use Rattle.std.proofs.Common.{◌≡◌, ◌++◌, take}
use Rattle.std.specs.Prelude.{flat_map}
use Rattle.wh_query_print.proofs.clauses.push_all.Given as goal

abbrev pub invariant-loop-part : goal.invariant-loop-part
invariant-loop-part g l = l.out ≡ l.fn.out ++ flat_map g.T.ToTokens.tokens (take l.part-index l.parts)
