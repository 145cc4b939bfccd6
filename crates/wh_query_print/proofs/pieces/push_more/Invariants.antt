use Rattle.std.proofs.Common.{◌≡◌, ◌++◌, [], ◌∷◌, take}
use Rattle.def_grammar.specs.Canonical.{bare, more_tokens}
use Rattle.wh_query_print.proofs.pieces.push_more.Given as goal

abbrev pub invariant-loop-part : goal.invariant-loop-part
invariant-loop-part g l = l.out ≡ l.fn.out ++ more_tokens (bare l.kind l.text ∷ []) g.T.ToTokens.tokens (take l.part-index l.parts)
