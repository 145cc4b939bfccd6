use Rattle.std.proofs.Common.{◌≡◌, ◌++◌, drop, map}
use Rattle.def_grammar.specs.Canonical.{laid_behind}
use Rattle.wh_query_print.specs.Pieces.{piece_token}
use Rattle.wh_query_print.proofs.layout.push_behind.Given as goal

abbrev pub invariant-loop-piece : goal.invariant-loop-piece
invariant-loop-piece l = l.out.items ++ laid_behind (piece_token l.last) (map piece_token (drop l.piece-index l.rest)) ≡ l.fn.out.items ++ laid_behind (piece_token l.fn.first) (map piece_token l.rest)
