use Rattle.std.proofs.Common.{◌≡◌, take}
use Rattle.wh_query_text.proofs.parser.copied.Given as goal

abbrev pub invariant-loop-token : goal.invariant-loop-token
invariant-loop-token l = l.copy.items ≡ take l.token-index l.tokens
