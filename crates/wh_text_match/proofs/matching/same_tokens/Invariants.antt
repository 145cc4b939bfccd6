use Rattle.std.proofs.Common.{◌≡◌, drop, length}
use Rattle.def_rewriting.specs.Matching.{same_tokens}
use Rattle.wh_text_match.proofs.matching.same_tokens.Given as goal

-- what is left decides
abbrev pub invariant-loop-at : goal.invariant-loop-at
invariant-loop-at l = record {
  same : same_tokens (drop l.at l.some) (drop l.at l.others) ≡ same_tokens l.some l.others;
  lengths : length l.some ≡ length l.others;
}
