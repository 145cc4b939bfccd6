use Rattle.std.proofs.Common.{◌≡◌, ◌-◌, ◌≤◌, length, drop}
use Rattle.wh_lex.specs.Lex.{statement_at, statement_from, with_tokens}
use Rattle.wh_lex.proofs.lex.up_to_semicolon.Given as goal

-- the tokens so far and those to come are all of them
abbrev pub invariant-loop-at : goal.invariant-loop-at
invariant-loop-at l = record {
  within : l.at ≤ length l.text;
  rest : with_tokens l.tokens (statement_from 0 l.at (drop l.at l.text)) ≡ statement_at l.text l.from;
}

abbrev pub decreases-loop-at : goal.decreases-loop-at
decreases-loop-at l = length l.text - l.at
