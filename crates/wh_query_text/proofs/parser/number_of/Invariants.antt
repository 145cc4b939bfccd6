use Rattle.std.proofs.Common.{◌≡◌, drop, true}
use Rattle.wh_base.specs.Values.{digits_number, digits_value}
use Rattle.wh_query_text.proofs.Digits.{is_small}
use Rattle.wh_query_text.proofs.parser.number_of.Given as goal

-- the digits so far and those to come are the number
abbrev pub invariant-loop-digit : goal.invariant-loop-digit
invariant-loop-digit l = record {
  rest : digits_value l.n (drop l.digit-index l.digits) ≡ digits_number l.digits;
  small : is_small (digits_number l.digits) ≡ true;
}
