use Rattle.std.proofs.Common.{◌≡◌, ◌<◌, ◌≤◌, ◌^◌, drop, length}
use Rattle.wh_base.specs.Values.{digits_number, digits_value}
use Rattle.wh_date.proofs.reading.number_of.Given as goal

-- the digits so far and those to come are the number, and it has no more digits than were read
abbrev pub invariant-loop-digit : goal.invariant-loop-digit
invariant-loop-digit l = record {
  rest : digits_value l.number (drop l.digit-index l.digits) ≡ digits_number l.digits;
  small : l.number < 10 ^ l.digit-index;
  few : length l.digits ≤ 4;
}
