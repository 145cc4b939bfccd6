use Rattle.std.proofs.Common.{◌≡◌, ◌≤◌, drop}
use Rattle.std.specs.Prelude.{option_map}
use Rattle.wh_base.specs.Values.{digits_number, digits_value}
use Rattle.wh_load.specs.Capped.{capped_size, largest}
use Rattle.wh_load.proofs.fields.size_of.Given as goal

-- the digits so far and those to come are the number
abbrev pub invariant-loop-digit : goal.invariant-loop-digit
invariant-loop-digit l = record {
  rest : option_map capped_size (digits_value l.size (drop l.digit-index l.digits)) ≡ option_map capped_size (digits_number l.digits);
  most : l.size ≤ largest;
}
