use Rattle.wh_load.proofs.Reading.{digit_on, within_largest}
use Rattle.wh_load.proofs.fields.size_of.Goals as goal

pub loop-digit-preserved : goal.loop-digit-preserved
loop-digit-preserved c = record {
  rest = digit_on c.args.digits.now c.loop-digit.digit-index c.loop-digit.size c.with_digit-size.result c.loop-digit-test.true c.if-digit-lt48.false c.if-digit-gt57.false c.with_digit-size.ensures c.loop-digit.invariant.rest;
  most = within_largest _ _ c.with_digit-size.ensures;
}
