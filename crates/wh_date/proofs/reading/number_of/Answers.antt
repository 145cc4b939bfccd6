use Rattle.std.proofs.Common.{◌+◌, ◌<◌, arith, drop, get_or, sym}
use Rattle.std.proofs.lemmas.List.{drop_more}
use Rattle.wh_base.specs.Values.{digits_number}
use Rattle.wh_date.proofs.Digits.{few_so_far, no_digit}
use Rattle.wh_date.proofs.reading.number_of.Goals as goal

pub overflow_mul-number : goal.overflow_mul-number
overflow_mul-number c =
    let less : c.loop-digit.digit-index < 4 = omega (arith, c.loop-digit-test.true, c.loop-digit.invariant.few) in
    omega (arith, few_so_far c.loop-digit.digit-index c.loop-digit.number less c.loop-digit.invariant.small)

pub returns-then-not-is_ascii_digit-clause-number : goal.returns-then-not-is_ascii_digit-clause-number
returns-then-not-is_ascii_digit-clause-number c =
    let digits = c.args.digits.now in
    let at = c.loop-digit.digit-index in
    no_digit c.loop-digit.number (get_or digits at 0) (drop (at + 1) digits) (digits_number digits) (rw (drop_more digits at 0 (omega (arith, c.loop-digit-test.true))) at c.loop-digit.invariant.rest)
    (sym (c.if-not-is_ascii_digit.ensures.value))
