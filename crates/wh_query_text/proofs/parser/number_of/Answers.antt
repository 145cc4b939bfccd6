use Rattle.std.proofs.Common.{◌+◌, arith, drop, get_or}
use Rattle.std.proofs.lemmas.List.{drop_more}
use Rattle.wh_base.specs.Values.{digits_number}
use Rattle.wh_query_text.proofs.Digits.{digit_known}
use Rattle.wh_query_text.proofs.parser.number_of.Goals as goal

pub overflow_mul-n : goal.overflow_mul-n
overflow_mul-n c =
    let digits = c.args.digits.now in
    let at = c.loop-digit.digit-index in
    let known = digit_known c.loop-digit.n (get_or digits at 0) (drop (at + 1) digits) (digits_number digits) (rw (drop_more digits at 0 (omega arith)) at c.loop-digit.invariant.rest) c.loop-digit.invariant.small in
    omega (arith, known.small)

pub overflow_add-n : goal.overflow_add-n
overflow_add-n c =
    let digits = c.args.digits.now in
    let at = c.loop-digit.digit-index in
    let known = digit_known c.loop-digit.n (get_or digits at 0) (drop (at + 1) digits) (digits_number digits) (rw (drop_more digits at 0 (omega arith)) at c.loop-digit.invariant.rest) c.loop-digit.invariant.small in
    omega (arith, known.small, c.from.ensures)
