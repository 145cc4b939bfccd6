use Rattle.std.proofs.Common.{arith, ap, of_z, rules, to_z, w16, w64, w8, ◌≡◌, ◌∙◌}
use Rattle.std.proofs.lemmas.Int.{to_z_pos}
use Rattle.jiff_core.specs.Date.{epoch_day}
use Rattle.wh_base.specs.Days.{is_day}
use Rattle.wh_base.specs.Lists.{where_true}
use Rattle.wh_date.proofs.Civil.{read-day}
use Rattle.wh_date.proofs.reading.day_of_date.Goals as goal

pub returns : goal.returns
returns c =
    let year = to_z_pos w16 c.args.year (omega arith) in
    let month = to_z_pos w8 c.args.month (omega arith) in
    let day = to_z_pos w8 c.args.day (omega arith) in
    let here = rw (year, month, day) at (c.new.ensures.succeeds.0 (search rules)) in
    let date = rw (year, month, day) at c.in-Ok.ensures.value in
    let number : to_z w64 (of_z w64 c.from.result) ≡ epoch_day c.in-Ok.date = search rules in
    c.new-2.ensures ∙ ap (λ n. where_true (is_day n) n) number ∙ read-day c.args.year c.args.month c.args.day c.in-Ok.date here date
