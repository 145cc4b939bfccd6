use Rattle.std.proofs.Common.{◌∙◌, sym}
use Rattle.wh_script.proofs.Orders.{any_at}
use Rattle.wh_script.specs.Drafts.{is_named_too_often}
use Rattle.wh_script.proofs.order.has_section_too_often.Goals as goal

pub returns-then-is_named_too_often : goal.returns-then-is_named_too_often
returns-then-is_named_too_often c =
    sym (any_at (is_named_too_often c.args.all.now c.args.numbers.now) c.args.sections.now c.loop-section.section-index c.section-item.result c.loop-section-test.true c.section-item.is
    (sym c.is_named_too_often.ensures ∙ c.if-is_named_too_often.true))
