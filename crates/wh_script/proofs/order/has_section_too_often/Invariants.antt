use Rattle.std.proofs.Common.{◌≡◌, drop}
use Rattle.std.specs.List.{list_any}
use Rattle.wh_script.specs.Drafts.{is_named_too_often}
use Rattle.wh_script.proofs.order.has_section_too_often.Given as goal

abbrev pub invariant-loop-section : goal.invariant-loop-section
invariant-loop-section l = list_any (is_named_too_often l.all l.numbers) (drop l.section-index l.sections) ≡ list_any (is_named_too_often l.all l.numbers) l.sections
