use Rattle.std.proofs.Common.{◌≡◌, drop}
use Rattle.std.specs.List.{list_any}
use Rattle.def_grammar.specs.Script.{is_section_of}
use Rattle.wh_script.proofs.order.has_section.Given as goal

abbrev pub invariant-loop-section : goal.invariant-loop-section
invariant-loop-section l = list_any (is_section_of l.number) (drop l.section-index l.sections) ≡ list_any (is_section_of l.number) l.sections
