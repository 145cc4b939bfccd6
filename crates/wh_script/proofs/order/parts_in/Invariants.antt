use Rattle.std.proofs.Common.{◌≡◌, drop}
use Rattle.def_grammar.specs.Script.{parts_in}
use Rattle.wh_script.proofs.order.parts_in.Given as goal

abbrev pub invariant-loop-section : goal.invariant-loop-section
invariant-loop-section l = parts_in (drop l.section-index l.sections) l.number ≡ parts_in l.sections l.number
