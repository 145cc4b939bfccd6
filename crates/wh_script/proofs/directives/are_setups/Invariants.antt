use Rattle.std.proofs.Common.{◌≡◌, drop}
use Rattle.wh_script.specs.Drafts.{are_setups}
use Rattle.wh_script.proofs.directives.are_setups.Given as goal

abbrev pub invariant-loop-section : goal.invariant-loop-section
invariant-loop-section l = are_setups (drop l.section-index l.sections) ≡ are_setups l.sections
