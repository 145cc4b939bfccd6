use Rattle.std.proofs.Common.{◌≡◌, ◌++◌, drop}
use Rattle.wh_order.specs.Left.{setup_entries}
use Rattle.wh_order.proofs.order.setup_of.Given as goal

abbrev pub invariant-loop-section : goal.invariant-loop-section
invariant-loop-section l = l.journal ++ setup_entries (drop l.section-index l.sections) ≡ setup_entries l.sections
