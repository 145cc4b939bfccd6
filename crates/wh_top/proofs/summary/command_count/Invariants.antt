use Rattle.std.proofs.Common.{◌≡◌, take}
use Rattle.wh_top.specs.Running.{command_count}
use Rattle.wh_top.proofs.summary.command_count.Given as goal

abbrev pub invariant-loop-section : goal.invariant-loop-section
invariant-loop-section l = l.count ≡ command_count (take l.section-index l.sections)
