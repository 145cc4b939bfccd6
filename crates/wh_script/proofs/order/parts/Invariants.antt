use Rattle.std.proofs.Common.{◌≡◌, ◌+◌, ◌*◌, ◌≤◌, drop, length}
use Rattle.wh_base.specs.Parts.{section_entries}
use Rattle.wh_script.proofs.Orders.{parts_behind}
use Rattle.wh_script.proofs.order.parts.Given as goal

abbrev pub invariant-loop-command : goal.invariant-loop-command
invariant-loop-command l = record {
  few : l.parts ≤ l.command-index * 2;
  rest : l.parts + parts_behind l.section.session (l.command-index + 1) (drop l.command-index l.section.commands) ≡ length (section_entries l.section);
}
