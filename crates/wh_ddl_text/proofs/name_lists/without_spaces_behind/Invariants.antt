use Rattle.std.proofs.Common.{◌≡◌, ◌≤◌, length}
use Rattle.def_grammar.specs.Forms.{without_spaces_behind}
use Rattle.wh_ddl_text.proofs.name_lists.without_spaces_behind.Given as goal

abbrev pub invariant-loop-last : goal.invariant-loop-last
invariant-loop-last l = record {
  same : without_spaces_behind l.rest ≡ without_spaces_behind l.text;
  few : length l.rest ≤ length l.text;
}

abbrev pub decreases-loop-last : goal.decreases-loop-last
decreases-loop-last l = length l.rest
