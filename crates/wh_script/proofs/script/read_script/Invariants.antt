use Rattle.std.proofs.Common.{true, ◌≡◌, ◌-◌, ◌≤◌, length}
use Rattle.def_built.specs.Form.{built_script, draft_is_built}
use Rattle.def_grammar.specs.Script.{line_at, read_from}
use Rattle.wh_script.specs.Pieces.{elements_left}
use Rattle.wh_script.proofs.script.read_script.Given as goal

abbrev pub invariant-loop-mark : goal.invariant-loop-mark
invariant-loop-mark l = record {
  within : l.mark.place ≤ length l.bytes;
  line : l.mark.line ≡ line_at l.bytes l.mark.place;
  built : draft_is_built l.draft ≡ true;
  rest : read_from draft_is_built l.bytes l.tail l.draft (elements_left l.bytes l.valid l.mark.place) ≡ built_script l.bytes l.tail;
}

abbrev pub decreases-loop-mark : goal.decreases-loop-mark
decreases-loop-mark l = length l.bytes - l.mark.place
