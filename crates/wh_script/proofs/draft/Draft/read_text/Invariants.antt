use Rattle.std.proofs.Common.{◌-◌, ◌≡◌, ◌≤◌, true}
use Rattle.def_built.specs.Form.{draft_is_built}
use Rattle.wh_script.specs.Texts.{IsMark, IsReadOn}
use Rattle.wh_script.proofs.draft.Draft.read_text.Given as goal

-- the script is read on from here as it was from the mark on
abbrev pub invariant-loop-text : goal.invariant-loop-text
invariant-loop-text l = record {
  within : l.text.at ≤ l.end;
  mark : IsMark l.bytes l.text.at l.text.mark;
  built : draft_is_built l.text.draft ≡ true;
  same : IsReadOn l.bytes l.valid l.end l.fn.self l.fn.mark.place l.text.draft l.text.at;
}

abbrev pub decreases-loop-text : goal.decreases-loop-text
decreases-loop-text l = l.end - l.text.at
