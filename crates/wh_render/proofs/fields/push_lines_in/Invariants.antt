use Rattle.std.proofs.Common.{◌≡◌, ◌++◌, map, take}
use Rattle.def_transcript.specs.Texts.{lines_text}
use Rattle.wh_render.proofs.fields.push_lines_in.Given as goal

abbrev pub invariant-loop-item : goal.invariant-loop-item
invariant-loop-item g l = l.out.items ≡ l.fn.out.items ++ lines_text (map (g.T.Versioned.text l.version) (take l.item-index l.items))
