use Rattle.std.proofs.Common.{◌≡◌, ◌++◌, flat_map, List, ℕ}
use Rattle.def_transcript.specs.Texts.{first_lines, lines_text}
use Rattle.wh_session.specs.Run.{Run}
use Rattle.wh_top.proofs.output.texts_of.Given as goal

abbrev text_of : Run → List ℕ
text_of r = r.text

abbrev pub invariant-loop-session : goal.invariant-loop-session
invariant-loop-session g l = l.text.items ++ flat_map text_of l.session-iterator.rest.items ≡ lines_text (first_lines l.fn.version) ++ flat_map text_of l.fn.sessions.items
