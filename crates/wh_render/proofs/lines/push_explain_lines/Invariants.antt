use Rattle.std.proofs.Common.{◌≡◌, ◌++◌}
use Rattle.wh_render.proofs.Explained.{lines_from}
use Rattle.wh_render.proofs.lines.push_explain_lines.Given as goal

abbrev pub invariant-loop-at : goal.invariant-loop-at
invariant-loop-at l = l.out.items ++ lines_from l.at l.reasons ≡ l.fn.out.items ++ lines_from 0 l.reasons
