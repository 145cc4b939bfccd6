use Rattle.std.proofs.Common.{◌≡◌, ◌++◌, map, take}
use Rattle.wh_render.specs.Pieces.{more_words}
use Rattle.wh_render.proofs.words.push_all_printed.Given as goal

abbrev pub invariant-loop-item : goal.invariant-loop-item
invariant-loop-item g l = l.out.items ≡ l.fn.out.items ++ more_words (map g.T.Printed.text (take l.item-index l.items))
