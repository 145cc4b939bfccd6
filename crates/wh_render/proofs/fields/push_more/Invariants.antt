use Rattle.std.proofs.Common.{◌≡◌, ◌++◌, map, take}
use Rattle.wh_render.specs.Pieces.{more_parts}
use Rattle.wh_render.proofs.fields.push_more.Given as goal

abbrev pub invariant-loop-item : goal.invariant-loop-item
invariant-loop-item g l = l.out.items ≡ l.fn.out.items ++ more_parts l.mark (map g.T.Printed.text (take l.item-index l.items))
