use Rattle.std.proofs.Common.{arith, ◌<◌, length}
use Rattle.std.proofs.lemmas.List.Edits.{map_over_more}
use Rattle.wh_order.specs.Left.{passed_of}
use Rattle.wh_order.proofs.order.pass_next.Goals as goal

-- the cursor at the place is passed
pub loop-cursor-preserved : goal.loop-cursor-preserved
loop-cursor-preserved c =
    let low : c.loop-cursor.cursor-index < length c.args.left.now = omega arith in
    rw (c.pass_of.ensures, ← c.cursor-item.is) (map_over_more (passed_of c.args.session) c.args.left.now c.loop-cursor.left c.loop-cursor.cursor-index c.cursor-item.result low c.loop-cursor.invariant c.cursor-item.is)
