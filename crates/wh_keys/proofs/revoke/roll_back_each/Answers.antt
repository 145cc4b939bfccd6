use Rattle.std.proofs.Common.{arith, ◌<◌, length}
use Rattle.std.proofs.lemmas.List.Edits.{map_over_more}
use Rattle.wh_keys.proofs.revoke.roll_back_each.Goals as goal

pub loop-item-preserved : goal.loop-item-preserved
loop-item-preserved g c =
    let low : c.loop-item.item-index < length c.args.items.now = omega arith in
    rw (c.roll_back.ensures, ← c.item-item.is) (map_over_more g.T.Revoke.rolled_back c.args.items.now c.loop-item.items c.loop-item.item-index c.item-item.result low c.loop-item.invariant c.item-item.is)
