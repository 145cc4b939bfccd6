use Rattle.std.proofs.Common.{◌≡◌, ◌∙◌, sym, Ok, Err, suc, length, take}
use Rattle.def_effect.specs.Define.{new_range_refusal, numbered_parts}
use Rattle.wh_base.specs.Lists.{unless}
use Rattle.wh_define.specs.Bounds.{numbered}
use Rattle.wh_define.proofs.Numbers.{next_parts, next_turn, no_turn}
use Rattle.wh_define.proofs.ranges.numbered_parts.Goals as goal

pub returns-in-Err : goal.returns-in-Err
returns-in-Err c =
    let ask = new_range_refusal c.args.table.now c.args.column.now c.args.kind in
    let ranges = c.args.ranges.now in
    let r = c.index-ranges-at.result in
    let next = numbered (suc (length c.loop-at.parts)) r in
    let told : Err c.in-Err.refusal ≡ unless (ask (take c.loop-at.at ranges) r) next = sym c.in-Err.is ∙ c.in_ok-part.ensures in
    no_turn ask ranges c.loop-at.at r next (numbered_parts 1 ranges) c.in-Err.refusal c.loop-at-test.true c.index-ranges-at.is c.loop-at.invariant.turn told

pub loop-at-preserved : goal.loop-at-preserved
loop-at-preserved c =
    let ask = new_range_refusal c.args.table.now c.args.column.now c.args.kind in
    let ranges = c.args.ranges.now in
    let r = c.index-ranges-at.result in
    let made : Ok c.in-Ok.part ≡ unless (ask (take c.loop-at.at ranges) r) (numbered (suc (length c.loop-at.parts)) r) = sym c.in-Ok.is ∙ c.in_ok-part.ensures in
    record {
      parts = c.in_ok-push-in-Ok.ensures.ok ∙ next_parts ask ranges c.loop-at.at r c.loop-at.parts c.in-Ok.part c.loop-at-test.true c.index-ranges-at.is c.loop-at.invariant.parts made;
      turn = next_turn ask ranges c.loop-at.at r c.loop-at.parts c.in-Ok.part c.loop-at-test.true c.index-ranges-at.is made ∙ c.loop-at.invariant.turn;
    }
