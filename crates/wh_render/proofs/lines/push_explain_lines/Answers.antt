use Rattle.std.proofs.Common.{◌≡◌, ◌<◌, append_assoc, append-nil, arith, length, min}
use Rattle.wh_render.proofs.Explained.{explain-end, explain-step}
use Rattle.wh_render.proofs.lines.push_explain_lines.Goals as goal

pub loop-at-preserved : goal.loop-at-preserved
loop-at-preserved c =
    let rs = c.args.reasons.now in
    let within : c.loop-at.at < length rs = omega (arith, c.loop-at-test.true, c.min-at-end.ensures) in
    let before = rw (explain-step c.loop-at.at rs c.explain_name.result.now c.index-reasons-at.result c.explain_name.ensures within c.index-reasons-at.is) at c.loop-at.invariant in
    rw (c.in_ok-push.ensures.items, c.in_ok-push_explain_line.ensures) (simp append_assoc (simp append_assoc at before))

pub returns : goal.returns
returns c =
    let rs = c.args.reasons.now in
    let ended : c.loop-at.at ≡ min (length rs) 9 = omega (arith, c.loop-at-test.false, c.loop-at.auto.at-end, c.min-at-end.ensures) in
    rw (explain-end c.loop-at.at rs ended, append-nil) at c.loop-at.invariant
