use Rattle.std.proofs.Common.{◌∙◌, ap, arith, get_or, length, take, ◌<◌}
use Rattle.std.proofs.Math.ListN.{set}
use Rattle.wh_group.specs.Tallies.{merged_tally}
use Rattle.wh_group.proofs.Adding.{length-each, merge-next}
use Rattle.wh_group.proofs.groups.merge_tallies.Goals as goal

pub loop-at-preserved : goal.loop-at-preserved
loop-at-preserved c =
    let old = c.args.tallies.now in
    let others = c.args.others.now in
    let at = c.loop-at.at in
    let tally = c.index-tallies-at.result in
    let other = c.index-others-at.result in
    let same = c.loop-at.invariant in
    let within : at < length old = omega (arith, ap length same, length-each old (take at others)) in
    ap (set c.loop-at.tallies at) (c.in_ok-merge.ensures ∙ ap (merged_tally (get_or c.loop-at.tallies at tally)) c.index-others-at.is)
    ∙ ap (λ now. set now at (merged_tally (get_or now at tally) (get_or others at other))) same
    ∙ merge-next old others at tally other (omega arith) within
