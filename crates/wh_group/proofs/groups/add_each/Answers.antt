use Rattle.std.proofs.Common.{◌∙◌, ap, arith, get_or, length, take, ◌<◌}
use Rattle.std.proofs.Math.ListN.{set}
use Rattle.def_meaning.specs.Joined.{column_value}
use Rattle.wh_base.specs.declared.columns.Agg.TheVariants.{CountAll}
use Rattle.wh_group.specs.Tallies.{counted, tally_with}
use Rattle.wh_group.proofs.Adding.{add-next, length-tallies}
use Rattle.wh_group.proofs.groups.add_each.Goals as goal

pub loop-at-preserved : goal.loop-at-preserved
loop-at-preserved c =
    let value = counted (column_value c.args.tables.now c.args.tuple.now) in
    let aggs = c.args.aggs.now in
    let old = c.args.tallies.now in
    let at = c.loop-at.at in
    let same = c.loop-at.invariant in
    let within : at < length old = omega (arith, ap length same, length-tallies value (take at aggs) old) in
    ap (set c.loop-at.tallies at) (c.in_ok-add.ensures ∙ ap (λ v. tally_with v (get_or c.loop-at.tallies at c.index-tallies-at.result)) c.counted.ensures.value)
    ∙ ap (λ now. set now at (tally_with (value (get_or aggs at CountAll)) (get_or now at c.index-tallies-at.result))) same
    ∙ add-next value aggs old at CountAll c.index-tallies-at.result (omega arith) within
