use Rattle.std.proofs.Common.{arith, ◌∙◌}
use Rattle.wh_segment.proofs.Removing.{all_below, all_counted}
use Rattle.wh_segment.proofs.segment.remove_past.Goals as goal

pub returns-clause-count : goal.returns-clause-count
returns-clause-count c = c.loop-place.invariant.counted ∙ all_counted c.args.to c.loop-place.place c.args.versions.now (omega (arith, c.loop-place-test.false, c.len-place-end.ensures.count))

pub returns-clause-ok : goal.returns-clause-ok
returns-clause-ok c = c.loop-place.invariant.versions ∙ all_below c.args.to c.loop-place.place c.args.versions.now (omega (arith, c.loop-place-test.false, c.len-place-end.ensures.count))
