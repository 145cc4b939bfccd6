use Rattle.std.proofs.Common.{arith, ◌-◌}
use Rattle.indexmap.proofs.CallerLemmas.{keys-with_value_at}
use Rattle.wh_keyindex.proofs.Numbered.{count_at, written_at}
use Rattle.wh_keyindex.proofs.child_index.count_down.Goals as goal

pub overflow_sub-count : goal.overflow_sub-count
overflow_sub-count c = let is = count_at c.args.counts.now c.args.number c.in-Some.count.now c.requires.once c.in-Some.ensures.value in let some = c.requires.counted in omega (arith, is, some)

pub returns-in-Some-clause-values : goal.returns-in-Some-clause-values
returns-in-Some-clause-values c = keys-with_value_at c.args.counts.now c.args.number (c.in-Some.count.now - 1)

pub returns-in-Some-clause-counted : goal.returns-in-Some-clause-counted
returns-in-Some-clause-counted c = written_at c.args.counts.now c.args.number c.in-Some.count.now c.requires.once c.in-Some.ensures.value
