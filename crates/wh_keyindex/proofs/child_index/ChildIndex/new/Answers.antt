use Rattle.std.proofs.Common.{arith}
use Rattle.wh_keyindex.proofs.Numbered.{none_counted, none_known}
use Rattle.wh_keyindex.proofs.child_index.ChildIndex.new.Goals as goal

pub invariant_of-result : goal.invariant_of-result
invariant_of-result c = record {
  numbers_room = omega arith;
  counts_room = omega arith;
  numbers_once = c.new.ensures.unique;
  counts_once = c.new-2.ensures.unique;
  known = none_known _ c.new.result c.new.ensures.empty;
  counted = none_counted c.new-2.result c.new.result c.new-2.ensures.empty c.new.ensures.empty;
}
