use Rattle.std.proofs.Common.{◌≡◌, ◌+◌, [], length}
use Rattle.scn_lock.specs.Words.{view, passes_made, IsOf, IsFirst, IsFree, AreInOrder}
use Rattle.scn_lock.proofs.tests.make.Given as goal

abbrev pub invariant-loop-i : goal.invariant-loop-i
invariant-loop-i l = record {
  of : IsOf l.lock l.first;
  first : IsFirst l.first;
  free : IsFree l.first;
  joined : (view l.first).joined ≡ [];
  made : passes_made l.first ≡ l.i + 1;
  long : length l.passes.items ≡ l.i;
  passes : AreInOrder l.lock l.passes.items;
}
