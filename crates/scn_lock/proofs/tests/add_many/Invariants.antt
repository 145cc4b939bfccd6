use Rattle.scn_lock.specs.Words.{IsOf, IsFree, IsSamePass}
use Rattle.scn_lock.proofs.tests.add_many.Given as goal

abbrev pub invariant-loop-what : goal.invariant-loop-what
invariant-loop-what g l = record {
  of : IsOf l.lock l.pass;
  free : IsFree l.pass;
  same : IsSamePass l.initial.pass l.pass;
}
