use Rattle.std.proofs.Common.{◌≡◌, map}
use Rattle.scn_lock.specs.Words.{view, passes_made, kept_of, IsOf, IsFirst, IsFree}
use Rattle.scn_lock.proofs.tests.join_all.Given as goal

abbrev pub invariant-loop-pass : goal.invariant-loop-pass
invariant-loop-pass l = record {
  of : IsOf l.lock l.first;
  first : IsFirst l.first;
  free : IsFree l.first;
  made : passes_made l.first ≡ passes_made l.initial.first;
  joined : (view l.first).joined ≡ map kept_of l.yielded;
}
