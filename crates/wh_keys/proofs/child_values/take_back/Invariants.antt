use Rattle.std.proofs.Common.{◌≡◌, ◌≤◌, vec_len}
use Rattle.wh_keys.specs.Undoing.{undone}
use Rattle.wh_keys.proofs.child_values.take_back.Given as goal

abbrev pub invariant-loop-was : goal.invariant-loop-was
invariant-loop-was l =
    record {
      room : vec_len l.log ≤ l.index.spare;
      values : undone l.log.items l.index.values ≡ undone l.initial.log.items l.initial.index.values;
    }

abbrev pub decreases-loop-was : goal.decreases-loop-was
decreases-loop-was l = vec_len l.log
