use Rattle.std.proofs.Common.{◌≡◌, ◌≤◌, vec_len}
use Rattle.wh_keys.specs.Undoing.{undone}
use Rattle.wh_keys.proofs.key_places.take_back.Given as goal

abbrev pub invariant-loop-was : goal.invariant-loop-was
invariant-loop-was l =
    record {
      room : vec_len l.log ≤ l.index.spare;
      places : undone l.log.items l.index.places ≡ undone l.initial.log.items l.initial.index.places;
    }

abbrev pub decreases-loop-was : goal.decreases-loop-was
decreases-loop-was l = vec_len l.log
