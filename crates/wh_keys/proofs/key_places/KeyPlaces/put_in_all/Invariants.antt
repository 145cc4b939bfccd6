use Rattle.std.proofs.Common.{◌≡◌, drop}
use Rattle.wh_keys.specs.Indexes.{coming, with_keys}
use Rattle.wh_keys.proofs.key_places.KeyPlaces.put_in_all.Given as goal

abbrev pub invariant-loop-change : goal.invariant-loop-change
invariant-loop-change l =
    record {
      same : l.self.before ≡ l.initial.self.before;
      now : with_keys (coming l.column (drop l.change-index l.changes)) l.self.now ≡ with_keys (coming l.column l.changes) l.initial.self.now;
    }
