use Rattle.std.proofs.Common.{◌≡◌, drop}
use Rattle.wh_keys.specs.Indexes.{coming}
use Rattle.wh_keys.specs.Made.{with_places}
use Rattle.wh_keys.proofs.child_values.ChildValues.put_in_all.Given as goal

abbrev pub invariant-loop-change : goal.invariant-loop-change
invariant-loop-change l =
    record {
      same : l.self.before ≡ l.initial.self.before;
      now : with_places (coming l.column (drop l.change-index l.changes)) l.self.now ≡ with_places (coming l.column l.changes) l.initial.self.now;
    }
