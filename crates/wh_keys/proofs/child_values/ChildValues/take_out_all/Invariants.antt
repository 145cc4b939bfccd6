use Rattle.std.proofs.Common.{◌≡◌, drop}
use Rattle.wh_keys.specs.Indexes.{going}
use Rattle.wh_keys.specs.Made.{without_places}
use Rattle.wh_keys.proofs.child_values.ChildValues.take_out_all.Given as goal

abbrev pub invariant-loop-change : goal.invariant-loop-change
invariant-loop-change l =
    record {
      same : l.self.before ≡ l.initial.self.before;
      now : without_places (going l.column (drop l.change-index l.changes)) l.self.now ≡ without_places (going l.column l.changes) l.initial.self.now;
    }
