use Rattle.std.proofs.Common.{◌≡◌, length}
use Rattle.wh_keys.specs.Made.{all_values_changed}
use Rattle.wh_keys.specs.Undoing.{all_before, all_now}
use Rattle.wh_keys.proofs.Each.{foreign_from}
use Rattle.wh_keys.proofs.table_keys.change_all_foreign.Given as goal

abbrev pub invariant-loop-at : goal.invariant-loop-at
invariant-loop-at l =
    record {
      same : all_before l.indexes.items ≡ all_before l.initial.indexes.items;
      as_many : length l.foreign ≡ length l.indexes.items;
      made : foreign_from l.at l.foreign l.changes (all_now l.indexes.items) ≡ all_values_changed l.foreign l.changes (all_now l.initial.indexes.items);
    }
