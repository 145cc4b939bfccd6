use Rattle.std.proofs.Common.{◌≡◌, length}
use Rattle.wh_keys.specs.Made.{all_keys_changed}
use Rattle.wh_keys.specs.Undoing.{all_before, all_now}
use Rattle.wh_keys.proofs.Each.{keys_from}
use Rattle.wh_keys.proofs.table_keys.change_all_keys.Given as goal

abbrev pub invariant-loop-at : goal.invariant-loop-at
invariant-loop-at l =
    record {
      same : all_before l.keys.items ≡ all_before l.initial.keys.items;
      as_many : length l.columns ≡ length l.keys.items;
      made : keys_from l.at l.columns l.changes (all_now l.keys.items) ≡ all_keys_changed l.columns l.changes (all_now l.initial.keys.items);
    }
