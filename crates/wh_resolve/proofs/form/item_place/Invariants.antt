use Rattle.std.proofs.Common.{◌≡◌, ◌+◌, drop}
use Rattle.std.specs.List.{position_or_len}
use Rattle.wh_base.specs.Columns.{same_item}
use Rattle.wh_resolve.proofs.form.item_place.Given as goal

abbrev pub invariant-loop-at : goal.invariant-loop-at
invariant-loop-at l = l.at + position_or_len (same_item l.item) (drop l.at l.items) ≡ position_or_len (same_item l.item) l.items
