use Rattle.std.proofs.Common.{◌≡◌, ◌≤◌, ◌++◌, drop}
use Rattle.wh_group.specs.Entries.{items_row}
use Rattle.wh_group.proofs.answers.items_row.Given as goal

-- the values so far and those to come are the row
abbrev pub invariant-loop-item : goal.invariant-loop-item
invariant-loop-item l = record {
  row : l.row.items ++ items_row l.keys l.key l.tallies l.at (drop l.item-index l.items) ≡ items_row l.keys l.key l.tallies 0 l.items;
  within : l.at ≤ l.item-index;
}
