use Rattle.std.proofs.Common.{◌≡◌, ◌≤◌, ◌++◌, drop, length, map, vec_capacity, vec_len}
use Rattle.wh_base.specs.Tables.{value_at}
use Rattle.wh_log.proofs.sides.logged_of.Given as goal

-- the values picked and those still to pick
abbrev pub invariant-loop-column : goal.invariant-loop-column
invariant-loop-column l = record {
  whole : l.picked.items ++ map (value_at l.values.items) (drop l.column-index l.column-items) ≡ map (value_at l.fn.row) l.column-items;
  count : vec_len l.picked ≡ l.column-index;
  room : length l.column-items ≤ vec_capacity l.picked;
  kept : vec_len l.values ≡ length l.fn.row;
}
