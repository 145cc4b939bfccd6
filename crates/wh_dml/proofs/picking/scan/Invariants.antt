use Rattle.std.proofs.Common.{◌≡◌, ◌+◌, ◌++◌, ◌≤◌, drop, length}
use Rattle.wh_base.specs.Tables.{live_rows, places_of}
use Rattle.wh_dml.specs.Picking.{picked_from, picks}
use Rattle.wh_dml.proofs.picking.scan.Given as goal

-- the rows so far and those from this place on are all rows, and the counter rose by the live ones before it
abbrev pub invariant-loop-place : goal.invariant-loop-place
invariant-loop-place g l = record {
  found :
      l.found.items ++ picks l.filter (picked_from l.place (drop l.place (places_of (g.R.RowsOf.tables l.rows) l.table)))
      ≡ picks l.filter (picked_from 0 (places_of (g.R.RowsOf.tables l.rows) l.table));
  raised :
      l.reads + length (live_rows (drop l.place (places_of (g.R.RowsOf.tables l.rows) l.table)))
      ≡ l.initial.reads + length (live_rows (places_of (g.R.RowsOf.tables l.rows) l.table));
  least : l.initial.reads ≤ l.reads;
}
