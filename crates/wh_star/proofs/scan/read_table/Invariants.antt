use Rattle.std.proofs.Common.{◌≡◌, ◌+◌, ◌++◌, drop, length}
use Rattle.std.specs.Option.{option_copied}
use Rattle.wh_base.specs.Tables.{live_rows, places_of}
use Rattle.wh_star.specs.Lookups.{rows_in}
use Rattle.wh_star.proofs.scan.read_table.Given as goal

-- the rows so far and those from this place on are all rows, and each of those so far raised the counter
abbrev pub invariant-loop-place : goal.invariant-loop-place
invariant-loop-place g l = record {
  found :
      l.found.items ++ rows_in (option_copied l.numbers) (live_rows (drop l.place (places_of (g.R.RowsOf.tables l.rows) l.table)))
      ≡ rows_in (option_copied l.numbers) (live_rows (places_of (g.R.RowsOf.tables l.rows) l.table));
  raised : l.reads ≡ l.initial.reads + length l.found.items;
}
