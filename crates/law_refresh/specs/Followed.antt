-- A table is what its changes make of it.
use Rattle.std.specs.List.{All}
use Rattle.std.specs.Prelude.{false, List, fold, length, ℕ, ◌<◌, ◌≡◌, ◌≤◌}
use Rattle.wh_base.specs.Tables.{Base, rows_after, table_after, table_at}
use Rattle.wh_base.specs.declared.tables.Change.{Change}
use Rattle.wh_base.specs.declared.statements.Event.{Event}
use Rattle.def_history.specs.Catalog.{base_at, base_now}
use Rattle.def_history.specs.History.{changes_of, maintained}
use Rattle.law_delta.specs.Deltas.{AllApply}
use Rattle.law_trace.specs.Reached.{catalog_of, still_table}
use Rattle.law_trace.specs.Rows.{Fits}

-- The table with this number is later what the changes, one after another, make of it, and each of them has the row that it changes.
pub record Followed (table : ℕ) (before later : Base) (changes : List Change) : Type 0 where
  pub apply : AllApply (table_at before table).rows changes
  pub rows : (table_at later table).rows ≡ fold rows_after (table_at before table).rows changes
  -- where it was there, also its definition but for row movement, its partitions and the rowids that it gave are those after the changes
  pub whole : table < length before → still_table (table_at later table) ≡ still_table (table_after (table_at before table) changes)
  pub grown : length before ≤ length later

pub record HistoryLaws : Type 0 where
  -- without an ALTER TABLE after an SCN a table is what the changes noted since then make of what it was
  pub followed : (trace : List Event) (table q : ℕ) → maintained (catalog_of trace) table q (catalog_of trace).scn ≡ false
      → Followed table (base_at (catalog_of trace) q) (base_now (catalog_of trace)) (changes_of (catalog_of trace) table q (catalog_of trace).scn)
  -- the rows of every base state of the past fit their tables
  pub fits : (trace : List Event) (p : ℕ) → All (λ t. All (λ r. Fits t r.values) t.rows) (base_at (catalog_of trace) p)
