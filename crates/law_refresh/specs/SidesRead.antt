-- The rows that a log has of one side, read back.
use Rattle.std.specs.List.{list_any}
use Rattle.std.specs.Prelude.{Bool, List, Some, false, filter, map, pos, true, unwrap_or, ℕ, ◌≡◌, ◌≤◌}
use Rattle.wh_base.specs.Lists.{option_case}
use Rattle.wh_base.specs.Tables.{Row}
use Rattle.wh_base.specs.Values.{same_value}
use Rattle.wh_base.specs.declared.logs.LogRow.{LogRow}
use Rattle.wh_base.specs.declared.logs.LogSide.{LogSide}
use Rattle.wh_base.specs.declared.logs.LogSide.TheVariants.{N, O}
use Rattle.wh_base.specs.declared.statements.Event.{Event}
use Rattle.wh_base.specs.declared.values.Value.{Value}
use Rattle.wh_base.specs.declared.values.Value.TheVariants.{Num}
use Rattle.def_history.specs.Catalog.{Log, log_of}
use Rattle.def_history.specs.History.{changes_of, within}
use Rattle.def_history.specs.Logs.{log_history, log_rows}
use Rattle.law_delta.specs.ByRowid.{rowid_among}
use Rattle.law_delta.specs.Deltas.{new_rows, old_rows}
use Rattle.law_delta.specs.Restored.{logged_row, restored}
use Rattle.law_trace.specs.Reached.{catalog_of}

abbrev pub same_side : LogSide → LogSide → Bool
same_side O O = true
same_side N N = true
same_side a b = false

abbrev pub read_row : ℕ → List ℕ → LogRow → Row
read_row width columns r = record { rowid = unwrap_or r.rowid 0; values = restored width columns r.values }

abbrev pub read_side : ℕ → List ℕ → LogSide → List LogRow → List Row
read_side width columns side rows = map (read_row width columns) (filter (λ r. same_side r.side side) rows)

-- the row has this rowid
abbrev pub rowid_logged : Value → LogRow → Bool
rowid_logged v r = option_case r.rowid false (λ n. same_value v (Num (pos n)))

-- the rows of these SCNs
abbrev pub log_between : ℕ → ℕ → List LogRow → List LogRow
log_between from to rows = filter (λ r. within from to r.scn) rows

pub record ReadLaws : Type 0 where
  -- from the purge point on the log holds all rows that it ever had
  pub held : (trace : List Event) (l : Log) (q : ℕ) → l.facts.from ≤ q
      → log_between q (catalog_of trace).scn (log_rows (catalog_of trace) l) ≡ log_between q (catalog_of trace).scn (log_history (catalog_of trace) l)
  -- read back, they are the sides of the table's changes since then by the logged columns
  pub olds : (trace : List Event) (table q width : ℕ) (l : Log) → log_of (catalog_of trace) table ≡ Some l → l.facts.from ≤ q → l.facts.rowid ≡ true → l.facts.new_values ≡ true
      → read_side width l.facts.columns O (log_between q (catalog_of trace).scn (log_history (catalog_of trace) l)) ≡ map (logged_row width l.facts.columns) (old_rows (changes_of (catalog_of trace) table q (catalog_of trace).scn))
  pub news : (trace : List Event) (table q width : ℕ) (l : Log) → log_of (catalog_of trace) table ≡ Some l → l.facts.from ≤ q → l.facts.rowid ≡ true → l.facts.new_values ≡ true
      → read_side width l.facts.columns N (log_between q (catalog_of trace).scn (log_history (catalog_of trace) l)) ≡ map (logged_row width l.facts.columns) (new_rows (changes_of (catalog_of trace) table q (catalog_of trace).scn))
  -- and their rowids are those of the changes
  pub rowids : (trace : List Event) (table q : ℕ) (l : Log) (v : Value) → log_of (catalog_of trace) table ≡ Some l → l.facts.from ≤ q → l.facts.rowid ≡ true
      → list_any (rowid_logged v) (log_between q (catalog_of trace).scn (log_history (catalog_of trace) l)) ≡ rowid_among (changes_of (catalog_of trace) table q (catalog_of trace).scn) v
