-- What a refresh by logs computes from: what the view stored, the rows of the root's log after the view's point, and the rows of the other tables.
use Rattle.std.specs.List.{list_any}
use Rattle.std.specs.Prelude.{Bool, List, None, Some, [], false, filter, length, map, not, pos, slice_get, true, ℕ, ◌++◌, ◌||◌, ◌≡◌}
use Rattle.wh_base.specs.Lists.{is_empty, sorted_by}
use Rattle.wh_base.specs.Tables.{def_at, is_removal, row_at, table_at, value_at}
use Rattle.wh_base.specs.declared.columns.ColPart.TheVariants.{RowId}
use Rattle.wh_base.specs.declared.logs.LogRow.{LogRow}
use Rattle.wh_base.specs.declared.logs.LogSide.{LogSide}
use Rattle.wh_base.specs.declared.logs.LogSide.TheVariants.{N, O}
use Rattle.wh_base.specs.declared.queries.Item.TheVariants as item
use Rattle.wh_base.specs.declared.statements.Event.{Event}
use Rattle.wh_base.specs.declared.tables.RowAt.{RowAt}
use Rattle.wh_base.specs.declared.values.Value.{Value}
use Rattle.wh_base.specs.declared.values.Value.TheVariants.{Num}
use Rattle.wh_base.specs.declared.views.ViewEntry.{ViewEntry}
use Rattle.def_history.specs.Catalog.{Catalog, Log, View, base_now, defs_now, log_of}
use Rattle.def_history.specs.Logs.{log_history}
use Rattle.def_history.specs.Staleness.{changes_after, content, point_of, restriction}
use Rattle.def_journal.specs.Refreshing.{live_changed, all_rows, changed_tables, fast_reads, root_reads, extreme_met_removal, other_changed}
use Rattle.def_meaning.specs.Joined.{column_value, rows_at}
use Rattle.def_meaning.specs.Meaning.{entry_cmp, plain_entries, stored}
use Rattle.def_restrictions.specs.Definition.{has_extreme, is_insert_only}
use Rattle.law_delta.specs.Moved.{inserted_single, moved_single, KeysApart, found_row, row_after, row_inserted, side_tuples}
use Rattle.law_refresh.specs.Planned.{IsPlanned}
use Rattle.law_refresh.specs.SidesRead.{log_between, read_side, rowid_logged}
use Rattle.law_trace.specs.Reached.{catalog_of}

-- The rows of a log after the view's point; where FROM isn't above the point, the log still has them all.
abbrev pub log_since : Catalog → View → Log → List LogRow
log_since c v l = log_between (point_of v) c.scn (log_history c l)

-- One side of these rows, each with the logged columns alone and with its mark.
abbrev pub side_logged : Catalog → View → Log → LogSide → List RowAt
side_logged c v l side =
    map (row_at (table_at (base_now c) v.def.query.root)) (read_side (length (def_at (defs_now c) v.def.query.root).columns) l.facts.columns side (log_since c v l))

-- The tuples of that side of the root with the rows of the other tables as they are now.
abbrev pub tuples_logged : Catalog → View → Log → LogSide → List (List RowAt)
tuples_logged c v l side = side_tuples v.def.query v.def.query.root (side_logged c v l side) (rows_at (base_now c))

-- The rowid is in the log after the view's point.
abbrev pub is_logged : Catalog → View → Log → Value → Bool
is_logged c v l rowid = list_any (rowid_logged rowid) (log_since c v l)

-- The entries of a join view: without those of the root's rowids that are logged, and with those of the rows of these rowids that live.
abbrev pub entries_joined : Catalog → View → Log → ℕ → List ViewEntry
entries_joined c v l place =
    let q = v.def.query in
    filter (λ e. not (is_logged c v l (value_at e.row place))) (content c v)
    ++ plain_entries (column_value q.tables) q (side_tuples q q.root (filter (λ r. is_logged c v l (Num (pos r.rowid))) (rows_at (base_now c) q.root)) (rows_at (base_now c)))

-- The view may be refreshed by its root's log alone: no restriction holds, and no other table changed.
pub record IsFast (c : Catalog) (v : View) (l : Log) : Type 0 where
  pub planned : IsPlanned c v
  pub free : restriction c v ≡ None
  pub alone : other_changed c v ≡ false
  pub log : log_of c v.def.query.root ≡ Some l

pub record FastLaws : Type 0 where
  -- nothing changed: the view stores what it stored
  pub still : (trace : List Event) (v : View) → IsPlanned (catalog_of trace) v → restriction (catalog_of trace) v ≡ None → changed_tables (catalog_of trace) v ≡ []
      → content (catalog_of trace) v ≡ stored v.def.query (base_now (catalog_of trace))
  -- an aggregate view of which the root had inserts alone: whatever it selects
  pub inserted : (trace : List Event) (v : View) (l : Log) → IsFast (catalog_of trace) v l → v.def.query.grouped ≡ true → is_empty v.def.query.keys ≡ false
      → list_any is_removal (changes_after (catalog_of trace) v v.def.query.root) ≡ false
      → (es : List ViewEntry) → KeysApart es
      → ((k : List Value) → found_row k es ≡ row_inserted (column_value v.def.query.tables) v.def.query (content (catalog_of trace) v) (tuples_logged (catalog_of trace) v l N) k)
      → sorted_by entry_cmp es ≡ stored v.def.query (base_now (catalog_of trace))
  -- an aggregate view of which the root changed in any way, without MIN and MAX
  pub moved : (trace : List Event) (v : View) (l : Log) → IsFast (catalog_of trace) v l → v.def.query.grouped ≡ true → is_empty v.def.query.keys ≡ false
      → is_insert_only v.def ≡ false → has_extreme v.def.query ≡ false
      → (es : List ViewEntry) → KeysApart es
      → ((k : List Value) → found_row k es ≡ row_after (column_value v.def.query.tables) v.def.query (content (catalog_of trace) v) (tuples_logged (catalog_of trace) v l O) (tuples_logged (catalog_of trace) v l N) k)
      → sorted_by entry_cmp es ≡ stored v.def.query (base_now (catalog_of trace))
  -- the same without group columns: there is one entry
  pub inserted_alone : (trace : List Event) (v : View) (l : Log) → IsFast (catalog_of trace) v l → v.def.query.grouped ≡ true → v.def.query.keys ≡ []
      → list_any is_removal (changes_after (catalog_of trace) v v.def.query.root) ≡ false
      → inserted_single (column_value v.def.query.tables) v.def.query (content (catalog_of trace) v) (tuples_logged (catalog_of trace) v l N) ≡ stored v.def.query (base_now (catalog_of trace))
  pub moved_alone : (trace : List Event) (v : View) (l : Log) → IsFast (catalog_of trace) v l → v.def.query.grouped ≡ true → v.def.query.keys ≡ []
      → is_insert_only v.def ≡ false → has_extreme v.def.query ≡ false
      → moved_single (column_value v.def.query.tables) v.def.query (content (catalog_of trace) v) (tuples_logged (catalog_of trace) v l O) (tuples_logged (catalog_of trace) v l N) ≡ stored v.def.query (base_now (catalog_of trace))
  -- where neither of the two serves, MIN or MAX met a delete or an update, and a refresh reads all rows
  pub covered : (trace : List Event) (v : View) (l : Log) → IsFast (catalog_of trace) v l → v.def.query.grouped ≡ true → extreme_met_removal (catalog_of trace) v ≡ false
      → list_any is_removal (changes_after (catalog_of trace) v v.def.query.root) ≡ true → (is_insert_only v.def ≡ false) × (has_extreme v.def.query ≡ false)
  -- a join view, by the place at which it selects the root's ROWID
  pub joined : (trace : List Event) (v : View) (l : Log) (place : ℕ) → IsFast (catalog_of trace) v l → v.def.query.grouped ≡ false
      → slice_get v.def.query.items place ≡ Some (item.Col (record { table = v.def.query.root; part = RowId }))
      → sorted_by entry_cmp (entries_joined (catalog_of trace) v l place) ≡ stored v.def.query (base_now (catalog_of trace))
  -- the root's log is there
  pub logged : (trace : List Event) (v : View) → IsPlanned (catalog_of trace) v → restriction (catalog_of trace) v ≡ None → (l : Log) × (log_of (catalog_of trace) v.def.query.root ≡ Some l)
  -- such a place is there
  pub placed : (trace : List Event) (v : View) → IsPlanned (catalog_of trace) v → restriction (catalog_of trace) v ≡ None → v.def.query.grouped ≡ false
      → (place : ℕ) × (slice_get v.def.query.items place ≡ Some (item.Col (record { table = v.def.query.root; part = RowId })))
  -- READ is nothing where nothing changed; where the root alone changed, and MIN and MAX met no removal, all rows of the other tables and
  -- of a join view those of the root's changed rowids too; else all rows, and the view may be computed anew
  pub read_still : (c : Catalog) (v : View) → changed_tables c v ≡ [] → fast_reads c v ≡ 0
  pub read_root : (c : Catalog) (v : View) → is_empty (changed_tables c v) ≡ false → other_changed c v ≡ false → extreme_met_removal c v ≡ false → fast_reads c v ≡ root_reads c v
  pub read_all : (c : Catalog) (v : View) → is_empty (changed_tables c v) ≡ false → (other_changed c v || extreme_met_removal c v) ≡ true → fast_reads c v ≡ all_rows (base_now c) v.def.query
  -- the rows of a join view's changed rowids are as many as READ counts
  pub read_joined : (trace : List Event) (v : View) (l : Log) → IsFast (catalog_of trace) v l
      → length (filter (λ r. is_logged (catalog_of trace) v l (Num (pos r.rowid))) (rows_at (base_now (catalog_of trace)) v.def.query.root))
      ≡ live_changed (base_now (catalog_of trace)) v.def.query.root (changes_after (catalog_of trace) v v.def.query.root)
