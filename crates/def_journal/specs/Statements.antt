-- The catalog statements: the catalog that each leaves, or its first refusal.
use Rattle.std.specs.Prelude.{Bool, Err, List, None, Ok, Option, Result, Some, [], cond, false, filter, filter_map, int_lt, length, map, max, nat_abs, nat_le, not, option_map, pos, suc, true, ℕ, ℤ, ◌++◌, ◌-◌, ◌==◌, ◌∷◌}
use Rattle.wh_base.specs.Lists.{change_where, first_some, has_text, option_case, same_text, unless, unless_then, where_true, ◌>>=◌}
use Rattle.wh_base.specs.Tables.{column_number, def_at, with_table}
use Rattle.wh_base.specs.declared.queries.StarQuery.{StarQuery}
use Rattle.wh_base.specs.declared.replies.Counted.TheVariants.{Dimensions, Views}
use Rattle.wh_base.specs.declared.replies.Refusal.{Refusal}
use Rattle.wh_base.specs.declared.replies.Refusal.TheVariants.{FastRefused, FutureScn, LogExists, NameTaken, TooManyObjects}
use Rattle.wh_base.specs.declared.replies.Reply.TheVariants.{Purge}
use Rattle.wh_base.specs.declared.statements.Altered.{Altered}
use Rattle.wh_base.specs.declared.statements.NewDimension.{NewDimension}
use Rattle.wh_base.specs.declared.statements.NewLog.{NewLog}
use Rattle.wh_base.specs.declared.statements.NewTable.{NewTable}
use Rattle.wh_base.specs.declared.statements.NewView.{NewView}
use Rattle.wh_base.specs.declared.tables.TableDef.{TableDef}
use Rattle.wh_base.specs.declared.views.ViewDef.{ViewDef}
use Rattle.def_dimensions.specs.Dimensions.{dimension_refusal, new_dimension}
use Rattle.def_effect.specs.Block.{repeated_column, the_table, unknown_column}
use Rattle.def_effect.specs.Define.{define_table, max_objects}
use Rattle.def_effect.specs.Partitions.{Altering, alter_table}
use Rattle.def_history.specs.Catalog.{Catalog, Log, Renumbered, View, base_now, defs_now, log_of, names_taken}
use Rattle.def_history.specs.History.{kept_versions, versions_kept_above}
use Rattle.def_history.specs.Logs.{log_rows, purged_log}
use Rattle.def_history.specs.Staleness.{form_of_view}
use Rattle.def_journal.specs.Committing.{part_touch}
use Rattle.def_journal.specs.Explaining.{the_dimension, the_log, the_view}
use Rattle.def_journal.specs.Nesting.{drop_refusal, is_fast, nested_query, unbuilt_beneath, view_beneath}
use Rattle.def_journal.specs.Refreshing.{change_view, complete_reads}
use Rattle.def_journal.specs.State.{State, Step, next_scn, refused, replied, with_base, with_catalog}
use Rattle.def_resolve.specs.Resolve.{resolve}
use Rattle.def_restrictions.specs.Restrictions.{restricted}

-- The catalog that is left with a number, or the refusal. The number is READ, and for a purge what it removed.
abbrev pub Outcome : Type 0
Outcome = Result (Catalog × ℕ) Refusal

-- The catalog that is left, with nothing read.
abbrev pub unread : Catalog → Outcome
unread c = Ok (c, 0)

-- ---- tables

-- CREATE TABLE: the base state with one more table, at the next SCN.
abbrev pub create_table : Catalog → NewTable → Outcome
create_table c s = do
  base ← define_table (names_taken c) (base_now c) s
  unread (with_base c base)

-- The rowid as it is noted.
abbrev pub renumbered : ℕ → ℕ → ℕ → Renumbered
renumbered scn n rowid = record { scn = scn; table = n; rowid = rowid }

-- The table as the statement left it, at the next SCN, the partitions that it touched, and the rowids that it gave.
abbrev pub altered : Catalog → ℕ → Altering → Catalog
altered c n a =
    let d = with_base c (with_table (base_now c) n a.table) in
    record d { touches = c.touches ++ map (part_touch d.scn n true) a.touched; renumbered = c.renumbered ++ map (renumbered d.scn n) a.renumbered }

-- ALTER TABLE. It reads the rows that get a new rowid.
abbrev pub alter : Catalog → Altered → Outcome
alter c s = do
  a ← alter_table (kept_versions c) (base_now c) s
  Ok (altered c a.0 a.1, length a.1.renumbered)

-- ---- logs

-- The log is born at the SCN of its own statement, which is its first purge point too.
abbrev pub new_log : Catalog → ℕ → TableDef → NewLog → Log
new_log c n d s =
    record {
      table = n;
      born = suc c.scn;
      facts = record { rowid = s.rowid; sequence = s.sequence; new_values = s.new_values; columns = filter_map (column_number d) s.columns; from = suc c.scn };
    }

-- The table has a log, a column isn't there, or a column repeats.
abbrev pub new_log_refusal : Catalog → ℕ → TableDef → NewLog → Option Refusal
new_log_refusal c n d s =
    first_some (option_map (λ _. LogExists d.name) (log_of c n) ∷ unknown_column d s.columns ∷ repeated_column s.columns ∷ [])

-- CREATE MATERIALIZED VIEW LOG. It raises the SCN.
abbrev pub create_log : Catalog → NewLog → Outcome
create_log c s = do
  n ← the_table (base_now c) s.table
  let d = def_at (defs_now c) n in
      unless (new_log_refusal c n d s) (record (next_scn c) { logs = c.logs ++ new_log c n d s ∷ [] }, 0)

-- DROP MATERIALIZED VIEW LOG. It raises the SCN.
abbrev pub drop_log : Catalog → List ℕ → Outcome
drop_log c name = do
  l ← the_log c name
  unread (record (next_scn c) { logs = filter (λ k. not (k.table == l.table)) c.logs })

-- ---- views

-- The definition with a number that no view had, its tables in tree order and the tokens of its query.
abbrev pub view_def : Catalog → NewView → StarQuery → ViewDef
view_def c s q =
    record {
      view = suc c.views_made;
      name = s.name;
      query = q;
      tables = map (def_at (defs_now c)) q.tables;
      tokens = s.asked.tokens;
      method = s.method;
      on_commit = s.on_commit;
      rewrite = s.rewrite;
      beneath = None;
    }

-- With BUILD IMMEDIATE the view's point is the SCN of now and it is registered; with BUILD DEFERRED it has no point.
abbrev pub new_view : Catalog → NewView → StarQuery → View
new_view c s q = record { def = view_def c s q; point = where_true (not s.deferred) c.scn; registered = not s.deferred; suspended = false }

-- REFRESH FAST asks for F3 to F9.
abbrev pub fast_form_refusal : Catalog → View → Option Refusal
fast_form_refusal c v = cond (is_fast v.def.method) (option_map (λ r. FastRefused (restricted (defs_now c) r)) (form_of_view c v)) None

-- The catalog with one more view.
abbrev pub with_view : Catalog → View → Catalog
with_view c v = record c { views = c.views ++ v ∷ []; views_made = suc c.views_made }

-- BUILD IMMEDIATE reads what the base plan of the definition reads, BUILD DEFERRED nothing.
abbrev pub build_reads : Catalog → View → ℕ
build_reads c v = option_case v.point 0 (λ _. complete_reads c v)

-- CREATE MATERIALIZED VIEW over tables: refused by its query, or by REFRESH FAST.
abbrev pub create_over_tables : Catalog → NewView → Outcome
create_over_tables c s = do
  q ← resolve (defs_now c) s.asked.query
  let v = new_view c s q in unless (fast_form_refusal c v) (with_view c v, build_reads c v)

-- The definition over a view: the composed query over the tables of the view beneath, whose number it keeps.
abbrev pub nested_def : Catalog → NewView → View → StarQuery → ViewDef
nested_def c s v q = record (view_def c s q) { tables = v.def.tables; beneath = Some v.def.view }

-- With BUILD IMMEDIATE the view over a view has the point of the view beneath. It is never registered.
abbrev pub nested_view : Catalog → NewView → View → StarQuery → View
nested_view c s v q = record { def = nested_def c s v q; point = cond s.deferred None v.point; registered = false; suspended = false }

-- CREATE MATERIALIZED VIEW over a view: refused by its form, or because the view beneath isn't built. It reads no base rows.
abbrev pub create_over_view : Catalog → NewView → View → Outcome
create_over_view c s v = do
  q ← nested_query s v
  unless (unbuilt_beneath s v) (with_view c (nested_view c s v q), 0)

-- CREATE MATERIALIZED VIEW: refused where the name is taken or where there are too many views, and then by what it is over.
abbrev pub create_view : Catalog → NewView → Outcome
create_view c s =
    unless_then (first_some (where_true (has_text (names_taken c) s.name) (NameTaken s.name) ∷ where_true (nat_le max_objects (length c.views)) (TooManyObjects Views) ∷ []))
    (option_case (view_beneath c s.asked.query) (create_over_tables c s) (create_over_view c s))

-- The catalog with the view of this name changed.
abbrev pub change_named_view : Catalog → List ℕ → (View → View) → Outcome
change_named_view c name f = do
  v ← the_view c name
  unread (change_view v.def.view f c)

-- ENABLE or DISABLE QUERY REWRITE.
abbrev pub switched : Bool → View → View
switched on v = record v { def = record v.def { rewrite = on } }

-- UNREGISTER: PURGE LOG no longer waits for the view.
abbrev pub unregistered : View → View
unregistered v = record v { registered = false }

-- The catalog without this view.
abbrev pub without_view : Catalog → View → Catalog
without_view c v = record c { views = filter (λ w. not (w.def.view == v.def.view)) c.views }

-- DROP MATERIALIZED VIEW: refused while a view stands over it.
abbrev pub drop_view : Catalog → List ℕ → Outcome
drop_view c name = do
  v ← the_view c name
  unless (drop_refusal c v) (without_view c v, 0)

-- ---- dimensions

-- CREATE DIMENSION: refused where the name is taken, where there are too many dimensions, or by what it declares.
abbrev pub create_dimension : Catalog → NewDimension → Outcome
create_dimension c s =
    unless (first_some (
    where_true (has_text (names_taken c) s.name) (NameTaken s.name)
    ∷ where_true (nat_le max_objects (length c.dimensions)) (TooManyObjects Dimensions)
    ∷ dimension_refusal (defs_now c) s
    ∷ []))
    (record c { dimensions = c.dimensions ++ new_dimension (defs_now c) s ∷ [] }, 0)

-- DROP DIMENSION.
abbrev pub drop_dimension : Catalog → List ℕ → Outcome
drop_dimension c name = do
  d ← the_dimension c name
  unread (record c { dimensions = filter (λ e. not (same_text e.name d.name)) c.dimensions })

-- ---- purges

-- PURGE LOG: the rows at or below the new purge point go; their number is counted.
abbrev pub purge_log : Catalog → List ℕ → Outcome
purge_log c name = do
  l ← the_log c name
  let after = purged_log c l in
      Ok (record c { logs = change_where (λ k. k.table == l.table) (λ _. after) c.logs }, length (log_rows c l) - length (log_rows c after))

-- PURGE UNDO TO SCN n: refused above the SCN of now. The oldest SCN becomes the greater of itself and n,
-- and the row versions that ended at or before it go; their number is counted.
abbrev pub purge_undo : Catalog → ℤ → Outcome
purge_undo c n =
    let oldest = max c.oldest (nat_abs n) in
    unless (where_true (int_lt (pos c.scn) n) (FutureScn n c.scn)) (record c { oldest = oldest }, kept_versions c - versions_kept_above c oldest)

-- PURGED with the number removed, or the refusal.
abbrev pub purged_or_refused : State → Outcome → Step
purged_or_refused s (Err code) = refused s 0 code
purged_or_refused s (Ok p) = replied (with_catalog s p.0) (Purge (record { scn = p.0.scn; rows = p.1 }))
