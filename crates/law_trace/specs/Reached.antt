-- What is said of the catalogs that a trace goes through.
use Rattle.std.specs.Prelude.{◌≡◌, ◌≤◌, Bool, List, None, Some, false, map, negsuc, pos, true, ℕ, ℤ, ◌++◌, ◌==◌, ◌∷◌, ◌⊎◌, option_and_then, option_map}
use Rattle.wh_base.specs.declared.statements.Command.{Command}
use Rattle.wh_base.specs.Parts.{entry_bearer}
use Rattle.wh_base.specs.declared.statements.Command.TheVariants.{Block, Other, Submit}
use Rattle.wh_base.specs.declared.statements.Event.{Event}
use Rattle.wh_base.specs.declared.statements.PartChange.{PartChange}
use Rattle.wh_base.specs.declared.statements.PartChange.TheVariants.{Merge, Split}
use Rattle.wh_base.specs.declared.statements.PurgeStatement.{PurgeStatement}
use Rattle.wh_base.specs.declared.statements.PurgeStatement.TheVariants.{PurgeLog, PurgeUndo}
use Rattle.wh_base.specs.declared.statements.RefreshView.{RefreshView}
use Rattle.wh_base.specs.declared.statements.SessionStatement.TheVariants.{ReadOnly}
use Rattle.wh_base.specs.declared.statements.Statement.{Statement}
use Rattle.wh_base.specs.declared.statements.TableStatement.{TableStatement}
use Rattle.wh_base.specs.declared.statements.TableStatement.TheVariants.{AlterTable, CreateTable}
use Rattle.wh_base.specs.declared.statements.Statement.TheVariants as about
use Rattle.wh_base.specs.Tables.{Table}
use Rattle.wh_base.specs.declared.views.ViewDef.{ViewDef}
use Rattle.wh_base.specs.declared.tables.TableDef.{TableDef}
use Rattle.def_history.specs.Catalog.{Catalog, View, base_at, defs_now, view_named, view_numbered}
use Rattle.def_history.specs.History.{changes_of, maintained, touches_of}
use Rattle.def_journal.specs.Journal.{state_of}
use Rattle.def_journal.specs.State.{Begun}

-- The catalog that a trace leaves.
abbrev pub catalog_of : List Event → Catalog
catalog_of trace = (state_of trace).catalog

-- The event is one of the session, or of the worker, with this number.
abbrev pub is_of : ℕ → Event → Bool
is_of n e = entry_bearer e.entry == n

-- The number is below zero.
abbrev pub is_below_zero : ℤ → Bool
is_below_zero (pos n) = false
is_below_zero (negsuc n) = true

-- The form gives rows new rowids.
abbrev pub renumbers : PartChange → Bool
renumbers (Split s) = true
renumbers (Merge s) = true
renumbers change = false

-- The command is a block, a SPLIT, a MERGE or a PURGE UNDO: no other changes how many row versions are kept.
abbrev pub changes_versions : Command → Bool
changes_versions (Block b) = true
changes_versions (Submit statement) = false
changes_versions (Other statement) = statement_changes statement
  where
    is_undo : PurgeStatement → Bool
    is_undo (PurgeLog name) = false
    is_undo (PurgeUndo n) = true

    table_changes : TableStatement → Bool
    table_changes (CreateTable t) = false
    table_changes (AlterTable t) = renumbers t.change

    statement_changes : Statement → Bool
    statement_changes (about.Purge p) = is_undo p
    statement_changes (about.Table t) = table_changes t
    statement_changes statement = false

-- The event is a PURGE UNDO that asks for an SCN below zero. No text has one: there the number has no sign.
abbrev pub asks_below_zero : Event → Bool
asks_below_zero e = command_asks e.command
  where
    purge_asks : PurgeStatement → Bool
    purge_asks (PurgeLog name) = false
    purge_asks (PurgeUndo n) = is_below_zero n

    statement_asks : Statement → Bool
    statement_asks (about.Purge p) = purge_asks p
    statement_asks statement = false

    command_asks : Command → Bool
    command_asks (Block b) = false
    command_asks (Other statement) = statement_asks statement
    command_asks (Submit statement) = false

-- One definition is the other but for ENABLE or DISABLE QUERY REWRITE: the same number, name, query, tables, text, method and ON COMMIT.
abbrev pub IsSameView : ViewDef → ViewDef → Type 0
IsSameView d e = e ≡ record d { rewrite = e.rewrite }

-- The definition without its row movement, which ALTER TABLE may change.
abbrev pub still : TableDef → TableDef
still d = record d { movement = false }

-- The table without it.
abbrev pub still_table : Table → Table
still_table t = record t { def = still t.def }

-- The definitions of all tables without it.
abbrev pub stills : Catalog → List TableDef
stills c = map still (defs_now c)

-- All that a later catalog d keeps of an earlier one: the past up to the SCN of then, the views by their numbers, and the tables.
pub record Precedes (c d : Catalog) : Type 0 where
  pub scn : c.scn ≤ d.scn
  pub base : (p : ℕ) → p ≤ c.scn → base_at d p ≡ base_at c p
  pub changes : (table from p : ℕ) → p ≤ c.scn → changes_of d table from p ≡ changes_of c table from p
  pub touches : (table from p : ℕ) → p ≤ c.scn → touches_of d table from p ≡ touches_of c table from p
  pub maintenance : (table from p : ℕ) → p ≤ c.scn → maintained d table from p ≡ maintained c table from p
  pub made : c.views_made ≤ d.views_made
  pub same : (n : ℕ) (v w : View) → view_numbered c n ≡ Some v → view_numbered d n ≡ Some w → IsSameView v.def w.def
  pub gone : (n : ℕ) → n ≤ c.views_made → view_numbered c n ≡ None → view_numbered d n ≡ None
  pub tables : (later : List TableDef) × (stills d ≡ stills c ++ later)

-- What the begin of a refresh of the view with this name keeps of a catalog.
abbrev pub begun_over : Catalog → List ℕ → Begun
begun_over c name =
    record {
      view = option_map (λ w. w.def.view) (view_named c name);
      point = option_and_then (λ w. w.point) (view_named c name);
      image = c;
    }

-- The event begins a refresh: it is part 1 of a REFRESH by a session, or part 2 of one that was submitted, by a worker.
abbrev pub BeginsRefresh : Event → RefreshView → Type 0
BeginsRefresh e r = ((e.command ≡ Other (about.Refresh r)) × (e.entry.part ≡ 1)) ⊎ ((e.command ≡ Submit (about.Refresh r)) × (e.entry.part ≡ 2))

-- A front of the trace ends before the begin of a refresh by this session or worker, and this is what that begin kept of its catalog.
pub record HasBegun (trace : List Event) (n : ℕ) (b : Begun) : Type 0 where
  pub front : List Event
  pub event : Event
  pub rest : List Event
  pub asked : RefreshView
  pub is : trace ≡ front ++ event ∷ rest
  pub session : entry_bearer event.entry ≡ n
  pub begins : BeginsRefresh event asked
  pub kept : b ≡ begun_over (catalog_of front) asked.name

-- A front of the trace ends before a SET TRANSACTION READ ONLY of this session, and this is its catalog.
pub record HasOpened (trace : List Event) (n : ℕ) (image : Catalog) : Type 0 where
  pub front : List Event
  pub event : Event
  pub rest : List Event
  pub is : trace ≡ front ++ event ∷ rest
  pub session : entry_bearer event.entry ≡ n
  pub command : event.command ≡ Other (about.Session ReadOnly)
  pub kept : image ≡ catalog_of front
