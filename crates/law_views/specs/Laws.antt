-- What is so of the views and the tables of every trace, and why a view may answer a query under ENFORCED.
use Rattle.std.specs.List.{All, list_all, list_any}
use Rattle.std.specs.Option.{ForSome}
use Rattle.std.specs.Prelude.{[], ◌≡◌, ◌≤◌, ◌++◌, Bool, List, None, Ok, Some, false, length, map, nat_le, true, ℕ}
use Rattle.wh_base.specs.declared.tokens.Token.{Token}
use Rattle.wh_base.specs.Tables.{def_at}
use Rattle.wh_base.specs.declared.queries.RawQuery.{RawQuery}
use Rattle.wh_base.specs.declared.queries.StarQuery.{StarQuery}
use Rattle.wh_base.specs.declared.statements.Command.{Command}
use Rattle.wh_base.specs.declared.statements.Command.TheVariants as commands
use Rattle.wh_base.specs.declared.statements.Event.{Event}
use Rattle.wh_base.specs.declared.statements.Level.TheVariants.{Enforced}
use Rattle.wh_base.specs.declared.statements.Statement.{Statement}
use Rattle.wh_base.specs.declared.statements.Statement.TheVariants as about
use Rattle.wh_base.specs.declared.tables.ColumnDef.{ColumnDef}
use Rattle.wh_base.specs.declared.tables.Kind.{Kind}
use Rattle.wh_base.specs.declared.tables.Kind.TheVariants.{Date, Number, Text}
use Rattle.wh_base.specs.declared.tables.TableDef.{TableDef}
use Rattle.wh_base.specs.declared.views.Plan.TheVariants as plan
use Rattle.wh_base.specs.declared.views.ViewPlan.{ViewPlan}
use Rattle.def_choice.specs.Choice.{base_then, choice, class_is_built}
use Rattle.def_effect.specs.Define.{max_objects}
use Rattle.def_grammar.specs.Query.{select}
use Rattle.def_grammar.specs.Reading.{whole}
use Rattle.def_history.specs.Catalog.{Catalog, View, base_at, base_now, defs_now, view_numbered}
use Rattle.def_history.specs.Staleness.{content}
use Rattle.def_journal.specs.Journal.{state_of}
use Rattle.def_journal.specs.State.{session_of}
use Rattle.def_meaning.specs.Meaning.{in_order, meaning}
use Rattle.def_resolve.specs.Resolve.{resolve}
use Rattle.law_trace.specs.Reached.{catalog_of, still, stills}
use Rattle.law_views.specs.Read.{AreRead}

-- ---- tables

-- The column holds numbers of 15 digits at most, texts of 64 bytes at most, or days.
abbrev pub is_sized : ColumnDef → Bool
is_sized c = kind_is_sized c.kind
  where
    kind_is_sized : Kind → Bool
    kind_is_sized (Number p) = nat_le p 15
    kind_is_sized (Text n) = nat_le n 64
    kind_is_sized Date = true

pub record TableSizes : Type 0 where
  -- there are 64 tables at most
  pub few : (trace : List Event) → length (base_now (catalog_of trace)) ≤ max_objects
  -- each column of each table has its size
  pub sized : (trace : List Event) → All (λ d. list_all is_sized d.columns ≡ true) (defs_now (catalog_of trace))

-- ---- views

-- A view over tables is what its tokens read as, resolved over the tables that were there when it was made; and what it stores is of a time
-- when these were there.
pub record IsOfText (c : Catalog) (v : View) : Type 0 where
  pub query : RawQuery
  pub tables : List TableDef
  pub later : List TableDef
  -- the tables of now are those of then, but for their row movement, and later ones
  pub since : stills c ≡ map still tables ++ later
  pub reads : whole select v.def.tokens ≡ Some query
  pub resolved : resolve tables query ≡ Ok v.def.query
  -- the definitions that it keeps are those of its tables
  pub defined : v.def.tables ≡ map (def_at tables) v.def.query.tables
  -- its tables were there at its point
  pub there : ForSome v.point (λ p. length tables ≤ length (base_at c p))

-- The view's tokens resolve to its query over the tables of now.
pub record IsOfTextNow (c : Catalog) (v : View) : Type 0 where
  pub query : RawQuery
  pub reads : whole select v.def.tokens ≡ Some query
  pub resolved : resolve (defs_now c) query ≡ Ok v.def.query

-- Where the tokens of each command read as what the command asks, each view over tables is of its text.
pub record ViewTexts : Type 0 where
  pub views : (trace : List Event) → AreRead trace → All (λ v. v.def.beneath ≡ None → IsOfText (catalog_of trace) v) (catalog_of trace).views
  pub now : (trace : List Event) → AreRead trace → All (λ v. v.def.beneath ≡ None → IsOfTextNow (catalog_of trace) v) (catalog_of trace).views

-- ---- answers

-- The view of a plan is there, what it stores in the query's order is what the query means at the SCN that it asks about, and no table is
-- joined back.
pub record Serves (c : Catalog) (q : StarQuery) (p : ViewPlan) : Type 0 where
  pub view : View
  pub found : view_numbered c p.view ≡ Some view
  pub rows : meaning q (base_then c q) ≡ in_order q.order (map (λ e. e.row) (content c view))
  pub alone : p.back ≡ []

-- Where a view is chosen under ENFORCED, of the classes that are built, for a query that its tokens read as, the view serves the query.
pub record Answers : Type 0 where
  pub chosen : (trace : List Event) (text : List Token) (raw : RawQuery) (q : StarQuery) (enabled : Bool) (p : ViewPlan) → AreRead trace
      → whole select text ≡ Some raw → resolve (defs_now (catalog_of trace)) raw ≡ Ok q
      → choice class_is_built (catalog_of trace) q text Enforced enabled ≡ plan.View p → Serves (catalog_of trace) q p

-- ---- sessions

-- The event is of ALTER SESSION, of SET TRANSACTION or of COMMIT by itself.
abbrev pub is_setting : Event → Bool
is_setting e = command_sets e.command
  where
    statement_sets : Statement → Bool
    statement_sets (about.Session setting) = true
    statement_sets statement = false

    command_sets : Command → Bool
    command_sets (commands.Block b) = false
    command_sets (commands.Other statement) = statement_sets statement
    command_sets (commands.Submit statement) = false

-- Without such events each session has the settings that it began with, and no image of its own.
pub record SessionsArePlain : Type 0 where
  pub level : (trace : List Event) (n : ℕ) → list_any is_setting trace ≡ false → (session_of (state_of trace) n).level ≡ Enforced
  pub rewrite : (trace : List Event) (n : ℕ) → list_any is_setting trace ≡ false → (session_of (state_of trace) n).rewrite ≡ true
  pub reading : (trace : List Event) (n : ℕ) → list_any is_setting trace ≡ false → (session_of (state_of trace) n).reading ≡ None
