-- What is so of the views of a trace, and what a refresh by logs may rest on where no restriction holds.
use Rattle.std.specs.List.{All, list_all, list_any}
use Rattle.def_resolve.specs.Resolve.{item_is_grouped, resolve}
use Rattle.std.specs.Option.{ForSome}
use Rattle.std.specs.Prelude.{Ok, ◌++◌, List, None, Some, [], false, length, map, true, ℕ, ◌<◌, ◌≡◌, ◌≤◌, ◌∷◌}
use Rattle.wh_base.specs.Columns.{has_column}
use Rattle.wh_base.specs.Lists.{has_number}
use Rattle.wh_base.specs.Tables.{def_at, is_removal}
use Rattle.wh_base.specs.declared.columns.Agg.TheVariants.{Sum}
use Rattle.wh_base.specs.declared.columns.Expr.TheVariants.{Product}
use Rattle.def_resolve.specs.Kinds.{is_summed}
use Rattle.wh_base.specs.declared.columns.ColPart.{ColPart}
use Rattle.wh_base.specs.declared.columns.ColPart.TheVariants.{RowId}
use Rattle.wh_base.specs.declared.columns.ColRef.{ColRef}
use Rattle.wh_base.specs.declared.queries.RawQuery.{RawQuery}
use Rattle.wh_base.specs.declared.statements.Event.{Event}
use Rattle.wh_base.specs.declared.tables.TableDef.{TableDef}
use Rattle.law_trace.specs.Reached.{catalog_of, still, stills}
use Rattle.def_history.specs.Catalog.{Catalog, Log, View, base_at, defs_now, log_of}
use Rattle.def_history.specs.History.{maintained}
use Rattle.def_history.specs.Staleness.{changes_after, known, point_of, restriction}
use Rattle.def_restrictions.specs.Definition.{selects_agg, has_average_alone, is_insert_only, selects_column, used_columns, used_place}
use Rattle.def_restrictions.specs.Restrictions.{unlogged}

-- each number once
abbrev pub Distinct : List ℕ → Type 0
Distinct [] = Unit {0}
Distinct (n ∷ ns) = (has_number ns n ≡ false) × Distinct ns

-- the column that a part uses is one of the table
abbrev pub IsPlace : TableDef → ColPart → Type 0
IsPlace d part = ForSome (used_place d part) (λ n. n < length d.columns)

-- The definitions that the view keeps of its tables are those of now: ALTER TABLE may switch their row movement, and the view doesn't tell.
abbrev pub IsCurrent : Catalog → View → Type 0
IsCurrent c v = v.def.tables ≡ map (def_at (defs_now c)) v.def.query.tables

-- The view with the definitions of now in place of those that it keeps. Its query, its point and what it stores are the same.
abbrev pub current : Catalog → View → View
current c v = record v { def = record v.def { tables = map (def_at (defs_now c)) v.def.query.tables } }

-- A view's definition is a star over tables that are there, each once, and were at its point, and uses columns that they have.
pub record IsPlanned (c : Catalog) (v : View) : Type 0 where
  pub others : List ℕ
  pub tables : v.def.query.tables ≡ v.def.query.root ∷ others
  pub once : Distinct v.def.query.tables
  pub defined : v.def.tables ≡ map (def_at (defs_now c)) v.def.query.tables
  pub there : ForSome v.point (λ p. (n : ℕ) → has_number v.def.query.tables n ≡ true → n < length (base_at c p))
  pub grouped : v.def.query.grouped ≡ true → list_all (item_is_grouped v.def.query.keys) v.def.query.items ≡ true
  -- the columns of a product that is summed are numbers
  pub numbers : (a b : ColRef) → selects_agg v.def.query (Sum (Product a b)) ≡ true → (is_summed (defs_now c) a ≡ true) × (is_summed (defs_now c) b ≡ true)
  pub columns : (col : ColRef) → has_column (used_columns v.def.query) col ≡ true → IsPlace (def_at (defs_now c) col.table) col.part

-- What holds of a table of the view where no restriction of a refresh by logs does.
pub record IsGranted (c : Catalog) (v : View) (n : ℕ) : Type 0 where
  pub log : Log
  pub found : log_of c n ≡ Some log
  pub rowid : log.facts.rowid ≡ true
  pub logged : v.def.query.grouped ≡ true → unlogged v.def (known c v (n, def_at (defs_now c) n)) ≡ None
  pub both : v.def.query.grouped ≡ true → log.facts.new_values ≡ true
  pub selected : v.def.query.grouped ≡ false → selects_column v.def.query (record { table = n; part = RowId }) ≡ true
  pub from : log.facts.from ≤ point_of v
  pub kept : maintained c n (point_of v) c.scn ≡ false
  pub inserts : v.def.query.grouped ≡ true → is_insert_only v.def ≡ true → list_any is_removal (changes_after c v n) ≡ false

-- And of the view.
pub record AreGranted (c : Catalog) (v : View) : Type 0 where
  pub point : ℕ
  pub built : v.point ≡ Some point
  pub tables : (n : ℕ) → has_number v.def.query.tables n ≡ true → IsGranted c v n
  pub averages : v.def.query.grouped ≡ true → has_average_alone v.def.query ≡ false
  pub having : v.def.query.having ≡ []

pub record PlanLaws : Type 0 where
  -- a view whose query is what some text resolves to over the tables that were there when it was made, and that has their definitions as they are:
  -- since it was made none of its tables' row movement was switched, or it was switched back
  pub planned : (trace : List Event) (v : View) (raw : RawQuery) (then later : List TableDef) → stills (catalog_of trace) ≡ map still then ++ later
      → resolve then raw ≡ Ok v.def.query → IsCurrent (catalog_of trace) v
      → ForSome v.point (λ p. length then ≤ length (base_at (catalog_of trace) p)) → IsPlanned (catalog_of trace) v
  -- so is each view of a trace that is over tables, with their definitions of now
  pub views : (trace : List Event) → All (λ v. v.def.beneath ≡ None → IsPlanned (catalog_of trace) (current (catalog_of trace) v)) (catalog_of trace).views
  -- its restrictions are those by these definitions
  pub restricted : (trace : List Event) → All (λ v. v.def.beneath ≡ None → restriction (catalog_of trace) (current (catalog_of trace) v) ≡ restriction (catalog_of trace) v) (catalog_of trace).views
  -- and so as it is, where it has these
  pub kept : (trace : List Event) (v : View) → IsCurrent (catalog_of trace) v → IsPlanned (catalog_of trace) (current (catalog_of trace) v) → IsPlanned (catalog_of trace) v
