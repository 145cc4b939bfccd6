-- The catalog: the base state with all its past, and the logs, views and dimensions over it.
-- It has no view rows, no log rows and no marks of freshness: all of these are computed from the past of the base state.
use Rattle.std.specs.Prelude.{Bool, List, Option, [], filter, find, is_some, map, nat_le, ℕ, ◌++◌, ◌==◌, ◌∷◌}
use Rattle.wh_base.specs.Lists.{option_case, option_nat_is, same_text}
use Rattle.wh_base.specs.Tables.{Base, defs_of}
use Rattle.wh_base.specs.declared.logs.LogFacts.{LogFacts}
use Rattle.wh_base.specs.declared.tables.Change.{Change}
use Rattle.wh_base.specs.declared.tables.TableDef.{TableDef}
use Rattle.wh_base.specs.declared.tables.Touch.{Touch}
use Rattle.wh_base.specs.declared.views.ViewDef.{ViewDef}
use Rattle.def_dimensions.specs.Dimensions.{Dimension}

-- A change of a row of the table with this number, with the SCN of the commit that made it.
pub record Noted : Type 0 where
  pub scn : ℕ
  pub table : ℕ
  pub change : Change

-- A partition that a commit touched by a change of its rows, or that an ADD, DROP, TRUNCATE, SPLIT or MERGE touched (then
-- `by_maintenance` holds). The touch has the SCN, the partition's number and its interval at that moment.
pub record Touched : Type 0 where
  pub table : ℕ
  pub touch : Touch
  pub by_maintenance : Bool

-- A rowid that a SPLIT or MERGE gave to a row of the table with this number, with the SCN of the statement.
pub record Renumbered : Type 0 where
  pub scn : ℕ
  pub table : ℕ
  pub rowid : ℕ

-- A materialized view: its definition; its point, which is the SCN of its last refresh, and none where it isn't built;
-- whether it is registered, so that PURGE LOG waits for it; and whether its refresh at commit is suspended.
-- A view over a view has the point that the view beneath had when its rows were made of it, and is never registered.
pub record View : Type 0 where
  pub def : ViewDef
  pub point : Option ℕ
  pub registered : Bool
  pub suspended : Bool

-- The log of a table. Of `facts` the field `from` is the purge point: the log holds the rows with an SCN above it.
pub record Log : Type 0 where
  pub table : ℕ
  pub born : ℕ
  pub facts : LogFacts

-- The state of the whole database at one moment.
pub record Catalog : Type 0 where
  -- how many accepted commits and statements so far raised the SCN
  pub scn : ℕ
  -- the least SCN that AS OF may ask for
  pub oldest : ℕ
  -- each base state with the SCN at which it began, the latest first; the last is the empty one at SCN 0
  pub past : List (ℕ × Base)
  -- all changes by commits so far, in order
  pub changes : List Noted
  -- all touches of partitions so far, in order
  pub touches : List Touched
  -- all rowids that SPLIT and MERGE gave so far, in order
  pub renumbered : List Renumbered
  -- the views that are there, in order of creation
  pub views : List View
  -- how many views were ever made
  pub views_made : ℕ
  -- the logs that are there, one for a table at most
  pub logs : List Log
  -- the dimensions that are there, in order of creation
  pub dimensions : List Dimension

-- The catalog before the first command.
abbrev pub empty_catalog : Catalog
empty_catalog = record { scn = 0; oldest = 0; past = (0, []) ∷ []; changes = []; touches = []; renumbered = []; views = []; views_made = 0; logs = []; dimensions = [] }

-- The base state at an SCN: the latest that began at or before it.
abbrev pub base_at : Catalog → ℕ → Base
base_at c n = option_case (find (λ p. nat_le p.0 n) c.past) [] (λ p. p.1)

-- The base state as it is now.
abbrev pub base_now : Catalog → Base
base_now c = base_at c c.scn

-- The definitions of all tables, in order of creation.
abbrev pub defs_now : Catalog → List TableDef
defs_now c = defs_of (base_now c)

-- Tables, views and dimensions share one space of names: all names in use.
abbrev pub names_taken : Catalog → List (List ℕ)
names_taken c = map (λ d. d.name) (defs_now c) ++ (map (λ v. v.def.name) c.views ++ map (λ d. d.name) c.dimensions)

-- The view with this name, where it is there.
abbrev pub view_named : Catalog → List ℕ → Option View
view_named c name = find (λ v. same_text v.def.name name) c.views

-- A view's number was never used before it and is never used after it, so it tells whether this is still the same view.
abbrev pub view_numbered : Catalog → ℕ → Option View
view_numbered c n = find (λ v. v.def.view == n) c.views

-- The view is over another view.
abbrev pub is_nested : View → Bool
is_nested v = is_some v.def.beneath

-- The views over the view with this number, in order of creation.
abbrev pub views_over : Catalog → ℕ → List View
views_over c n = filter (λ v. option_nat_is v.def.beneath n) c.views

-- The log of the table with this number, where it has one.
abbrev pub log_of : Catalog → ℕ → Option Log
log_of c table = find (λ l. l.table == table) c.logs

-- The dimension with this name, where it is there.
abbrev pub dimension_named : Catalog → List ℕ → Option Dimension
dimension_named c name = find (λ d. same_text d.name name) c.dimensions
