-- Why a view that is partly stale doesn't serve where the tracked table is joined back: a row whose key moved from one stale partition to
-- another passes one condition by the key that the view has, and one by the key that it has now, so the plan gives a row that the query doesn't mean.
use Rattle.std.proofs.Common.{◌≡◌, refl, true, false, [], ◌∷◌, Some, None, ℕ, List}
use Rattle.std.specs.Prelude.{codes, pos}
use Rattle.wh_base.specs.Tables.{Base, Table}
use Rattle.wh_base.specs.declared.columns.ColPart.TheVariants.{Col}
use Rattle.wh_base.specs.declared.columns.ColRef.{ColRef}
use Rattle.wh_base.specs.declared.queries.Condition.TheVariants.{Compare}
use Rattle.wh_base.specs.declared.queries.Item.TheVariants as item
use Rattle.wh_base.specs.declared.queries.StarQuery.{StarQuery}
use Rattle.wh_base.specs.declared.statements.Level.TheVariants.{Enforced}
use Rattle.wh_base.specs.declared.tables.ColumnDef.{ColumnDef}
use Rattle.wh_base.specs.declared.tables.Kind.TheVariants.{Number}
use Rattle.wh_base.specs.declared.tables.Part.{Part}
use Rattle.wh_base.specs.declared.tables.TableDef.{TableDef}
use Rattle.wh_base.specs.declared.values.Interval.{Interval}
use Rattle.wh_base.specs.declared.values.Op.TheVariants.{Ge, Lt}
use Rattle.wh_base.specs.declared.values.Value.{Value}
use Rattle.wh_base.specs.declared.values.Value.TheVariants.{Num}
use Rattle.wh_base.specs.declared.views.Back.{Back}
use Rattle.wh_base.specs.declared.views.Class.TheVariants.{JoinBack}
use Rattle.wh_base.specs.declared.statements.Method.TheVariants.{Force}
use Rattle.wh_base.specs.declared.views.ViewState.TheVariants.{Partly}
use Rattle.def_choice.specs.Concat.{concat_holds}
use Rattle.def_choice.specs.Eligible.{Failing, general_standing}
use Rattle.def_history.specs.Catalog.{Catalog, Touched, View, base_now, defs_now}
use Rattle.def_history.specs.Staleness.{content, stale_intervals, view_state}
use Rattle.def_meaning.specs.Meaning.{in_order, meaning}
use Rattle.def_restrictions.specs.Definition.{tracked_key}
use Rattle.def_rewriting.specs.Reaching.{reach}
use Rattle.def_rewriting.specs.Classes.{class_rows}
use Rattle.wh_base.specs.declared.views.Requirement.TheVariants as requirement

abbrev number : List ℕ → ColumnDef
number name = record { name = name; kind = Number 9; not_null = true }

-- FACT (ID NUMBER(9) KEY, DAY NUMBER(9), AMOUNT NUMBER(9)), partitioned by DAY below 3, below 6 and above; DIM (DAY NUMBER(9) KEY)
abbrev pub fact_def : TableDef
fact_def = record { name = codes "FACT"; columns = number (codes "ID") ∷ number (codes "DAY") ∷ number (codes "AMOUNT") ∷ []; keys = 0 ∷ []; primary = Some 0; foreign = []; part_key = Some 1; movement = false }

abbrev pub dim_def : TableDef
dim_def = record { name = codes "DIM"; columns = number (codes "DAY") ∷ []; keys = 0 ∷ []; primary = Some 0; foreign = []; part_key = None; movement = false }

abbrev part : ℕ → Value → Part
part n below = record { name = codes "P"; number = n; below = Some below }

abbrev fact : ℕ → Value → Table
fact rowid day = record { def = fact_def; rows = record { rowid = rowid; values = Num (pos 1) ∷ day ∷ Num (pos 50) ∷ [] } ∷ []; given = rowid; parts = part 1 (Num (pos 3)) ∷ part 2 (Num (pos 6)) ∷ part 3 (Num (pos 9)) ∷ []; made = 3 }

abbrev dim : Table
dim = record { def = dim_def; rows = record { rowid = 1; values = Num (pos 1) ∷ [] } ∷ record { rowid = 2; values = Num (pos 7) ∷ [] } ∷ []; given = 2; parts = []; made = 0 }

-- the row of ID 1 was of day 7, was deleted, and was inserted again with day 1
abbrev then : Base
then = fact 1 (Num (pos 7)) ∷ dim ∷ []

abbrev pub now : Base
now = fact 2 (Num (pos 1)) ∷ dim ∷ []

abbrev id : ColRef
id = record { table = 0; part = Col 0 }

abbrev day : ColRef
day = record { table = 0; part = Col 1 }

abbrev amount : ColRef
amount = record { table = 0; part = Col 2 }

abbrev dim_day : ColRef
dim_day = record { table = 1; part = Col 0 }

-- SELECT ID, DAY FROM FACT
abbrev pub stored_query : StarQuery
stored_query = record { root = 0; tables = 0 ∷ []; edges = []; conditions = []; grouped = false; keys = []; items = item.Col id ∷ item.Col day ∷ []; having = []; order = []; as_of = None }

-- SELECT ID, AMOUNT FROM FACT JOIN DIM ON FACT.DAY = DIM.DAY WHERE FACT.DAY >= 3 AND DIM.DAY < 6
abbrev pub asked : StarQuery
asked = record {
  root = 0;
  tables = 0 ∷ 1 ∷ [];
  edges = record { from = day; to = dim_day } ∷ [];
  conditions = Compare day Ge (Num (pos 3)) ∷ Compare dim_day Lt (Num (pos 6)) ∷ [];
  grouped = false;
  keys = [];
  items = item.Col id ∷ item.Col amount ∷ [];
  having = [];
  order = [];
  as_of = None;
}

abbrev view : View
view = record { def = record { view = 1; name = codes "V"; query = stored_query; tables = fact_def ∷ []; tokens = []; method = Force; on_commit = false; rewrite = true; beneath = None }; point = Some 1; registered = true; suspended = false }

abbrev touched : ℕ → Interval → Touched
touched n i = record { table = 0; touch = record { interval = i; number = n; scn = 2 }; by_maintenance = false }

abbrev catalog : Catalog
catalog = record {
  scn = 2;
  oldest = 0;
  past = (2, now) ∷ (1, then) ∷ (0, []) ∷ [];
  changes = record { scn = 2; table = 0; change = record { rowid = 1; old = Some (Num (pos 1) ∷ Num (pos 7) ∷ Num (pos 50) ∷ []); new = None } }
      ∷ record { scn = 2; table = 0; change = record { rowid = 2; old = None; new = Some (Num (pos 1) ∷ Num (pos 1) ∷ Num (pos 50) ∷ []) } } ∷ [];
  touches = touched 3 (record { lo = Some (Num (pos 6)); hi = Some (Num (pos 9)) }) ∷ touched 1 (record { lo = None; hi = Some (Num (pos 3)) }) ∷ [];
  renumbered = [];
  views = view ∷ [];
  views_made = 1;
  logs = [];
  dimensions = [];
}

-- FACT is joined back by ID, and then DIM by DAY
abbrev backs : List Back
backs = record { table = 0; by = id; source = id; level = false; columns = 0 ∷ 1 ∷ 2 ∷ [] } ∷ record { table = 1; by = dim_day; source = day; level = false; columns = 0 ∷ [] } ∷ []

is_partly : view_state catalog view ≡ Partly
is_partly = refl

-- only E8 fails, since FACT is tracked
joins_back : reach (defs_now catalog) [] Enforced asked stored_query ≡ record { failed = None; back = backs }
joins_back = refl

fails : general_standing catalog asked Enforced true view ≡ Failing requirement.E8
fails = refl

may_not : concat_holds catalog asked Enforced true view ≡ false
may_not = refl

-- the plan would give a row
given : in_order asked.order (class_rows (defs_now catalog) (base_now catalog) asked stored_query (tracked_key view.def) (stale_intervals catalog view) JoinBack backs (content catalog view)) ≡ (Num (pos 1) ∷ Num (pos 50) ∷ []) ∷ []
given = refl

-- and the query means none
meant : meaning asked (base_now catalog) ≡ []
meant = refl
