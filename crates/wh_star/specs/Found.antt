-- The tuples of a star query as look-ups of keys find them: for each row of the root, table by table in tree order, the row
-- that the join to that table leads to from the rows found so far.
use Rattle.std.specs.List.{All, filter, filter_map, find}
use Rattle.std.specs.Prelude.{List, None, Option, Some, [], length, ℕ, ◌++◌, ◌∷◌, ◌≤◌}
use Rattle.def_meaning.specs.Joined.{column_value, conditions_true, part_value}
use Rattle.def_resolve.specs.Star.{IsTreeFrom}
use Rattle.wh_base.specs.Lists.{option_case}
use Rattle.wh_base.specs.Values.{equal_not_null}
use Rattle.wh_base.specs.declared.columns.ColPart.{ColPart}
use Rattle.wh_base.specs.declared.queries.Edge.{Edge}
use Rattle.wh_base.specs.declared.queries.StarQuery.{StarQuery}
use Rattle.wh_base.specs.declared.tables.RowAt.{RowAt}
use Rattle.wh_base.specs.declared.tables.TableDef.{TableDef}
use Rattle.wh_base.specs.declared.values.Value.{Value}

-- ---- what a query and its rows must be like

-- the joins of the query form a tree from its root, over some definitions of the tables; so is each star form
abbrev pub IsJoinTree : StarQuery → Type 0
IsJoinTree q = (defs : List TableDef) × IsTreeFrom defs q.root q.tables q.edges

-- at most one of these rows has a value here, for each value that isn't NULL
abbrev pub AreKeys : ColPart → List RowAt → Type 0
AreKeys part rows = (v : Value) → length (filter (λ r. equal_not_null v (part_value r part)) rows) ≤ 1

-- the far column of each of these joins is a key of its table's rows
abbrev pub HaveKeys : List Edge → (ℕ → List RowAt) → Type 0
HaveKeys edges rows = All (λ e. AreKeys e.to.part (rows e.to.table)) edges

-- ---- look-ups

-- the first of these rows with this value here; none where the value is NULL, and none where no row has it
abbrev pub row_with : ColPart → List RowAt → Value → Option RowAt
row_with part rows v = find (λ r. equal_not_null v (part_value r part)) rows

-- the rows of the first of these tables, as many as there are, and then the row of each further table that its join leads to;
-- none where a join leads to none
abbrev pub completed : (ℕ → List RowAt) → List ℕ → List RowAt → List Edge → Option (List RowAt)
completed rows tables tuple [] = Some tuple
completed rows tables tuple (e ∷ es) =
    option_case (row_with e.to.part (rows e.to.table) (column_value tables tuple e.from)) None
    (λ r. completed rows tables (tuple ++ r ∷ []) es)

-- the tuples that look-ups find, those in which every condition is true, row by row of the root
abbrev pub found_over : StarQuery → (ℕ → List RowAt) → List (List RowAt)
found_over q rows =
    filter (λ tuple. conditions_true (column_value q.tables tuple) q.conditions)
    (filter_map (λ r. completed rows q.tables (r ∷ []) q.edges) (rows q.root))
