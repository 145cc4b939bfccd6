-- Whether a query and a view's definition fit together: the same root and joins, further tables of the view that lose no row, and conditions that the query
-- implies.
-- Everywhere in this crate `q` is the query and `v` the definition of the view.
use Rattle.std.specs.List.{list_all, list_any}
use Rattle.std.specs.Prelude.{Bool, List, None, Option, Some, [], false, filter, find, not, true, ℕ, ◌&&◌, ◌++◌, ◌==◌, ◌||◌, ◌∷◌}
use Rattle.wh_base.specs.Columns.{same_column, same_part}
use Rattle.wh_base.specs.Lists.{first_some, has_number, option_case, where_true}
use Rattle.wh_base.specs.Tables.{def_at, never_null}
use Rattle.wh_base.specs.declared.columns.ColPart.TheVariants.{Col}
use Rattle.wh_base.specs.declared.columns.ColRef.{ColRef}
use Rattle.wh_base.specs.declared.queries.Condition.{Condition}
use Rattle.wh_base.specs.declared.queries.Edge.{Edge}
use Rattle.wh_base.specs.declared.queries.StarQuery.{StarQuery}
use Rattle.wh_base.specs.declared.statements.Level.{Level}
use Rattle.wh_base.specs.declared.statements.Level.TheVariants.{Enforced, StaleTolerated, Trusted}
use Rattle.wh_base.specs.declared.tables.ForeignDef.{ForeignDef}
use Rattle.wh_base.specs.declared.tables.TableDef.{TableDef}
use Rattle.def_meaning.specs.Ranges.{are_equal, equal_columns}
use Rattle.def_restrictions.specs.Definition.{condition_column}
use Rattle.def_rewriting.specs.Implied.{implies, is_not_null_test, same_test}
use Rattle.wh_base.specs.declared.views.Requirement.{Requirement}
use Rattle.wh_base.specs.declared.views.Requirement.TheVariants as requirement

-- RELY foreign keys and dimensions may be relied on: under TRUSTED and STALE_TOLERATED.
abbrev pub may_rely : Level → Bool
may_rely Enforced = false
may_rely Trusted = true
may_rely StaleTolerated = true

-- Two columns are equal where the joins of the query and of the view together link them.
abbrev pub linked : StarQuery → StarQuery → ColRef → ColRef → Bool
linked q v a b = are_equal (q.edges ++ v.edges) a b

-- The table stands in the query's FROM.
abbrev pub is_table_of : StarQuery → ℕ → Bool
is_table_of q n = has_number q.tables n

-- ---- E1

-- Query and view have the same root.
abbrev pub same_root : StarQuery → StarQuery → Bool
same_root q v = q.root == v.root

-- ---- E2

-- The join by which a query reaches a table; the root has none.
abbrev pub join_into : StarQuery → ℕ → Option Edge
join_into q n = find (λ e. e.to.table == n) q.edges

-- Both are reached by a join with the same two columns, or both by none.
abbrev pub same_edge : Option Edge → Option Edge → Bool
same_edge None None = true
same_edge None (Some e) = false
same_edge (Some d) None = false
same_edge (Some d) (Some e) = same_column d.from e.from && same_column d.to e.to

-- Each table that query and view have in common is reached by the same join in both.
abbrev pub same_joins : StarQuery → StarQuery → Bool
same_joins q v = list_all (λ n. not (is_table_of v n) || same_edge (join_into q n) (join_into v n)) q.tables

-- ---- E4

-- The foreign key is on the near column of the join and refers to its far column; it is enabled, or RELY may be relied on.
abbrev pub foreign_leads : Level → ColRef → ColRef → ForeignDef → Bool
foreign_leads level from to f =
    same_part from.part (Col f.column) && ((f.table == to.table) && (same_part to.part (Col f.to) && (not f.rely || may_rely level)))

-- The join keeps each row, and keeps it once: its near column is NOT NULL and has such a foreign key.
abbrev pub loses_nothing : List TableDef → Level → Edge → Bool
loses_nothing defs level e = never_null defs e.from && list_any (foreign_leads level e.from e.to) (def_at defs e.from.table).foreign

-- Each table of the view that the query doesn't have is reached by such a join.
abbrev pub extra_tables_hold : List TableDef → Level → StarQuery → StarQuery → Bool
extra_tables_hold defs level q v =
    list_all (λ n. is_table_of q n || option_case (join_into v n) false (loses_nothing defs level)) v.tables

-- ---- E5

-- The view's condition is implied by one condition of the query on an equal column; IS NOT NULL also by an equal column that can't be NULL.
abbrev pub implied_by : List TableDef → StarQuery → StarQuery → Condition → Bool
implied_by defs q v c =
    let column = condition_column c in
    list_any (λ d. linked q v (condition_column d) column && implies d c) q.conditions || (is_not_null_test c && list_any (never_null defs) (equal_columns (q.edges ++ v.edges) column))

-- Each condition of the view is implied so.
abbrev pub conditions_implied : List TableDef → StarQuery → StarQuery → Bool
conditions_implied defs q v = list_all (implied_by defs q v) v.conditions

-- The conditions of the query that a plan over the view still has to filter by: those that the view doesn't have word for word on an equal column.
abbrev pub own_conditions : StarQuery → StarQuery → List Condition
own_conditions q v =
    filter (λ c. not (list_any (λ d. linked q v (condition_column d) (condition_column c) && same_test d c) v.conditions)) q.conditions

-- ---- the first that fails

-- The requirement, where it isn't met.
abbrev pub failing : Requirement → Bool → Option Requirement
failing e holds = where_true (not holds) e

-- The first of E1, E2, E4 and E5 that fails, or none.
abbrev pub compatible : List TableDef → Level → StarQuery → StarQuery → Option Requirement
compatible defs level q v =
    first_some (
    failing requirement.E1 (same_root q v)
    ∷ failing requirement.E2 (same_joins q v)
    ∷ failing requirement.E4 (extra_tables_hold defs level q v)
    ∷ failing requirement.E5 (conditions_implied defs q v)
    ∷ [])
