-- The tuples of a query: the product of the rows of its tables, filtered by its joins and its conditions.
-- A tuple is a list with one row of each table of the query, in the order of the query's tables.
use Rattle.std.specs.List.{list_all, list_any}
use Rattle.std.specs.Prelude.{Bool, List, [], cond, filter, flat_map, map, not, pos, ℕ, ◌&&◌, ◌==◌, ◌∷◌}
use Rattle.wh_base.specs.Tables.{Base, row_at, table_at, value_at}
use Rattle.wh_base.specs.Values.{equal_not_null, is_null, is_true_that}
use Rattle.wh_base.specs.declared.columns.ColPart.{ColPart}
use Rattle.wh_base.specs.declared.columns.ColPart.TheVariants.{Col, Mark, RowId}
use Rattle.wh_base.specs.declared.columns.ColRef.{ColRef}
use Rattle.wh_base.specs.declared.queries.Condition.{Condition}
use Rattle.wh_base.specs.declared.queries.Condition.TheVariants.{Compare, IsNull, NotNull, OneOf}
use Rattle.wh_base.specs.declared.queries.Edge.{Edge}
use Rattle.wh_base.specs.declared.queries.StarQuery.{StarQuery}
use Rattle.wh_base.specs.declared.tables.RowAt.{RowAt}
use Rattle.wh_base.specs.declared.values.Op.TheVariants.{Eq}
use Rattle.wh_base.specs.declared.values.Value.{Value}
use Rattle.wh_base.specs.declared.values.Value.TheVariants.{Num}

-- ---- the columns of a tuple

-- stands for a row that isn't there; a tuple of the query's tables never needs it
abbrev pub empty_row : RowAt
empty_row = record { rowid = 0; mark = 0; values = [] }

-- the value in a row: of a column by its place, of ROWID the rowid, of PMARKER the number of the row's partition
abbrev pub part_value : RowAt → ColPart → Value
part_value r (Col n) = value_at r.values n
part_value r RowId = Num (pos r.rowid)
part_value r Mark = Num (pos r.mark)

-- the row of a table in a tuple that has one row of each of these tables, in this order
abbrev pub row_of : List ℕ → List RowAt → ℕ → RowAt
row_of [] rows table = empty_row
row_of (n ∷ ns) [] table = empty_row
row_of (n ∷ ns) (r ∷ rs) table = cond (n == table) r (row_of ns rs table)

-- the value of a column in a tuple
abbrev pub column_value : List ℕ → List RowAt → ColRef → Value
column_value tables tuple c = part_value (row_of tables tuple c.table) c.part

-- ---- when joins and conditions are true, if each column has the value given
-- A comparison with NULL isn't true, so a NULL joins with nothing and meets no comparison.

-- the two columns of the join are equal and not NULL
abbrev pub edge_true : (ColRef → Value) → Edge → Bool
edge_true value e = equal_not_null (value e.from) (value e.to)

-- a comparison is true, one value of an IN list is equal, the column is NULL, or it isn't
abbrev pub condition_true : (ColRef → Value) → Condition → Bool
condition_true value (Compare c op v) = is_true_that (value c) op v
condition_true value (OneOf c vs) = list_any (is_true_that (value c) Eq) vs
condition_true value (IsNull c) = is_null (value c)
condition_true value (NotNull c) = not (is_null (value c))

-- all the conditions are true, as AND joins them
abbrev pub conditions_true : (ColRef → Value) → List Condition → Bool
conditions_true value conditions = list_all (condition_true value) conditions

-- ---- the tuples

-- one item of each list, in every way: the cross product, in which the first list's item changes last
abbrev pub product : {A : Type 0} → List (List A) → List (List A)
product [] = [] ∷ []
product (xs ∷ more) = flat_map (λ x. map (λ rest. x ∷ rest) (product more)) xs

-- the rows of a table of the base state, each with its rowid and the number of its partition, by ascending rowid
abbrev pub rows_at : Base → ℕ → List RowAt
rows_at base n = let t = table_at base n in map (row_at t) t.rows

-- every join and every condition of the query is true in the tuple
abbrev pub tuple_true : StarQuery → List RowAt → Bool
tuple_true q tuple = let value = column_value q.tables tuple in list_all (edge_true value) q.edges && conditions_true value q.conditions

-- the tuples of a query where each table has the rows given: their cross product, filtered.
-- Rows that come by ascending rowid give the tuples in the order of the rowids, table by table in tree order
abbrev pub joined_over : StarQuery → (ℕ → List RowAt) → List (List RowAt)
joined_over q rows = filter (tuple_true q) (product (map rows q.tables))

-- the tuples of a query over a base state
abbrev pub joined : StarQuery → Base → List (List RowAt)
joined q base = joined_over q (rows_at base)
