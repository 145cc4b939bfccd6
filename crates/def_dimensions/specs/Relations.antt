-- What a dimension declares: which columns a level column determines, when that holds of the rows, and what breaks it.
use Rattle.std.specs.List.{enumerate_from, list_all}
use Rattle.std.specs.Prelude.{Bool, List, Option, [], filter, filter_map, find, flat_map, length, map, nat_eq, not, option_and_then, option_to_list, suc, sum_by, unwrap_or, zero, ℕ, ◌++◌, ◌==◌, ◌||◌, ◌∷◌}
use Rattle.wh_base.specs.Columns.{same_column}
use Rattle.wh_base.specs.Lists.{distinct, has_text, where_true}
use Rattle.wh_base.specs.Tables.{Base, table_at}
use Rattle.wh_base.specs.Values.{same_value}
use Rattle.wh_base.specs.declared.columns.ColPart.TheVariants.{RowId}
use Rattle.wh_base.specs.declared.columns.ColRef.{ColRef}
use Rattle.wh_base.specs.declared.replies.Broken.{Broken}
use Rattle.wh_base.specs.declared.tables.RowAt.{RowAt}
use Rattle.wh_base.specs.declared.values.Value.{Value}
use Rattle.def_dimensions.specs.Dimensions.{DimAttribute, DimStep, Dimension, level_column}
use Rattle.def_meaning.specs.Joined.{part_value, rows_at}

-- the column of a level of the dimension
abbrev pub column_at : Dimension → List ℕ → Option ColRef
column_at d level = level_column d.levels level

abbrev pub in_same_table : ColRef → ColRef → Bool
in_same_table a b = a.table == b.table

-- the parent's column of a step, where it stands in the level's own table
abbrev pub parent_column : Dimension → ColRef → DimStep → Option ColRef
parent_column d own s = option_and_then (λ p. where_true (in_same_table own p) p) (column_at d s.parent)

-- the columns of the level's table that a step speaks of: the parent's column where it stands there, and the JOIN KEY columns
abbrev pub step_columns : Dimension → ColRef → DimStep → List ColRef
step_columns d own s = option_to_list (parent_column d own s) ++ s.keys

-- the levels on a column; a column stands for all of them
abbrev pub levels_on : Dimension → ColRef → List (List ℕ)
levels_on d column = map (λ l. l.name) (filter (λ l. same_column l.column column) d.levels)

-- the steps up from a column, and the attributes of its levels
abbrev pub steps_from : Dimension → ColRef → List DimStep
steps_from d column = filter (λ s. has_text (levels_on d column) s.child) d.steps

abbrev pub attributes_at : Dimension → ColRef → List ColRef
attributes_at d column = map (λ a. a.column) (filter (λ a. has_text (levels_on d column) a.level) d.attributes)

-- the columns of the parents that stand in the table of a level column
abbrev pub near_parents : Dimension → ColRef → List ColRef
near_parents d column = filter_map (parent_column d column) (steps_from d column)

-- what a level column determines by itself and by the parents in its table, fewer than n steps up
abbrev pub determined_by : ℕ → Dimension → ColRef → List ColRef
determined_by zero d column = []
determined_by (suc n) d column =
    attributes_at d column
    ++ (flat_map (step_columns d column) (steps_from d column)
    ++ flat_map (determined_by n d) (near_parents d column))

-- the columns of its own table that a level column determines: its attributes, its parents' columns and its JOIN KEY columns,
-- and what these parents determine. No way up passes more levels than the dimension has
abbrev pub determined : Dimension → ColRef → List ColRef
determined d column = determined_by (length d.levels) d column

-- ---- when the relations hold

-- two rows have the same values in these columns; NULL is the same as NULL
abbrev pub values_agree : (ColRef → Value) → (ColRef → Value) → List ColRef → Bool
values_agree a b cs = list_all (λ c. same_value (a c) (b c)) cs

-- the value of a column in a row of its table
abbrev pub row_value : RowAt → ColRef → Value
row_value r c = part_value r c.part

-- any two rows with equal values in the level column, NULL included, agree in these columns
abbrev pub level_agrees : List RowAt → ColRef → List ColRef → Bool
level_agrees rows level cs =
    list_all (λ r. list_all (λ s. not (same_value (row_value r level) (row_value s level)) || values_agree (row_value r) (row_value s) cs) rows) rows

-- what the dimension declares holds of the rows: each level column determines what it is said to
abbrev pub dimension_holds : Base → Dimension → Bool
dimension_holds base d = list_all (λ l. level_agrees (rows_at base l.column.table) l.column (determined d l.column)) d.levels

-- ---- VALIDATE

-- a declared relation, as VALIDATE numbers them: its number, the level's column, and the columns that are compared
pub record Relation : Type 0 where
  pub number : ℕ
  pub level : ColRef
  pub columns : List ColRef

-- stands for the column of a level that isn't there; a dimension has none such
abbrev pub no_level : ColRef
no_level = record { table = 0; part = RowId }

-- what a step declares: the lower level determines the columns of its table that the step speaks of
abbrev pub step_relation : Dimension → DimStep → ColRef × List ColRef
step_relation d s = let own = unwrap_or (column_at d s.child) no_level in (own, step_columns d own s)

-- what an attribute declares: its level determines the column
abbrev pub attribute_relation : Dimension → DimAttribute → ColRef × List ColRef
attribute_relation d a = (unwrap_or (column_at d a.level) no_level, a.column ∷ [])

-- the declared relations, numbered from 1: the steps of the hierarchies, then each column of the attributes
abbrev pub relations : Dimension → List Relation
relations d =
    map (λ p. record { number = p.0; level = p.1.0; columns = p.1.1 })
    (enumerate_from 1 (map (step_relation d) d.steps ++ map (attribute_relation d) d.attributes))

-- the row of least rowid with the same value in the level's column
abbrev pub first_like : List RowAt → ColRef → RowAt → RowAt
first_like rows level r = unwrap_or (find (λ s. same_value (row_value s level) (row_value r level)) rows) r

-- the row disagrees with the first one that has its value of the level
abbrev pub breaks : List RowAt → Relation → RowAt → Bool
breaks rows rel r = not (values_agree (row_value r) (row_value (first_like rows rel.level r)) rel.columns)

-- the rows that break a relation, by ascending rowid
abbrev pub broken_by : Base → Relation → List Broken
broken_by base rel = let rows = rows_at base rel.level.table in map (λ r. record { relation = rel.number; rowid = r.rowid }) (filter (breaks rows rel) rows)

-- VALIDATE: each row that breaks a relation, by the number of the relation and then by rowid
abbrev pub broken : Base → Dimension → List Broken
broken base d = flat_map (broken_by base) (relations d)

-- the tables of the dimension, each once
abbrev pub dimension_tables : Dimension → List ℕ
dimension_tables d = distinct nat_eq (map (λ l. l.column.table) d.levels)

-- how many rows VALIDATE reads: it reads each of the dimension's tables once
abbrev pub validate_reads : Base → Dimension → ℕ
validate_reads base d = sum_by (λ n. length (table_at base n).rows) (dimension_tables d)
