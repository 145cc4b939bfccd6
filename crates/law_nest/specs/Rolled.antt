-- The rows of a query over a view, as a reader of SQL says them: the view is a table of the rows that it stores, whose columns bear
-- the names of its items. The query takes the rows that its conditions are true of, makes groups of them and computes its items.
use Rattle.std.specs.List.{list_all, list_any}
use Rattle.std.specs.Prelude.{Bool, List, Option, [], cond, false, filter, map, not, true, zip, ℕ, ◌&&◌, ◌∷◌}
use Rattle.wh_base.specs.Lists.{head, is_empty, option_case, same_text, sorted_by}
use Rattle.wh_base.specs.Values.{equal_not_null, is_null, is_true_that, literal_value, product_value}
use Rattle.wh_base.specs.declared.queries.ColName.{ColName}
use Rattle.wh_base.specs.declared.queries.RawAgg.{RawAgg}
use Rattle.wh_base.specs.declared.queries.RawAgg.TheVariants.{AvgOf, CountOf, CountRows, MaxOf, MinOf, SumOf}
use Rattle.wh_base.specs.declared.queries.RawCondition.{RawCondition}
use Rattle.wh_base.specs.declared.queries.RawCondition.TheVariants as raw
use Rattle.wh_base.specs.declared.queries.RawExpr.{RawExpr}
use Rattle.wh_base.specs.declared.queries.RawExpr.TheVariants.{Column, Constant, Times}
use Rattle.wh_base.specs.declared.queries.RawQuery.{RawQuery}
use Rattle.wh_base.specs.declared.queries.RawWhat.{RawWhat}
use Rattle.wh_base.specs.declared.queries.RawWhat.TheVariants as what
use Rattle.wh_base.specs.declared.values.Op.TheVariants.{Eq, Ge, Le}
use Rattle.wh_base.specs.declared.values.Value.{Value}
use Rattle.wh_base.specs.declared.values.Value.TheVariants.{Null, Num}
use Rattle.wh_base.specs.declared.views.ViewDef.{ViewDef}
use Rattle.wh_base.specs.declared.views.ViewEntry.{ViewEntry}
use Rattle.def_meaning.specs.Meaning.{Grouped, avg_value, count_value, entry_cmp, groups_by, max_value, min_value, not_null, sum_value}
use Rattle.def_nest.specs.Names.{item_names, plain_name}
use Rattle.def_resolve.specs.Names.{the_only}

-- ---- a row of the view beneath

-- the cell bears this name
abbrev pub is_called : List ℕ → Option (List ℕ) × Value → Bool
is_called name p = option_case p.0 false (same_text name)

-- the value of the one item with this name; NULL where there is none, or two
abbrev pub cell_named : ViewDef → List Value → List ℕ → Value
cell_named d row name = option_case (the_only (filter (is_called name) (zip (item_names d) row))) Null (λ p. p.1)

-- the value of a column in a row of the view; its qualifier, where it has one, is the view's own name
abbrev pub cell : ViewDef → List Value → ColName → Value
cell d row c = cond (option_case c.qualifier true (same_text d.name)) (option_case (plain_name c.part) Null (cell_named d row)) Null

-- the condition is true of the row
abbrev pub row_true : ViewDef → List Value → RawCondition → Bool
row_true d row (raw.Compare c op l) = is_true_that (cell d row c) op (literal_value l)
row_true d row (raw.Between c l m) = is_true_that (cell d row c) Ge (literal_value l) && is_true_that (cell d row c) Le (literal_value m)
row_true d row (raw.Equal a b) = equal_not_null (cell d row a) (cell d row b)
row_true d row (raw.OneOf c ls) = list_any (λ l. is_true_that (cell d row c) Eq (literal_value l)) ls
row_true d row (raw.IsNull c) = is_null (cell d row c)
row_true d row (raw.NotNull c) = not (is_null (cell d row c))

-- the value of an expression in the row
abbrev pub row_expr : ViewDef → List Value → RawExpr → Value
row_expr d row (Column c) = cell d row c
row_expr d row (Times a b) = product_value (cell d row a) (cell d row b)
row_expr d row (Constant n) = Num n

-- ---- groups of rows

-- the values that the expression has in these rows, without the NULLs
abbrev pub row_values : ViewDef → List (List Value) → RawExpr → List Value
row_values d rows e = filter not_null (map (λ r. row_expr d r e) rows)

-- the value of an aggregate over these rows
abbrev pub rolled_agg : ViewDef → List (List Value) → RawAgg → Value
rolled_agg d rows CountRows = count_value rows
rolled_agg d rows (CountOf e) = count_value (row_values d rows e)
rolled_agg d rows (SumOf e) = sum_value (row_values d rows e)
rolled_agg d rows (AvgOf e) = avg_value (row_values d rows e)
rolled_agg d rows (MinOf e) = min_value (row_values d rows e)
rolled_agg d rows (MaxOf e) = max_value (row_values d rows e)

-- the value of an item over a group: an aggregate, or what the first row of the group has
abbrev pub rolled_item : ViewDef → List (List Value) → RawWhat → Value
rolled_item d rows (what.Plain c) = option_case (head rows) Null (λ r. cell d r c)
rolled_item d rows (what.Computed a) = rolled_agg d rows a

-- the values of the group columns in a row
abbrev pub row_key : RawQuery → ViewDef → List Value → List Value
row_key q d row = map (cell d row) q.groups

-- the rows by the values of the group columns; without group columns one group, also of no rows
abbrev pub row_groups : RawQuery → ViewDef → List (List Value) → List (Grouped (List Value))
row_groups q d rows = cond (is_empty q.groups) (([], rows) ∷ []) (groups_by (row_key q d) rows)

-- what is stored for a group
abbrev pub rolled_entry : RawQuery → ViewDef → Grouped (List Value) → ViewEntry
rolled_entry q d g = record { key = g.0; row = map (λ i. rolled_item d g.1 i.what) q.items }

-- the rows that all conditions are true of
abbrev pub rows_met : RawQuery → ViewDef → List (List Value) → List (List Value)
rows_met q d rows = filter (λ r. list_all (row_true d r) q.conditions) rows

-- what the query stores over the entries of the view beneath
abbrev pub rolled_view : RawQuery → ViewDef → List ViewEntry → List ViewEntry
rolled_view q d stored = sorted_by entry_cmp (map (rolled_entry q d) (row_groups q d (rows_met q d (map (λ e. e.row) stored))))
