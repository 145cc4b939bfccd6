-- The definition of a view over a view. It is composed: it has the tables, joins and conditions of the view beneath with conditions
-- of its own added, its own grouping, and the aggregates of the view beneath in place of those over them.
use Rattle.std.specs.List.{list_all, list_any}
use Rattle.std.specs.Prelude.{Bool, List, None, Option, Some, [], false, find, flat_map, is_none, is_some, map, not, option_and_then, option_map, unwrap_or, ◌&&◌, ◌++◌, ◌==◌, ◌||◌, ◌∷◌, ◌≡◌}
use Rattle.wh_base.specs.Columns.{same_item}
use Rattle.wh_base.specs.Lists.{all_there, is_empty, option_case, where_true}
use Rattle.wh_base.specs.declared.columns.Agg.{Agg}
use Rattle.wh_base.specs.declared.columns.Agg.TheVariants.{Avg, Count, CountAll, Max, Min, Sum}
use Rattle.wh_base.specs.declared.columns.ColRef.{ColRef}
use Rattle.wh_base.specs.declared.queries.ColName.{ColName}
use Rattle.wh_base.specs.declared.queries.Item.{Item}
use Rattle.wh_base.specs.declared.queries.RawAgg.{RawAgg}
use Rattle.wh_base.specs.declared.queries.RawAgg.TheVariants.{AvgOf, CountOf, CountRows, MaxOf, MinOf, SumOf}
use Rattle.wh_base.specs.declared.queries.RawCondition.{RawCondition}
use Rattle.wh_base.specs.declared.queries.RawExpr.{RawExpr}
use Rattle.wh_base.specs.declared.queries.RawExpr.TheVariants.{Column, Constant, Times}
use Rattle.wh_base.specs.declared.queries.RawOrder.{RawOrder}
use Rattle.wh_base.specs.declared.queries.RawQuery.{RawQuery}
use Rattle.wh_base.specs.declared.queries.RawWhat.{RawWhat}
use Rattle.wh_base.specs.declared.queries.StarQuery.{StarQuery}
use Rattle.wh_base.specs.declared.values.Literal.{Literal}
use Rattle.wh_base.specs.declared.views.ViewDef.{ViewDef}
use Rattle.def_nest.specs.Names.{agg_named, grouped_column}
use Rattle.def_resolve.specs.Kinds.{IsAny, Sort, agrees, is_too_long, literal_sort, part_sort}
use Rattle.def_resolve.specs.Names.{called_by, item_at_position, no_column}
use Rattle.def_resolve.specs.Resolve.{item_is_grouped, resolved_condition}
use Rattle.def_restrictions.specs.Definition.{table_defs}
use Rattle.wh_base.specs.declared.queries.Item.TheVariants as item
use Rattle.wh_base.specs.declared.queries.RawCondition.TheVariants as raw
use Rattle.wh_base.specs.declared.queries.RawOrder.TheVariants as order
use Rattle.wh_base.specs.declared.queries.RawWhat.TheVariants as what

-- ---- aggregates

-- what SUM makes of an aggregate of the view beneath: a sum of sums is the sum, a sum of counts is the count
abbrev pub summed : Agg → Option Agg
summed CountAll = Some CountAll
summed (Count e) = Some (Count e)
summed (Sum e) = Some (Sum e)
summed (Avg e) = None
summed (Min e) = None
summed (Max e) = None

-- MIN is taken of MIN alone, and MAX of MAX
abbrev pub least_taken : Agg → Option Agg
least_taken (Min e) = Some (Min e)
least_taken a = None

abbrev pub greatest_taken : Agg → Option Agg
greatest_taken (Max e) = Some (Max e)
greatest_taken a = None

-- the column that an expression is by itself
abbrev pub lone_column : RawExpr → Option ColName
lone_column (Column c) = Some c
lone_column (Times a b) = None
lone_column (Constant n) = None

-- the aggregate of the view beneath that an expression names
abbrev pub agg_beneath : ViewDef → RawExpr → Option Agg
agg_beneath d e = option_and_then (agg_named d) (lone_column e)

-- the aggregate of the composed definition
abbrev pub composed_agg : ViewDef → RawAgg → Option Agg
composed_agg d CountRows = None
composed_agg d (CountOf e) = None
composed_agg d (SumOf e) = option_and_then summed (agg_beneath d e)
composed_agg d (AvgOf e) = None
composed_agg d (MinOf e) = option_and_then least_taken (agg_beneath d e)
composed_agg d (MaxOf e) = option_and_then greatest_taken (agg_beneath d e)

-- the item of the composed definition: a grouped item of the view beneath, or such an aggregate
abbrev pub composed_item : ViewDef → RawWhat → Option Item
composed_item d (what.Plain c) = option_map item.Col (grouped_column d c)
composed_item d (what.Computed a) = option_map item.Agg (composed_agg d a)

-- ---- conditions

-- the kind of a column of the view's tables
abbrev pub sort_beneath : ViewDef → ColRef → Sort
sort_beneath d c = option_case (find (λ t. t.0 == c.table) (table_defs d)) IsAny (λ t. part_sort t.1 c.part)

-- a literal may be compared with something of this kind: it is of one kind with it, and not too long
abbrev pub is_comparable : Sort → Literal → Bool
is_comparable sort l = agrees sort (literal_sort l) && not (is_too_long l)

-- the column is grouped beneath, and may be compared with these literals
abbrev pub compares : ViewDef → ColName → List Literal → Bool
compares d c ls = option_case (grouped_column d c) false (λ k. list_all (is_comparable (sort_beneath d k)) ls)

-- the condition may stand over the view. An equality of two columns would be one join too many
abbrev pub condition_stands : ViewDef → RawCondition → Bool
condition_stands d (raw.Compare c op l) = compares d c (l ∷ [])
condition_stands d (raw.Between c l m) = compares d c (l ∷ m ∷ [])
condition_stands d (raw.Equal a b) = false
condition_stands d (raw.OneOf c ls) = compares d c ls
condition_stands d (raw.IsNull c) = is_some (grouped_column d c)
condition_stands d (raw.NotNull c) = is_some (grouped_column d c)

-- the column of a base table for a column that names a grouped item
abbrev pub column_beneath : ViewDef → ColName → ColRef
column_beneath d c = unwrap_or (grouped_column d c) no_column

-- ---- order

-- the item is one of these
abbrev pub is_among : List Item → Item → Bool
is_among items i = list_any (same_item i) items

-- a key of ORDER BY may stand over the view: a position of an item, an alias, a grouped item that is selected, or an aggregate that
-- is. The order itself has no effect in a definition
abbrev pub order_stands : ViewDef → RawQuery → List Item → RawOrder → Bool
order_stands d q items (order.Position n) = is_some (item_at_position q n)
order_stands d q items (order.Column c) = is_some (called_by q c) || option_case (grouped_column d c) false (λ k. is_among items (item.Col k))
order_stands d q items (order.Computed a) = option_case (composed_agg d a) false (λ b. is_among items (item.Agg b))

-- ---- the whole

-- the view beneath is an aggregate view, the one above it has GROUP BY, neither has HAVING, and no definition has AS OF
abbrev pub may_be_nested : RawQuery → ViewDef → Bool
may_be_nested q d = d.query.grouped && (is_empty d.query.having && (not (is_empty q.groups) && (is_empty q.having && is_none q.as_of)))

-- conditions, plain items and ORDER BY are as a query over the composed tables may have them
abbrev pub parts_stand : RawQuery → ViewDef → List Item → List ColRef → Bool
parts_stand q d items keys =
    list_all (condition_stands d) q.conditions
    && (list_all (item_is_grouped keys) items && list_all (λ k. order_stands d q items k.what) q.order)

-- the composed query with these items and group columns
abbrev pub composed_query : RawQuery → ViewDef → List Item → List ColRef → StarQuery
composed_query q d items keys =
    record d.query {
      conditions = d.query.conditions ++ flat_map (resolved_condition (column_beneath d)) q.conditions;
      keys = keys;
      items = items;
      order = [];
    }

-- the definition that a query over this view stands for, or none where it breaks the form of a nested view
abbrev pub compose : RawQuery → ViewDef → Option StarQuery
compose q d =
    option_and_then (λ items. option_and_then (λ keys. where_true (may_be_nested q d && parts_stand q d items keys) (composed_query q d items keys))
    (all_there (map (grouped_column d) q.groups)))
    (all_there (map (λ i. composed_item d i.what) q.items))

-- The definition above is composed over the one beneath, by some query: it has that query's form over the same tables.
pub record IsComposed (above beneath : ViewDef) : Type 0 where
  pub asked : RawQuery
  pub query_is : compose asked beneath ≡ Some above.query
  pub tables_are : above.tables ≡ beneath.tables
