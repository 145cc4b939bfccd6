-- The star form of a query, or its first refusal. In all that follows `column` gives the column of each name.
use Rattle.std.specs.List.{list_all, list_any}
use Rattle.std.specs.Prelude.{Bool, List, None, Option, Result, Some, [], false, flat_map, is_some, map, not, position, true, unwrap_or, ℕ, ◌&&◌, ◌++◌, ◌||◌, ◌∷◌, ◌≡◌}
use Rattle.wh_base.specs.Columns.{has_column, same_item}
use Rattle.wh_base.specs.Lists.{first_of, first_some, head, is_empty, option_case, or_refuse, unless, unless_then, where_true, ◌>>=◌}
use Rattle.wh_base.specs.Values.{literal_value}
use Rattle.wh_base.specs.declared.columns.Agg.{Agg}
use Rattle.wh_base.specs.declared.columns.Agg.TheVariants.{Avg, Count, CountAll, Max, Min, Sum}
use Rattle.wh_base.specs.declared.columns.ColRef.{ColRef}
use Rattle.wh_base.specs.declared.columns.Expr.{Expr}
use Rattle.wh_base.specs.declared.queries.ColName.{ColName}
use Rattle.wh_base.specs.declared.queries.Condition.{Condition}
use Rattle.wh_base.specs.declared.queries.Condition.TheVariants.{Compare, IsNull, NotNull, OneOf}
use Rattle.wh_base.specs.declared.queries.Edge.{Edge}
use Rattle.wh_base.specs.declared.queries.Item.{Item}
use Rattle.wh_base.specs.declared.queries.OrderKey.{OrderKey}
use Rattle.wh_base.specs.declared.queries.RawAgg.{RawAgg}
use Rattle.wh_base.specs.declared.queries.RawAgg.TheVariants.{AvgOf, CountOf, CountRows, MaxOf, MinOf, SumOf}
use Rattle.wh_base.specs.declared.queries.RawCondition.{RawCondition}
use Rattle.wh_base.specs.declared.queries.RawExpr.{RawExpr}
use Rattle.wh_base.specs.declared.queries.RawExpr.TheVariants.{Column, Constant, Times}
use Rattle.wh_base.specs.declared.queries.RawKey.{RawKey}
use Rattle.wh_base.specs.declared.queries.RawOrder.{RawOrder}
use Rattle.wh_base.specs.declared.queries.RawQuery.{RawQuery}
use Rattle.wh_base.specs.declared.queries.RawTable.{RawTable}
use Rattle.wh_base.specs.declared.queries.RawTest.{RawTest}
use Rattle.wh_base.specs.declared.queries.RawWhat.{RawWhat}
use Rattle.wh_base.specs.declared.queries.StarQuery.{StarQuery}
use Rattle.wh_base.specs.declared.queries.Test.{Test}
use Rattle.wh_base.specs.declared.replies.Refusal.{Refusal}
use Rattle.wh_base.specs.declared.replies.Refusal.TheVariants.{NotGrouped, NotStar}
use Rattle.wh_base.specs.declared.tables.TableDef.{TableDef}
use Rattle.wh_base.specs.declared.values.Op.TheVariants.{Ge, Le}
use Rattle.def_resolve.specs.Kinds.{agg_refusal, condition_refusal, equal_refusal, test_refusal}
use Rattle.def_resolve.specs.Names.{Source, called_by, column_named, item_at_position, names_refusal, sources_of, table_refusal}
use Rattle.def_resolve.specs.Star.{IsTreeFrom, Tree, star_of}
use Rattle.wh_base.specs.declared.columns.Expr.TheVariants as expr
use Rattle.wh_base.specs.declared.queries.Item.TheVariants as item
use Rattle.wh_base.specs.declared.queries.RawWhat.TheVariants as what
use Rattle.wh_base.specs.declared.queries.RawCondition.TheVariants as raw
use Rattle.wh_base.specs.declared.queries.RawOrder.TheVariants as order

-- ---- the parts of a query with each name resolved

abbrev pub resolved_expr : (ColName → ColRef) → RawExpr → Expr
resolved_expr column (Column c) = expr.Col (column c)
resolved_expr column (Times a b) = expr.Product (column a) (column b)
resolved_expr column (Constant n) = expr.Lit n

abbrev pub resolved_agg : (ColName → ColRef) → RawAgg → Agg
resolved_agg column CountRows = CountAll
resolved_agg column (CountOf e) = Count (resolved_expr column e)
resolved_agg column (SumOf e) = Sum (resolved_expr column e)
resolved_agg column (AvgOf e) = Avg (resolved_expr column e)
resolved_agg column (MinOf e) = Min (resolved_expr column e)
resolved_agg column (MaxOf e) = Max (resolved_expr column e)

abbrev pub resolved_item : (ColName → ColRef) → RawWhat → Item
resolved_item column (what.Plain c) = item.Col (column c)
resolved_item column (what.Computed a) = item.Agg (resolved_agg column a)

-- the conditions that a condition of the text stands for: BETWEEN is `>=` and `<=`, an equality of two columns is a join and none
abbrev pub resolved_condition : (ColName → ColRef) → RawCondition → List Condition
resolved_condition column (raw.Compare c op l) = Compare (column c) op (literal_value l) ∷ []
resolved_condition column (raw.Between c l m) = Compare (column c) Ge (literal_value l) ∷ Compare (column c) Le (literal_value m) ∷ []
resolved_condition column (raw.Equal a b) = []
resolved_condition column (raw.OneOf c ls) = OneOf (column c) (map literal_value ls) ∷ []
resolved_condition column (raw.IsNull c) = IsNull (column c) ∷ []
resolved_condition column (raw.NotNull c) = NotNull (column c) ∷ []

-- the join that a condition stands for, and the join of an ON
abbrev pub join_of_condition : (ColName → ColRef) → RawCondition → List Edge
join_of_condition column (raw.Equal a b) = record { from = column a; to = column b } ∷ []
join_of_condition column (raw.Compare c op l) = []
join_of_condition column (raw.Between c l m) = []
join_of_condition column (raw.OneOf c ls) = []
join_of_condition column (raw.IsNull c) = []
join_of_condition column (raw.NotNull c) = []

abbrev pub join_of_table : (ColName → ColRef) → RawTable → List Edge
join_of_table column t = option_case t.on [] (λ j. record { from = column j.left; to = column j.right } ∷ [])

-- every equality of two columns is a join, in ON or in WHERE
abbrev pub joins_of : (ColName → ColRef) → RawQuery → List Edge
joins_of column q = flat_map (join_of_table column) q.tables ++ flat_map (join_of_condition column) q.conditions

abbrev pub resolved_test : (ColName → ColRef) → RawTest → Test
resolved_test column t = record { agg = resolved_agg column t.agg; op = t.op; value = literal_value t.literal }

-- ---- the kinds, in the order of the text

abbrev pub what_refusal : List TableDef → ℕ → (ColName → ColRef) → RawWhat → Option Refusal
what_refusal defs first column (what.Plain c) = None
what_refusal defs first column (what.Computed a) = agg_refusal defs first (resolved_agg column a)

abbrev pub order_kind_refusal : List TableDef → ℕ → (ColName → ColRef) → RawOrder → Option Refusal
order_kind_refusal defs first column (order.Position n) = None
order_kind_refusal defs first column (order.Column c) = None
order_kind_refusal defs first column (order.Computed a) = agg_refusal defs first (resolved_agg column a)

-- MV-04 for the first in the text: items, ON, WHERE, HAVING and the aggregates of ORDER BY
abbrev pub kinds_refusal : List TableDef → ℕ → (ColName → ColRef) → RawQuery → Option Refusal
kinds_refusal defs first column q =
    first_some (
    first_of (λ i. what_refusal defs first column i.what) q.items
    ∷ first_of (λ e. equal_refusal defs e.from e.to) (flat_map (join_of_table column) q.tables)
    ∷ first_of (condition_refusal defs column) q.conditions
    ∷ first_of (λ t. test_refusal defs first (resolved_agg column t.agg) t.literal) q.having
    ∷ first_of (λ k. order_kind_refusal defs first column k.what) q.order
    ∷ [])

-- ---- items and order

abbrev pub is_agg : Item → Bool
is_agg (item.Col c) = false
is_agg (item.Agg a) = true

-- a query with GROUP BY, HAVING or an aggregate is grouped
abbrev pub is_grouped : RawQuery → List Item → Bool
is_grouped q items = not (is_empty q.groups) || (not (is_empty q.having) || list_any is_agg items)

-- the item that a key of ORDER BY names: by position, by alias, or the first that is this very column or aggregate
abbrev pub order_item : RawQuery → (ColName → ColRef) → List Item → RawOrder → Option ℕ
order_item q column items (order.Position n) = item_at_position q n
order_item q column items (order.Column c) = option_case (called_by q c) (position (same_item (item.Col (column c))) items) Some
order_item q column items (order.Computed a) = position (same_item (item.Agg (resolved_agg column a))) items

-- the item may stand in a grouped query: a plain one must be a group column itself
abbrev pub item_is_grouped : List ColRef → Item → Bool
item_is_grouped keys (item.Col c) = has_column keys c
item_is_grouped keys (item.Agg a) = true

-- else MV-18: plain items of a grouped query are group columns, and each key of ORDER BY is an item
abbrev pub grouping_holds : RawQuery → (ColName → ColRef) → List Item → List ColRef → Bool
grouping_holds q column items keys =
    (not (is_grouped q items) || list_all (item_is_grouped keys) items)
    && list_all (λ k. is_some (order_item q column items k.what)) q.order

abbrev pub resolved_key : RawQuery → (ColName → ColRef) → List Item → RawKey → OrderKey
resolved_key q column items k = record { item = unwrap_or (order_item q column items k.what) 0; descending = k.descending }

-- ---- the star form

-- the star form by the query's tree
abbrev pub star_query : RawQuery → (ColName → ColRef) → Tree → StarQuery
star_query q column tree =
    let items = map (λ i. resolved_item column i.what) q.items in
    record {
      root = unwrap_or (head tree.tables) 0;
      tables = tree.tables;
      edges = tree.edges;
      conditions = flat_map (resolved_condition column) q.conditions;
      grouped = is_grouped q items;
      keys = map column q.groups;
      items = items;
      having = map (resolved_test column) q.having;
      order = map (resolved_key q column items) q.order;
      as_of = q.as_of;
    }

-- the first table of FROM
abbrev pub first_table : List Source → ℕ
first_table sources = option_case (head sources) 0 (λ s. s.table)

-- the star form of a query whose names and kinds are right, or MV-17 where its joins form no tree, and then MV-18
abbrev pub star_form : List TableDef → RawQuery → List Source → Result StarQuery Refusal
star_form defs q sources =
    let column : (ColName → ColRef) = column_named sources in
    let items = map (λ i. resolved_item column i.what) q.items in do
      tree ← or_refuse (star_of defs (joins_of column q) (map (λ s. s.table) sources)) NotStar
      unless (where_true (not (grouping_holds q column items (map column q.groups))) NotGrouped) (star_query q column tree)

-- the star form of a query over these tables, or the first of its refusals: MV-02 for a table, MV-03 for a column or a
-- position, MV-04 for a kind or a literal that is too long, MV-17 for the form, MV-18 for the grouping
abbrev pub resolve : List TableDef → RawQuery → Result StarQuery Refusal
resolve defs q =
    let sources = sources_of defs q in
    unless_then (first_some (table_refusal defs q ∷ names_refusal sources q ∷ kinds_refusal defs (first_table sources) (column_named sources) q ∷ []))
    (star_form defs q sources)

-- what is so of every star form, as the laws of this crate prove: it has a tree from its root, and where it is grouped each plain
-- item is one of its group columns
abbrev pub IsStar : List TableDef → StarQuery → Type 0
IsStar defs q = IsTreeFrom defs q.root q.tables q.edges × (q.grouped ≡ true → list_all (item_is_grouped q.keys) q.items ≡ true)
