-- Which aggregates of a query come from those of a view, and the values that they roll up to.
use Rattle.std.specs.List.{list_all}
use Rattle.std.specs.Ordering.{int_eq}
use Rattle.std.specs.Prelude.{Bool, List, None, Option, Some, [], cond, false, filter, is_some, map, negsuc, not, option_map, pos, position, suc, zero, ℕ, ℤ, ◌&&◌, ◌+ℤ◌, ◌||◌, ◌∷◌}
use Rattle.wh_base.specs.Average.{count_of}
use Rattle.wh_base.specs.Columns.{expr_columns, same_agg_by}
use Rattle.wh_base.specs.Lists.{first_some, is_empty}
use Rattle.wh_base.specs.Tables.{never_null, value_at}
use Rattle.wh_base.specs.declared.columns.Agg.{Agg}
use Rattle.wh_base.specs.declared.columns.Agg.TheVariants.{Avg, Count, CountAll, Max, Min, Sum}
use Rattle.wh_base.specs.declared.columns.ColRef.{ColRef}
use Rattle.wh_base.specs.declared.columns.Expr.{Expr}
use Rattle.wh_base.specs.declared.queries.Item.{Item}
use Rattle.wh_base.specs.declared.queries.StarQuery.{StarQuery}
use Rattle.wh_base.specs.declared.tables.TableDef.{TableDef}
use Rattle.wh_base.specs.declared.values.Value.{Value}
use Rattle.wh_base.specs.declared.values.Value.TheVariants.{Null, Num, Ratio}
use Rattle.def_meaning.specs.Accumulated.{query_aggs}
use Rattle.def_meaning.specs.Meaning.{max_value, min_value, not_null, sum_value, total_of}
use Rattle.def_rewriting.specs.Compatible.{is_table_of, linked}
use Rattle.wh_base.specs.declared.columns.Expr.TheVariants as expr
use Rattle.wh_base.specs.declared.queries.Item.TheVariants as item

-- ---- when two aggregates count as one: a*b as b*a, and equal columns as one

-- Two products of columns, in either order.
abbrev pub same_product : (ColRef → ColRef → Bool) → ColRef × ColRef → ColRef × ColRef → Bool
same_product eq a b = (eq a.0 b.0 && eq a.1 b.1) || (eq a.0 b.1 && eq a.1 b.0)

-- Two expressions are the same, where `eq` tells which columns are equal.
abbrev pub equal_expr : (ColRef → ColRef → Bool) → Expr → Expr → Bool
equal_expr eq (expr.Col a) (expr.Col b) = eq a b
equal_expr eq (expr.Product a b) (expr.Product c d) = same_product eq (a, b) (c, d)
equal_expr eq (expr.Lit m) (expr.Lit n) = int_eq m n
equal_expr eq _ _ = false

-- The item of the view is this aggregate.
abbrev pub item_is_agg : (ColRef → ColRef → Bool) → Agg → Item → Bool
item_is_agg eq a (item.Agg b) = same_agg_by (equal_expr eq) a b
item_is_agg eq a (item.Col c) = false

-- The place of the view's first item that is this aggregate.
abbrev pub agg_place : (ColRef → ColRef → Bool) → StarQuery → Agg → Option ℕ
agg_place eq v a = position (item_is_agg eq a) v.items

-- ---- where an aggregate of the query comes from

-- What an aggregate of the query is made of: the values at a place of the view's row, or at two.
pub data Origin : Type 0 where
  -- SUM(e) is the sum of the view's SUM(e)
  SumsOf : ℕ → Origin
  -- a count is the sum of the view's COUNT(e) or COUNT(*)
  CountsOf : ℕ → Origin
  -- AVG(e) is made of the sums and counts in the view's AVG(e)
  AveragesOf : ℕ → Origin
  -- AVG(e) is made of the view's SUM(e) and COUNT(e)
  SumsAndCounts : ℕ → ℕ → Origin
  -- MIN(e) is the least of the view's MIN(e)
  LeastOf : ℕ → Origin
  -- MAX(e) is the greatest of the view's MAX(e)
  GreatestOf : ℕ → Origin

-- A sum and its count, where the view has both.
abbrev pub both_places : Option ℕ → Option ℕ → Option Origin
both_places None n = None
both_places (Some m) None = None
both_places (Some m) (Some n) = Some (SumsAndCounts m n)

-- The expression, as the query writes it, is of common tables and can't be NULL: it is a literal or has only columns that can't be NULL.
abbrev pub counts_all : List TableDef → StarQuery → Expr → Bool
counts_all defs v e = list_all (λ c. is_table_of v c.table && never_null defs c) (expr_columns e)

-- COUNT(e) comes from COUNT(e), else from COUNT(*) where e can't be NULL.
abbrev pub count_place : List TableDef → (ColRef → ColRef → Bool) → StarQuery → Expr → Option Origin
count_place defs eq v e =
    first_some (
    option_map CountsOf (agg_place eq v (Count e))
    ∷ cond (counts_all defs v e) (option_map CountsOf (agg_place eq v CountAll)) None
    ∷ [])

-- The first source of the aggregate in the view, in the order written here; none where the view has none.
abbrev pub origin : List TableDef → (ColRef → ColRef → Bool) → StarQuery → Agg → Option Origin
origin defs eq v CountAll = option_map CountsOf (agg_place eq v CountAll)
origin defs eq v (Count e) = count_place defs eq v e
origin defs eq v (Sum e) = option_map SumsOf (agg_place eq v (Sum e))
origin defs eq v (Min e) = option_map LeastOf (agg_place eq v (Min e))
origin defs eq v (Max e) = option_map GreatestOf (agg_place eq v (Max e))
origin defs eq v (Avg e) =
    first_some (
    option_map AveragesOf (agg_place eq v (Avg e))
    ∷ both_places (agg_place eq v (Sum e)) (agg_place eq v (Count e))
    ∷ [])

-- ---- E7

-- The view has no HAVING. Over an aggregate view the query is grouped, and each of its aggregates, in HAVING too, has a source in the view.
abbrev pub computable : List TableDef → StarQuery → StarQuery → Bool
computable defs q v =
    is_empty v.having && (not v.grouped || (q.grouped && list_all (λ a. is_some (origin defs (linked q v) v a)) (query_aggs q)))

-- ---- the values rolled up

-- The sum of counts: 0 over nothing.
abbrev pub counts_value : List Value → Value
counts_value vs = Num (total_of vs)

-- The pair of a sum and a count; NULL where the count is 0.
abbrev pub ratio_value : ℤ → ℤ → Value
ratio_value n (pos zero) = Null
ratio_value n (pos (suc m)) = Ratio (record { sum = n; more = m })
ratio_value n (negsuc m) = Null

-- The sum in a pair.
abbrev pub sum_part : Value → ℤ
sum_part (Ratio a) = a.sum
sum_part _ = pos 0

-- The count in a pair.
abbrev pub count_part : Value → ℤ
count_part (Ratio a) = pos (count_of a)
count_part _ = pos 0

-- The sum of one part of each value.
abbrev pub sum_by_part : (Value → ℤ) → List Value → ℤ
sum_by_part f [] = pos 0
sum_by_part f (v ∷ vs) = f v +ℤ sum_by_part f vs

-- The values at a place of these rows that aren't NULL.
abbrev pub place_values : List (List Value) → ℕ → List Value
place_values rows n = filter not_null (map (λ r. value_at r n) rows)

-- The value of an aggregate over rows of the view. Over no row a count is 0, and a sum, an average and an extreme are NULL.
abbrev pub rolled : List (List Value) → Origin → Value
rolled rows (SumsOf n) = sum_value (place_values rows n)
rolled rows (CountsOf n) = counts_value (place_values rows n)
rolled rows (AveragesOf n) = ratio_value (sum_by_part sum_part (place_values rows n)) (sum_by_part count_part (place_values rows n))
rolled rows (SumsAndCounts m n) = ratio_value (total_of (place_values rows m)) (total_of (place_values rows n))
rolled rows (LeastOf n) = min_value (place_values rows n)
rolled rows (GreatestOf n) = max_value (place_values rows n)
