-- A view that is stale in part answers for its fresh keys, and the base rows for the stale ones: the rows that come so, and the
-- base rows that are read. In this file `key` is the partition key that the view selects, and `stale` has its stale intervals.
use Rattle.std.specs.List.{list_all, list_any}
use Rattle.std.specs.Prelude.{Bool, List, None, [], cond, filter, flat_map, length, map, not, sum_by, ℕ, ◌&&◌, ◌++◌, ◌==◌, ◌∷◌}
use Rattle.wh_base.specs.Lists.{has_number, option_case}
use Rattle.wh_base.specs.Tables.{Base, table_at, with_intervals}
use Rattle.wh_base.specs.Values.{interval_has, is_true_that}
use Rattle.wh_base.specs.declared.columns.Agg.{Agg}
use Rattle.wh_base.specs.declared.columns.Agg.TheVariants.{Avg, Count, CountAll, Max, Min, Sum}
use Rattle.wh_base.specs.declared.columns.ColRef.{ColRef}
use Rattle.wh_base.specs.declared.queries.Item.{Item}
use Rattle.wh_base.specs.declared.queries.StarQuery.{StarQuery}
use Rattle.wh_base.specs.declared.queries.Test.{Test}
use Rattle.wh_base.specs.declared.tables.Part.{Part}
use Rattle.wh_base.specs.declared.tables.RowAt.{RowAt}
use Rattle.wh_base.specs.declared.tables.TableDef.{TableDef}
use Rattle.wh_base.specs.declared.values.Interval.{Interval}
use Rattle.wh_base.specs.declared.values.Value.{Value}
use Rattle.wh_base.specs.declared.values.Value.TheVariants.{Null}
use Rattle.wh_base.specs.declared.views.ViewEntry.{ViewEntry}
use Rattle.def_meaning.specs.Joined.{column_value, conditions_true, joined_over, rows_at}
use Rattle.def_meaning.specs.Meaning.{Grouped, agg_value, either_value, greater, groups, key_value, lesser, not_null, sum_value}
use Rattle.def_meaning.specs.Ranges.{Seen, misses, seen}
use Rattle.def_restrictions.specs.Intervals.{intervals_meet}
use Rattle.def_rewriting.specs.Compatible.{linked, own_conditions}
use Rattle.def_rewriting.specs.PlanRows.{placed}
use Rattle.def_rewriting.specs.Reaching.{view_layout}
use Rattle.def_rewriting.specs.Rollup.{count_part, counts_value, origin, ratio_value, rolled, sum_by_part, sum_part}
use Rattle.wh_base.specs.declared.queries.Item.TheVariants as item

-- ---- what is grouped

-- A row of the view for fresh keys, or a tuple of base rows for stale ones.
pub data Source : Type 0 where
  Fresh : List Value → Source
  Stale : List RowAt → Source

-- The value of a column: in the view's row that of the first place where it stands, in the tuple that of the base row.
abbrev pub source_value : StarQuery → StarQuery → Source → ColRef → Value
source_value q v (Fresh row) c = placed (view_layout v) row c
source_value q v (Stale tuple) c = column_value q.tables tuple c

-- The view's rows among these, and the tuples.
abbrev pub fresh_row : Source → List (List Value)
fresh_row (Fresh row) = row ∷ []
fresh_row (Stale tuple) = []

abbrev pub stale_tuple : Source → List (List RowAt)
stale_tuple (Fresh row) = []
stale_tuple (Stale tuple) = tuple ∷ []

-- The key is stale: one of the intervals has it.
abbrev pub is_stale_key : List Interval → Value → Bool
is_stale_key stale key = list_any (λ i. interval_has i key) stale

-- The view's rows with a fresh key that meet the query's own conditions.
abbrev pub fresh_rows : StarQuery → StarQuery → ColRef → List Interval → List ViewEntry → List Source
fresh_rows q v key stale entries =
    let value : (List Value → ColRef → Value) = placed (view_layout v) in
    map Fresh (filter (λ r. not (is_stale_key stale (value r key)) && conditions_true (value r) (own_conditions q v)) (map (λ e. e.row) entries))

-- The query's tuples with a stale key, where each table has the rows given.
abbrev pub stale_tuples : StarQuery → ColRef → List Interval → (ℕ → List RowAt) → List Source
stale_tuples q key stale rows = map Stale (filter (λ t. is_stale_key stale (column_value q.tables t key)) (joined_over q rows))

-- ---- aggregates over both sides

-- The value of an aggregate from its values on the two sides: sums and counts add, of two extremes the better one stands, and
-- a side that is NULL is left out.
abbrev pub both_sides : Agg → Value → Value → Value
both_sides CountAll x y = counts_value (x ∷ y ∷ [])
both_sides (Count e) x y = counts_value (x ∷ y ∷ [])
both_sides (Sum e) x y = sum_value (filter not_null (x ∷ y ∷ []))
both_sides (Avg e) x y = ratio_value (sum_by_part sum_part (x ∷ y ∷ [])) (sum_by_part count_part (x ∷ y ∷ []))
both_sides (Min e) x y = either_value lesser x y
both_sides (Max e) x y = either_value greater x y

-- An aggregate of a group: over the view's rows it is rolled up from the view's, over the tuples it is computed.
abbrev pub concat_agg : List TableDef → StarQuery → StarQuery → List Source → Agg → Value
concat_agg defs q v sources a =
    both_sides a (option_case (origin defs (linked q v) v a) Null (rolled (flat_map fresh_row sources)))
    (agg_value (column_value q.tables) (flat_map stale_tuple sources) a)

-- An item of a group: a column from the group's key, or an aggregate.
abbrev pub concat_item : List TableDef → StarQuery → StarQuery → Grouped Source → Item → Value
concat_item defs q v g (item.Col c) = key_value q.keys g.0 c
concat_item defs q v g (item.Agg a) = concat_agg defs q v g.1 a

-- A test of HAVING over a group.
abbrev pub concat_test : List TableDef → StarQuery → StarQuery → Grouped Source → Test → Bool
concat_test defs q v g t = is_true_that (concat_agg defs q v g.1 t.agg) t.op t.value

-- One row for each group that meets HAVING, and without GROUP BY for the one group, also over nothing.
abbrev pub concat_groups : List TableDef → StarQuery → StarQuery → List Source → List (List Value)
concat_groups defs q v sources =
    map (λ g. map (concat_item defs q v g) q.items)
    (filter (λ g. list_all (concat_test defs q v g) q.having) (groups (source_value q v) q.keys sources))

-- The rows where the view has these entries and each table the rows given, not yet in order.
abbrev pub concat_over : List TableDef → StarQuery → StarQuery → ColRef → List Interval → List ViewEntry → (ℕ → List RowAt) → List (List Value)
concat_over defs q v key stale entries rows = concat_groups defs q v (fresh_rows q v key stale entries ++ stale_tuples q key stale rows)

-- The same over a base state.
abbrev pub concat_rows : List TableDef → Base → StarQuery → StarQuery → ColRef → List Interval → List ViewEntry → List (List Value)
concat_rows defs base q v key stale entries = concat_over defs q v key stale entries (rows_at base)

-- ---- reads

-- The partition is read: it meets a stale interval, and the query's interval of the key doesn't miss it.
abbrev pub is_read_part : StarQuery → ColRef → List Interval → Part × Interval → Bool
is_read_part q key stale p = list_any (intervals_meet p.1) stale && not (misses q key p.1)

-- The rows of the tracked table in such partitions.
abbrev pub rows_of_stale_parts : StarQuery → ColRef → List Interval → Seen → List RowAt
rows_of_stale_parts q key stale t =
    let numbers = map (λ p. p.0.number) (filter (is_read_part q key stale) (with_intervals None t.parts)) in
    filter (λ r. has_number numbers r.mark) t.rows

-- How many rows are read of a table of the query: those, and all of every other table.
abbrev pub concat_rows_read : StarQuery → ColRef → List Interval → (ℕ → Seen) → ℕ → ℕ
concat_rows_read q key stale see n = cond (n == key.table) (length (rows_of_stale_parts q key stale (see n))) (length (see n).rows)

-- How many base rows are read.
abbrev pub concat_reads_over : StarQuery → ColRef → List Interval → (ℕ → Seen) → ℕ
concat_reads_over q key stale see = sum_by (concat_rows_read q key stale see) q.tables

-- The same over a base state.
abbrev pub concat_reads : Base → StarQuery → ColRef → List Interval → ℕ
concat_reads base q key stale = concat_reads_over q key stale (λ n. seen (table_at base n))
