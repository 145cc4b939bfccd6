-- The same rows by the two definitions alone: the composed query over rows in which each item of the view beneath has its place.
use Rattle.std.specs.Prelude.{List, drop, filter, length, map, position}
use Rattle.wh_base.specs.Columns.{same_item}
use Rattle.wh_base.specs.Lists.{option_case, sorted_by}
use Rattle.wh_base.specs.Tables.{value_at}
use Rattle.wh_base.specs.declared.columns.Agg.{Agg}
use Rattle.wh_base.specs.declared.columns.Agg.TheVariants.{Avg, Count, CountAll, Max, Min, Sum}
use Rattle.wh_base.specs.declared.columns.ColRef.{ColRef}
use Rattle.wh_base.specs.declared.queries.Condition.{Condition}
use Rattle.wh_base.specs.declared.queries.Item.{Item}
use Rattle.wh_base.specs.declared.queries.Item.TheVariants as item
use Rattle.wh_base.specs.declared.queries.StarQuery.{StarQuery}
use Rattle.wh_base.specs.declared.values.Value.{Value}
use Rattle.wh_base.specs.declared.values.Value.TheVariants.{Null}
use Rattle.wh_base.specs.declared.views.ViewEntry.{ViewEntry}
use Rattle.def_meaning.specs.Joined.{conditions_true}
use Rattle.def_meaning.specs.Meaning.{Grouped, entry_cmp, groups, key_value, max_value, min_value, not_null, sum_value}

-- the value at the first place of this item; NULL where it isn't selected
abbrev pub item_value : StarQuery → List Value → Item → Value
item_value v row i = option_case (position (same_item i) v.items) Null (value_at row)

-- the value of a column that is selected
abbrev pub placed_column : StarQuery → List Value → ColRef → Value
placed_column v row c = item_value v row (item.Col c)

-- the conditions behind those of the view beneath
abbrev pub added_conditions : StarQuery → StarQuery → List Condition
added_conditions v n = drop (length v.conditions) n.conditions

-- the rows that these are true of
abbrev pub placed_rows : StarQuery → StarQuery → List (List Value) → List (List Value)
placed_rows v n rows = filter (λ r. conditions_true (placed_column v r) (added_conditions v n)) rows

-- the values of an aggregate in these rows, without the NULLs
abbrev pub placed_values : StarQuery → List (List Value) → Agg → List Value
placed_values v rows a = filter not_null (map (λ r. item_value v r (item.Agg a)) rows)

-- sums and counts add, and the least and the greatest stay; no AVG is composed
abbrev pub placed_agg : StarQuery → List (List Value) → Agg → Value
placed_agg v rows CountAll = sum_value (placed_values v rows CountAll)
placed_agg v rows (Count e) = sum_value (placed_values v rows (Count e))
placed_agg v rows (Sum e) = sum_value (placed_values v rows (Sum e))
placed_agg v rows (Avg e) = Null
placed_agg v rows (Min e) = min_value (placed_values v rows (Min e))
placed_agg v rows (Max e) = max_value (placed_values v rows (Max e))

-- the value of an item of the composed query
abbrev pub placed_item : StarQuery → List ColRef → Grouped (List Value) → Item → Value
placed_item v keys g (item.Col c) = key_value keys g.0 c
placed_item v keys g (item.Agg a) = placed_agg v g.1 a

abbrev pub placed_entry : StarQuery → StarQuery → Grouped (List Value) → ViewEntry
placed_entry v n g = record { key = g.0; row = map (placed_item v n.keys g) n.items }

-- what the composed query n stores over the entries of a view with the query v
abbrev pub placed_view : StarQuery → StarQuery → List ViewEntry → List ViewEntry
placed_view v n stored = sorted_by entry_cmp (map (placed_entry v n) (groups (placed_column v) n.keys (placed_rows v n (map (λ e. e.row) stored))))
