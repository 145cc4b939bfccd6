-- Groups as they are kept while they are counted: for each aggregate how many rows there are, and of the values that
-- aren't NULL the count, the sum, the least and the greatest. An aggregate has its value from these five alone,
-- and two parts of a group are put together by adding them up; both are proved in the laws of this crate.
use Rattle.std.specs.Prelude.{List, [], flat_map, length, map, pos, suc, zero, ℕ, ℤ, ◌++◌, ◌+ℤ◌, ◌+◌, ◌∷◌}
use Rattle.wh_base.specs.declared.columns.Agg.{Agg}
use Rattle.wh_base.specs.declared.columns.Agg.TheVariants.{Avg, Count, CountAll, Max, Min, Sum}
use Rattle.wh_base.specs.declared.columns.ColRef.{ColRef}
use Rattle.wh_base.specs.declared.queries.Acc.{Acc}
use Rattle.wh_base.specs.declared.queries.Group.{Group}
use Rattle.wh_base.specs.declared.queries.Item.{Item}
use Rattle.wh_base.specs.declared.queries.StarQuery.{StarQuery}
use Rattle.wh_base.specs.declared.values.Value.{Value}
use Rattle.wh_base.specs.declared.values.Value.TheVariants.{Null, Num, Ratio}
use Rattle.def_meaning.specs.Meaning.{Grouped, either_value, greater, groups, lesser, max_value, min_value, total_of, values_of}
use Rattle.wh_base.specs.declared.queries.Item.TheVariants as item

-- the aggregate of an item, where it has one
abbrev pub item_aggs : Item → List Agg
item_aggs (item.Col c) = []
item_aggs (item.Agg a) = a ∷ []

-- the aggregates among the items of a query
abbrev pub selected_aggs : StarQuery → List Agg
selected_aggs q = flat_map item_aggs q.items

-- all aggregates of a query: those of the items, and then those of HAVING
abbrev pub query_aggs : StarQuery → List Agg
query_aggs q = selected_aggs q ++ map (λ t. t.agg) q.having

-- the values that an aggregate ranges over, without the NULLs; COUNT(*) has no expression and so no values
abbrev pub agg_values : {T : Type 0} → (T → ColRef → Value) → List T → Agg → List Value
agg_values value ts CountAll = []
agg_values value ts (Count e) = values_of value e ts
agg_values value ts (Sum e) = values_of value e ts
agg_values value ts (Avg e) = values_of value e ts
agg_values value ts (Min e) = values_of value e ts
agg_values value ts (Max e) = values_of value e ts

-- what is kept of so many rows with these values
abbrev pub acc_by : ℕ → List Value → Acc
acc_by rows vs = record { rows = rows; count = length vs; sum = total_of vs; least = min_value vs; greatest = max_value vs }

-- what is kept for an aggregate over these things
abbrev pub acc_of : {T : Type 0} → (T → ColRef → Value) → List T → Agg → Acc
acc_of value ts a = acc_by (length ts) (agg_values value ts a)

-- a group as it is kept: its key, and what is kept for each aggregate of the query
abbrev pub group_of : {T : Type 0} → (T → ColRef → Value) → StarQuery → Grouped T → Group
group_of value q g = record { key = g.0; parts = map (acc_of value g.1) (query_aggs q) }

-- the groups of a query over these things, as they are kept
abbrev pub groups_of : {T : Type 0} → (T → ColRef → Value) → StarQuery → List T → List Group
groups_of value q ts = map (group_of value q) (groups value q.keys ts)

-- ---- the value of an aggregate from what is kept of it

-- the pair of a count and a sum, and NULL where the count is 0
abbrev pub average_by : ℕ → ℤ → Value
average_by zero n = Null
average_by (suc m) n = Ratio (record { sum = n; more = m })

-- the sum, and NULL where the count is 0
abbrev pub sum_by_count : ℕ → ℤ → Value
sum_by_count zero n = Null
sum_by_count (suc m) n = Num n

-- the value of an aggregate by what is kept for it
abbrev pub acc_value : Agg → Acc → Value
acc_value CountAll a = Num (pos a.rows)
acc_value (Count e) a = Num (pos a.count)
acc_value (Sum e) a = sum_by_count a.count a.sum
acc_value (Avg e) a = average_by a.count a.sum
acc_value (Min e) a = a.least
acc_value (Max e) a = a.greatest

-- ---- two parts together

-- what is kept of two parts of a group, put together: counts and sums add, the lesser and the greater value stay
abbrev pub merged_acc : Acc → Acc → Acc
merged_acc a b =
    record {
      rows = a.rows + b.rows;
      count = a.count + b.count;
      sum = a.sum +ℤ b.sum;
      least = either_value lesser a.least b.least;
      greatest = either_value greater a.greatest b.greatest;
    }
