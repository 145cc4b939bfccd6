-- What is kept of each group while tuples are counted.
use Rattle.def_meaning.specs.Accumulated.{acc_by, acc_of, average_by, query_aggs, sum_by_count}
use Rattle.def_meaning.specs.Joined.{column_value}
use Rattle.def_meaning.specs.Meaning.{Grouped, either_value, expr_value, greater, groups, lesser, number_of}
use Rattle.std.specs.List.{All, list_all}
use Rattle.std.specs.Ordering.{is_gt}
use Rattle.std.specs.Prelude.{Bool, IsTrue, List, [], cond, map, nat_abs, not, pos, ◌&&◌, ◌*◌, ◌+ℤ◌, ◌+◌, ◌<◌, ◌^◌, ◌∷◌, ◌≤◌, ◌||◌, true}
use Rattle.wh_base.specs.Values.{is_null, same_values, value_cmp}
use Rattle.wh_base.specs.declared.columns.Agg.{Agg}
use Rattle.wh_base.specs.declared.columns.Agg.TheVariants.{Avg, Count, CountAll, Max, Min, Sum}
use Rattle.wh_base.specs.declared.columns.ColRef.{ColRef}
use Rattle.wh_base.specs.declared.queries.Acc.{Acc}
use Rattle.wh_base.specs.declared.queries.Item.{Item}
use Rattle.wh_base.specs.declared.queries.Item.TheVariants as item
use Rattle.wh_base.specs.declared.queries.StarQuery.{StarQuery}
use Rattle.wh_base.specs.declared.tables.RowAt.{RowAt}
use Rattle.wh_base.specs.declared.values.Value.{Value}
use Rattle.wh_base.specs.declared.values.Value.TheVariants.{Null, Num}
use Rattle.wh_tuple.specs.Meant.{is_small_expr, is_small_row}
use Rattle.wh_group.specs.declared.tally.Summed.{Summed}
use Rattle.wh_group.specs.declared.tally.Tally.{Tally}
use Rattle.wh_group.specs.declared.tally.Tally.TheVariants as tally

-- ---- one aggregate

-- the tally of an aggregate: what it needs of what is kept of a group
abbrev pub tally_by : Agg → Acc → Tally
tally_by CountAll a = tally.Rows a.rows
tally_by (Count e) a = tally.Values a.count
tally_by (Sum e) a = tally.Sum (record { count = a.count; sum = a.sum })
tally_by (Avg e) a = tally.Sum (record { count = a.count; sum = a.sum })
tally_by (Min e) a = tally.Least a.least
tally_by (Max e) a = tally.Greatest a.greatest

-- the value of an aggregate by its tally
abbrev pub tally_value : Agg → Tally → Value
tally_value a (tally.Rows n) = Num (pos n)
tally_value a (tally.Values n) = Num (pos n)
tally_value (Avg e) (tally.Sum s) = average_by s.count s.sum
tally_value a (tally.Sum s) = sum_by_count s.count s.sum
tally_value a (tally.Least v) = v
tally_value a (tally.Greatest v) = v

-- what an aggregate counts in a thing; COUNT(*) looks at nothing in it
abbrev pub counted : (ColRef → Value) → Agg → Value
counted value CountAll = Null
counted value (Count e) = expr_value value e
counted value (Sum e) = expr_value value e
counted value (Avg e) = expr_value value e
counted value (Min e) = expr_value value e
counted value (Max e) = expr_value value e

-- one more value of a sum; NULL leaves it as it is
abbrev pub sum_with : Value → Summed → Summed
sum_with v s = cond (is_null v) s (record { count = s.count + 1; sum = s.sum +ℤ number_of v })

-- a value takes the place of the greatest one so far; NULL never does, and gives way to all others
abbrev pub is_above : Value → Value → Bool
is_above kept v = not (is_null v) && (is_null kept || is_gt (value_cmp v kept))

-- one more thing, with this value
abbrev pub tally_with : Value → Tally → Tally
tally_with v (tally.Rows n) = tally.Rows (n + 1)
tally_with v (tally.Values n) = tally.Values (cond (is_null v) n (n + 1))
tally_with v (tally.Sum s) = tally.Sum (sum_with v s)
tally_with v (tally.Least w) = tally.Least (either_value lesser w v)
tally_with v (tally.Greatest w) = tally.Greatest (either_value greater w v)

-- two parts of a group put together: counts and sums add, the lesser and the greater value stay
abbrev pub merged_sum : Summed → Summed → Summed
merged_sum s t = record { count = s.count + t.count; sum = s.sum +ℤ t.sum }

abbrev pub merged_tally : Tally → Tally → Tally
merged_tally (tally.Rows m) (tally.Rows n) = tally.Rows (m + n)
merged_tally (tally.Values m) (tally.Values n) = tally.Values (m + n)
merged_tally (tally.Sum s) (tally.Sum t) = tally.Sum (merged_sum s t)
merged_tally (tally.Least v) (tally.Least w) = tally.Least (either_value lesser v w)
merged_tally (tally.Greatest v) (tally.Greatest w) = tally.Greatest (either_value greater v w)
merged_tally t u = t

-- a number of at most 10^30 in size, which a product of two small numbers is, or none
abbrev pub IsBounded : Value → Type 0
IsBounded v = nat_abs (number_of v) ≤ 10 ^ 30

-- one more thing can't leave 64 bits of a count and 128 of a sum
abbrev pub HasRoom : Tally → Type 0
HasRoom (tally.Rows n) = n < 2 ^ 20
HasRoom (tally.Values n) = n < 2 ^ 20
HasRoom (tally.Sum s) = (s.count < 2 ^ 20) × (nat_abs s.sum ≤ s.count * 10 ^ 30)
HasRoom (tally.Least v) = Unit {0}
HasRoom (tally.Greatest v) = Unit {0}

-- ---- the aggregates of a query

-- the tallies before the first thing
abbrev pub begun : List Agg → List Tally
begun aggs = map (λ a. tally_by a (acc_by 0 [])) aggs

-- one more thing, for each aggregate with its tally
abbrev pub tallies_with : (Agg → Value) → List Agg → List Tally → List Tally
tallies_with value [] ts = ts
tallies_with value (a ∷ more) [] = []
tallies_with value (a ∷ more) (t ∷ ts) = tally_with (value a) t ∷ tallies_with value more ts

-- the tallies of two parts of a group put together, one by one
abbrev pub merged_each : List Tally → List Tally → List Tally
merged_each [] us = []
merged_each (t ∷ ts) [] = t ∷ ts
merged_each (t ∷ ts) (u ∷ us) = merged_tally t u ∷ merged_each ts us

-- the same, where nothing is kept of the first part yet
abbrev pub merged_tallies : List Tally → List Tally → List Tally
merged_tallies [] us = us
merged_tallies (t ∷ ts) us = merged_each (t ∷ ts) us

-- ---- groups

-- a group's key, and a tally for each aggregate of the query
abbrev pub Kept : Type 0
Kept = List Value × List Tally

-- a group of things as it is kept
abbrev pub kept : {T : Type 0} → (T → ColRef → Value) → List Agg → Grouped T → Kept
kept value aggs g = (g.0, map (λ a. tally_by a (acc_of value g.1 a)) aggs)

-- the groups of a query over these things, as they are kept
abbrev pub kept_groups : {T : Type 0} → (T → ColRef → Value) → StarQuery → List T → List Kept
kept_groups value q ts = map (kept value (query_aggs q)) (groups value q.keys ts)

-- the groups before the first thing
abbrev pub first_groups : List ColRef → List Agg → List Kept
first_groups [] aggs = ([], begun aggs) ∷ []
first_groups (c ∷ more) aggs = []

abbrev pub HaveRoom : List Kept → Type 0
HaveRoom groups = All (λ g. All HasRoom g.1) groups

-- the group of this key is changed, or comes last where there is none, from what is kept of no things
abbrev pub change_group : List Value → (List Tally → List Tally) → List Tally → List Kept → List Kept
change_group key change first [] = (key, change first) ∷ []
change_group key change first (g ∷ gs) = cond (same_values key g.0) ((g.0, change g.1) ∷ gs) (g ∷ change_group key change first gs)

-- the groups of a query after one more tuple
abbrev pub groups_with : StarQuery → List Agg → List RowAt → List Kept → List Kept
groups_with q aggs tuple groups =
    let value = column_value q.tables tuple in
    change_group (map value q.keys) (tallies_with (counted value) aggs) (begun aggs) groups

-- the groups of two parts put together: those of the first, and then the new ones
abbrev pub merged_groups : List Kept → List Kept → List Kept
merged_groups groups [] = groups
merged_groups groups (g ∷ more) = merged_groups (change_group g.0 (λ ts. merged_tallies ts g.1) [] groups) more

-- ---- small numbers

-- the number that the aggregate ranges over, where it is written
abbrev pub is_small_agg : Agg → Bool
is_small_agg CountAll = true
is_small_agg (Count e) = is_small_expr e
is_small_agg (Sum e) = is_small_expr e
is_small_agg (Avg e) = is_small_expr e
is_small_agg (Min e) = is_small_expr e
is_small_agg (Max e) = is_small_expr e

-- each number that is written in an aggregate of the query is below 10^15 in size
abbrev pub HasSmallAggs : StarQuery → Type 0
HasSmallAggs q = IsTrue (list_all is_small_agg (query_aggs q))

-- each number in the tuples is
abbrev pub AreSmallTuples : List (List RowAt) → Type 0
AreSmallTuples tuples = IsTrue (list_all (list_all is_small_row) tuples)

-- the number that is written in an item's aggregate is
abbrev pub small_item : Item → Bool
small_item (item.Col c) = true
small_item (item.Agg a) = is_small_agg a
