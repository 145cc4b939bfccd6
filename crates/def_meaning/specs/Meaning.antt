-- What a query gives: its groups, the entries that a view of it stores, and its rows in order.
-- Expressions, aggregates and groups are said of any list of things of which each column has a value (`value`):
-- of tuples for a query over base rows, and of the entries of a view for a rewritten query.
use Rattle.std.specs.List.{list_all}
use Rattle.std.specs.Ordering.{is_gt, is_lt, ordering_reverse, ordering_then}
use Rattle.std.specs.Prelude.{Bool, List, [], cond, filter, length, map, not, pos, position, ℕ, ℤ, ◌+ℤ◌, ◌∷◌}
use Rattle.std.specs.declared.cmp.Ordering.{Ordering}
use Rattle.std.specs.declared.cmp.Ordering.TheVariants.{Equal}
use Rattle.wh_base.specs.Columns.{same_column}
use Rattle.wh_base.specs.Lists.{distinct, option_case, sorted_by}
use Rattle.wh_base.specs.Tables.{Base, value_at}
use Rattle.wh_base.specs.Values.{is_null, is_true_that, product_value, same_values, value_cmp, values_cmp}
use Rattle.wh_base.specs.declared.columns.Agg.{Agg}
use Rattle.wh_base.specs.declared.columns.Agg.TheVariants.{Avg, Count, CountAll, Max, Min, Sum}
use Rattle.wh_base.specs.declared.columns.ColRef.{ColRef}
use Rattle.wh_base.specs.declared.columns.Expr.{Expr}
use Rattle.wh_base.specs.declared.queries.Item.{Item}
use Rattle.wh_base.specs.declared.queries.OrderKey.{OrderKey}
use Rattle.wh_base.specs.declared.queries.StarQuery.{StarQuery}
use Rattle.wh_base.specs.declared.queries.Test.{Test}
use Rattle.wh_base.specs.declared.tables.RowAt.{RowAt}
use Rattle.wh_base.specs.declared.values.Value.{Value}
use Rattle.wh_base.specs.declared.values.Value.TheVariants.{Null, Num, Ratio}
use Rattle.wh_base.specs.declared.views.ViewEntry.{ViewEntry}
use Rattle.def_meaning.specs.Joined.{column_value, joined_over, rows_at}
use Rattle.wh_base.specs.declared.columns.Expr.TheVariants as expr
use Rattle.wh_base.specs.declared.queries.Item.TheVariants as item

-- ---- expressions and aggregates

-- the value of a column, of a product of two columns (NULL where one is), or the number that is written
abbrev pub expr_value : (ColRef → Value) → Expr → Value
expr_value value (expr.Col c) = value c
expr_value value (expr.Product a b) = product_value (value a) (value b)
expr_value value (expr.Lit n) = Num n

-- the value isn't NULL
abbrev pub not_null : Value → Bool
not_null v = not (is_null v)

-- the values that the expression has in these things, without the NULLs
abbrev pub values_of : {T : Type 0} → (T → ColRef → Value) → Expr → List T → List Value
values_of value e ts = filter not_null (map (λ t. expr_value (value t) e) ts)

-- the number that a value is, and 0 where it is none
abbrev pub number_of : Value → ℤ
number_of (Num n) = n
number_of v = pos 0

-- the sum of these values, 0 over nothing
abbrev pub total_of : List Value → ℤ
total_of [] = pos 0
total_of (v ∷ vs) = number_of v +ℤ total_of vs

-- COUNT: how many there are
abbrev pub count_value : {A : Type 0} → List A → Value
count_value xs = Num (pos (length xs))

-- SUM: NULL over nothing
abbrev pub sum_value : List Value → Value
sum_value [] = Null
sum_value (v ∷ vs) = Num (total_of (v ∷ vs))

-- AVG: NULL over nothing, else the sum and the count, which isn't reduced. A pair keeps its count less one, so that no count is 0
abbrev pub avg_value : List Value → Value
avg_value [] = Null
avg_value (v ∷ vs) = Ratio (record { sum = total_of (v ∷ vs); more = length vs })

-- the lesser and the greater of two values in the order of values; the first where they are equal
abbrev pub lesser : Value → Value → Value
lesser v w = cond (is_gt (value_cmp v w)) w v

abbrev pub greater : Value → Value → Value
greater v w = cond (is_lt (value_cmp v w)) w v

-- the better of two values, and where one is NULL the other
abbrev pub either_value : (Value → Value → Value) → Value → Value → Value
either_value better Null w = w
either_value better v Null = v
either_value better v w = better v w

-- MIN and MAX: NULL over nothing
abbrev pub min_value : List Value → Value
min_value [] = Null
min_value (v ∷ vs) = either_value lesser v (min_value vs)

abbrev pub max_value : List Value → Value
max_value [] = Null
max_value (v ∷ vs) = either_value greater v (max_value vs)

-- the value of an aggregate over these things: COUNT(*) counts all of them, the others range over the values that aren't NULL
abbrev pub agg_value : {T : Type 0} → (T → ColRef → Value) → List T → Agg → Value
agg_value value ts CountAll = count_value ts
agg_value value ts (Count e) = count_value (values_of value e ts)
agg_value value ts (Sum e) = sum_value (values_of value e ts)
agg_value value ts (Avg e) = avg_value (values_of value e ts)
agg_value value ts (Min e) = min_value (values_of value e ts)
agg_value value ts (Max e) = max_value (values_of value e ts)

-- ---- groups

-- the key of a thing: its values of the group columns
abbrev pub key_of : {T : Type 0} → (T → ColRef → Value) → List ColRef → T → List Value
key_of value keys t = map (value t) keys

-- a group: a key, and all that has this key
abbrev pub Grouped : Type 0 → Type 0
Grouped T = List Value × List T

-- one group for each distinct key, in which NULL is the same as NULL
abbrev pub groups_by : {T : Type 0} → (T → List Value) → List T → List (Grouped T)
groups_by key ts = map (λ k. (k, filter (λ t. same_values (key t) k) ts)) (distinct same_values (map key ts))

-- the groups of GROUP BY; without it exactly one group, also over nothing
abbrev pub groups : {T : Type 0} → (T → ColRef → Value) → List ColRef → List T → List (Grouped T)
groups value [] ts = ([], ts) ∷ []
groups value (c ∷ cs) ts = groups_by (key_of value (c ∷ cs)) ts

-- the value of a group column in a key, and NULL for a column that is none of the group columns
abbrev pub key_value : List ColRef → List Value → ColRef → Value
key_value keys key c = option_case (position (same_column c) keys) Null (value_at key)

-- the value of an item of a grouped query in a group: a plain column has its value in the key
abbrev pub group_item : {T : Type 0} → (T → ColRef → Value) → List ColRef → Grouped T → Item → Value
group_item value keys g (item.Col c) = key_value keys g.0 c
group_item value keys g (item.Agg a) = agg_value value g.1 a

-- a condition of HAVING is true of a group
abbrev pub test_true : {T : Type 0} → (T → ColRef → Value) → Grouped T → Test → Bool
test_true value g test = is_true_that (agg_value value g.1 test.agg) test.op test.value

-- the value of an item of a query that isn't grouped; such a query has no aggregates
abbrev pub plain_item : (ColRef → Value) → Item → Value
plain_item value (item.Col c) = value c
plain_item value (item.Agg a) = Null

-- ---- stored entries and rows

-- the order of entries: by their keys and then by their rows, each value by value from the left
abbrev pub entry_cmp : ViewEntry → ViewEntry → Ordering
entry_cmp a b = ordering_then (values_cmp a.key b.key) (values_cmp a.row b.row)

-- the entry of a group: its key, and its row of items
abbrev pub group_entry : {T : Type 0} → (T → ColRef → Value) → StarQuery → Grouped T → ViewEntry
group_entry value q g = record { key = g.0; row = map (group_item value q.keys g) q.items }

-- one entry for each group that meets HAVING
abbrev pub grouped_entries : {T : Type 0} → (T → ColRef → Value) → StarQuery → List T → List ViewEntry
grouped_entries value q ts = map (group_entry value q) (filter (λ g. list_all (test_true value g) q.having) (groups value q.keys ts))

-- one entry for each thing, with no key
abbrev pub plain_entries : {T : Type 0} → (T → ColRef → Value) → StarQuery → List T → List ViewEntry
plain_entries value q ts = map (λ t. record { key = []; row = map (plain_item (value t)) q.items }) ts

-- the entries of a query over these things, in no order that counts
abbrev pub entries : {T : Type 0} → (T → ColRef → Value) → StarQuery → List T → List ViewEntry
entries value q ts = cond q.grouped (grouped_entries value q ts) (plain_entries value q ts)

-- what a view of this query stores where each table has the rows given: its entries in order
abbrev pub stored_over : StarQuery → (ℕ → List RowAt) → List ViewEntry
stored_over q rows = sorted_by entry_cmp (entries (column_value q.tables) q (joined_over q rows))

-- what a view of this query stores over a base state
abbrev pub stored : StarQuery → Base → List ViewEntry
stored q base = stored_over q (rows_at base)

-- the order of two rows by the keys of ORDER BY; DESC reverses a key, NULL included
abbrev pub order_cmp : List OrderKey → List Value → List Value → Ordering
order_cmp [] a b = Equal
order_cmp (k ∷ ks) a b =
    let o = value_cmp (value_at a k.item) (value_at b k.item) in
    ordering_then (cond k.descending (ordering_reverse o) o) (order_cmp ks a b)

-- the order of the rows of an answer: by ORDER BY, and then by all items from left to right, ascending
abbrev pub row_cmp : List OrderKey → List Value → List Value → Ordering
row_cmp order a b = ordering_then (order_cmp order a b) (values_cmp a b)

-- the rows, sorted as an answer with this ORDER BY
abbrev pub in_order : List OrderKey → List (List Value) → List (List Value)
in_order order rows = sorted_by (row_cmp order) rows

-- the rows of the answer where each table has the rows given
abbrev pub meaning_over : StarQuery → (ℕ → List RowAt) → List (List Value)
meaning_over q rows = in_order q.order (map (λ e. e.row) (stored_over q rows))

-- the meaning of a query over a base state: the rows of its answer, in order
abbrev pub meaning : StarQuery → Base → List (List Value)
meaning q base = meaning_over q (rows_at base)
