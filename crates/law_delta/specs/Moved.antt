-- A group's row after changes: from its row before, and from what is kept of the new and of the old sides with its key.
use Rattle.std.specs.Prelude.{Bool, ◌++◌, ◌⊎◌, List, None, Option, Some, [], cond, false, filter, map, pos, suc, ℕ, ℤ, ◌+ℤ◌, ◌+◌, ◌-◌, ◌-ℤ◌, ◌==◌, ◌∷◌, ◌≡◌, ◌&&◌, is_none, true}
use Rattle.std.specs.List.{list_any}
use Rattle.wh_base.specs.Columns.{same_agg_by, same_expr}
use Rattle.wh_base.specs.Lists.{distinct, is_empty, option_case}
use Rattle.wh_base.specs.Values.{is_null, same_values}
use Rattle.wh_base.specs.declared.columns.Agg.{Agg}
use Rattle.wh_base.specs.declared.columns.Agg.TheVariants.{Avg, Count, CountAll, Max, Min, Sum}
use Rattle.wh_base.specs.declared.columns.ColRef.{ColRef}
use Rattle.wh_base.specs.declared.queries.Acc.{Acc}
use Rattle.wh_base.specs.declared.queries.Group.{Group}
use Rattle.wh_base.specs.declared.queries.Item.{Item}
use Rattle.wh_base.specs.declared.queries.StarQuery.{StarQuery}
use Rattle.wh_base.specs.declared.tables.RowAt.{RowAt}
use Rattle.wh_base.specs.declared.values.Value.{Value}
use Rattle.wh_base.specs.declared.values.Value.TheVariants.{Null, Num, Ratio}
use Rattle.wh_base.specs.declared.views.ViewEntry.{ViewEntry}
use Rattle.def_meaning.specs.Joined.{joined_over}
use Rattle.def_meaning.specs.Accumulated.{acc_of, acc_value, average_by}
use Rattle.def_meaning.specs.Meaning.{agg_value, either_value, greater, group_item, key_of, key_value, lesser}
use Rattle.wh_base.specs.declared.queries.Item.TheVariants as item

-- not MIN or MAX
abbrev pub IsAdded : Agg → Type 0
IsAdded (Min e) = ⊥
IsAdded (Max e) = ⊥
IsAdded a = Unit {0}

-- the count of what an aggregate ranges over
abbrev pub counting : Agg → Agg
counting CountAll = CountAll
counting (Count e) = Count e
counting (Sum e) = Count e
counting (Avg e) = Count e
counting (Min e) = Count e
counting (Max e) = Count e

-- the count that an item holds
abbrev pub count_in : Value → ℕ
count_in (Num (pos n)) = n
count_in (Ratio a) = suc a.more
count_in v = 0

-- the sum that an item holds
abbrev pub sum_in : Value → ℤ
sum_in (Num n) = n
sum_in (Ratio a) = a.sum
sum_in v = pos 0

-- what is kept before, with the new sides and without the old ones
abbrev pub moved_acc : Acc → Acc → Acc → Acc
moved_acc before news olds =
    record {
      rows = before.rows + news.rows - olds.rows;
      count = before.count + news.count - olds.count;
      sum = before.sum +ℤ news.sum -ℤ olds.sum;
      least = either_value lesser before.least news.least;
      greatest = either_value greater before.greatest news.greatest;
    }

-- what a row says of an aggregate, with the number of rows and of values
abbrev pub known_acc : ℕ → ℕ → Value → Acc
known_acc rows count v = record { rows = rows; count = count; sum = sum_in v; least = v; greatest = v }

abbrev pub moved_agg : (Agg → Value) → (Agg → Acc) → (Agg → Acc) → Agg → Value
moved_agg before news olds a = acc_value a (moved_acc (known_acc (count_in (before CountAll)) (count_in (before (counting a))) (before a)) (news a) (olds a))

-- ---- groups

-- what has this key
abbrev pub with_key : {T : Type 0} → (T → List Value) → List Value → List T → List T
with_key key k ts = filter (λ t. same_values (key t) k) ts

-- the row of the group with this key, where anything has it
abbrev pub group_row : {T : Type 0} → (T → ColRef → Value) → StarQuery → List Value → List T → Option (List Value)
group_row value q k ts =
    let found = with_key (key_of value q.keys) k ts in
    cond (is_empty found) None (Some (map (group_item value q.keys (k, found)) q.items))

-- the row of the entry with this key
abbrev pub found_row : List Value → List ViewEntry → Option (List Value)
found_row k [] = None
found_row k (e ∷ es) = cond (same_values e.key k) (Some e.row) (found_row k es)

abbrev pub moved_item : List ColRef → List Value → (Agg → Value) → (Agg → Acc) → (Agg → Acc) → Item → Value
moved_item keys k before news olds (item.Col c) = key_value keys k c
moved_item keys k before news olds (item.Agg a) = moved_agg before news olds a

-- the row after the changes; none where no row is left
abbrev pub moved_row : StarQuery → List Value → (Agg → Value) → (Agg → Acc) → (Agg → Acc) → Option (List Value)
moved_row q k before news olds =
    cond (count_in (moved_agg before news olds CountAll) == 0) None (Some (map (moved_item q.keys k before news olds) q.items))

-- all keys apart
abbrev pub KeysApart : List ViewEntry → Type 0
KeysApart [] = Unit {0}
KeysApart (e ∷ es) = (found_row e.key es ≡ None) × KeysApart es

-- ---- what a stored row says

-- an aggregate of nothing
abbrev pub agg_of_nothing : Agg → Value
agg_of_nothing CountAll = Num (pos 0)
agg_of_nothing (Count e) = Num (pos 0)
agg_of_nothing (Sum e) = Null
agg_of_nothing (Avg e) = Null
agg_of_nothing (Min e) = Null
agg_of_nothing (Max e) = Null

abbrev pub is_item_of : Agg → Item → Bool
is_item_of a (item.Col c) = false
is_item_of a (item.Agg b) = same_agg_by same_expr a b

-- the value of the first item that is this aggregate
abbrev pub value_in_row : List Item → List Value → Agg → Value
value_in_row [] vs a = Null
value_in_row (i ∷ is) [] a = Null
value_in_row (i ∷ is) (v ∷ vs) a = cond (is_item_of a i) v (value_in_row is vs a)

abbrev pub selects : List Item → Agg → Bool
selects items a = list_any (is_item_of a) items

-- A group that isn't there has no row. What isn't selected is the count of what is never NULL: COUNT(*) stands for it.
abbrev pub row_says : List Item → Option (List Value) → Agg → Value
row_says items None a = agg_of_nothing a
row_says items (Some vs) a = cond (selects items a) (value_in_row items vs a) (value_in_row items vs CountAll)

-- of each aggregate that is selected its count is too, or what it ranges over is never NULL in a group; none is MIN or MAX
abbrev pub Counted : {T : Type 0} → (T → ColRef → Value) → StarQuery → List T → Type 0
Counted value q before =
    (a : Agg) → selects q.items a ≡ true → IsAdded a × ((selects q.items (counting a) ≡ true) ⊎ ((k : List Value) → let found = with_key (key_of value q.keys) k before in agg_value value found (counting a) ≡ agg_value value found CountAll))

-- the row of a key after changes, from the entries before and the changed tuples
abbrev pub row_after : {T : Type 0} → (T → ColRef → Value) → StarQuery → List ViewEntry → List T → List T → List Value → Option (List Value)
row_after value q before olds news k =
    let at = with_key (key_of value q.keys) k in
    moved_row q k (row_says q.items (found_row k before)) (acc_of value (at news)) (acc_of value (at olds))

-- ---- a star of which one table, its root, changed

-- the rows of each table, with others for one of them
abbrev pub with_rows : ℕ → List RowAt → (ℕ → List RowAt) → ℕ → List RowAt
with_rows n sides rows m = cond (m == n) sides (rows m)

-- the tuples with these sides of the root, over the rows of the other tables
abbrev pub side_tuples : StarQuery → ℕ → List RowAt → (ℕ → List RowAt) → List (List RowAt)
side_tuples q root sides rows = joined_over q (with_rows root sides rows)

-- ---- inserts alone: each item moves by itself, MIN and MAX too

abbrev pub inserted_agg : Value → Acc → Agg → Value
inserted_agg v news CountAll = Num (pos (count_in v + news.rows))
inserted_agg v news (Count e) = Num (pos (count_in v + news.count))
inserted_agg v news (Sum e) = cond (is_null v && (news.count == 0)) Null (Num (sum_in v +ℤ news.sum))
inserted_agg v news (Avg e) = average_by (count_in v + news.count) (sum_in v +ℤ news.sum)
inserted_agg v news (Min e) = either_value lesser v news.least
inserted_agg v news (Max e) = either_value greater v news.greatest

abbrev pub inserted_item : List ColRef → List Value → (Agg → Value) → (Agg → Acc) → Item → Value
inserted_item keys k before news (item.Col c) = key_value keys k c
inserted_item keys k before news (item.Agg a) = inserted_agg (before a) (news a) a

-- the row of a key after inserts, from the entries before and the new tuples
abbrev pub row_inserted : {T : Type 0} → (T → ColRef → Value) → StarQuery → List ViewEntry → List T → List Value → Option (List Value)
row_inserted value q before news k =
    let new = with_key (key_of value q.keys) k news in
    let old = found_row k before in
    cond (is_none old && is_empty new) None (Some (map (inserted_item q.keys k (row_says q.items old) (acc_of value new)) q.items))

-- ---- without group columns

abbrev pub moved_single : {T : Type 0} → (T → ColRef → Value) → StarQuery → List ViewEntry → List T → List T → List ViewEntry
moved_single value q before olds news = record { key = []; row = map (moved_item q.keys [] (row_says q.items (found_row [] before)) (acc_of value news) (acc_of value olds)) q.items } ∷ []

-- the same after inserts alone
abbrev pub inserted_single : {T : Type 0} → (T → ColRef → Value) → StarQuery → List ViewEntry → List T → List ViewEntry
inserted_single value q before news = record { key = []; row = map (inserted_item q.keys [] (row_says q.items (found_row [] before)) (acc_of value news)) q.items } ∷ []

-- ---- the entries after changes, as a function

-- an entry for each of these keys that has a row
abbrev pub made_entries : (List Value → Option (List Value)) → List (List Value) → List ViewEntry
made_entries row [] = []
made_entries row (k ∷ ks) = option_case (row k) (made_entries row ks) (λ r. record { key = k; row = r } ∷ made_entries row ks)

abbrev pub delta_keys : {T : Type 0} → (T → ColRef → Value) → StarQuery → List ViewEntry → List T → List T → List (List Value)
delta_keys value q before olds news = map (λ e. e.key) before ++ map (key_of value q.keys) (olds ++ news)

abbrev pub delta_entries : {T : Type 0} → (T → ColRef → Value) → StarQuery → List ViewEntry → List T → List T → List ViewEntry
delta_entries value q before olds news = made_entries (row_after value q before olds news) (distinct same_values (delta_keys value q before olds news))

-- ---- groups as the grouping crate keeps them

-- the group with this key
abbrev pub found_group : List Value → List Group → Option Group
found_group k [] = None
found_group k (g ∷ gs) = cond (same_values g.key k) (Some g) (found_group k gs)
