-- The entries and the rows of groups, from what is kept of them.
use Rattle.def_meaning.specs.Accumulated.{selected_aggs}
use Rattle.std.specs.Ordering.{ordering_reverse}
use Rattle.std.specs.declared.cmp.Ordering.{Ordering}
use Rattle.wh_base.specs.Tables.{value_at}
use Rattle.wh_base.specs.declared.queries.OrderKey.{OrderKey}
use Rattle.std.specs.Prelude.{Bool, List, [], cond, drop, false, filter, length, map, slice_get, true, ℕ, ◌&&◌, ◌+◌, ◌∷◌}
use Rattle.wh_base.specs.Lists.{option_case}
use Rattle.wh_base.specs.declared.columns.Agg.{Agg}
use Rattle.wh_base.specs.Columns.{same_column}
use Rattle.wh_base.specs.Values.{is_true_that, value_cmp}
use Rattle.wh_base.specs.declared.columns.ColRef.{ColRef}
use Rattle.wh_base.specs.declared.queries.Item.{Item}
use Rattle.wh_base.specs.declared.queries.Item.TheVariants as item
use Rattle.wh_base.specs.declared.queries.StarQuery.{StarQuery}
use Rattle.wh_base.specs.declared.queries.Test.{Test}
use Rattle.wh_base.specs.declared.values.Value.{Value}
use Rattle.wh_base.specs.declared.values.Value.TheVariants.{Null}
use Rattle.wh_base.specs.declared.views.ViewEntry.{ViewEntry}
use Rattle.wh_group.specs.Tallies.{Kept, tally_value}
use Rattle.wh_group.specs.declared.tally.Tally.{Tally}

-- the value beside the first column that is this one, NULL where there is none
abbrev pub value_beside : List ColRef → List Value → ColRef → Value
value_beside [] vs c = Null
value_beside (k ∷ ks) [] c = Null
value_beside (k ∷ ks) (v ∷ vs) c = cond (same_column c k) v (value_beside ks vs c)

-- the value of an aggregate by the tally at a place, NULL where there is none
abbrev pub tally_at : List Tally → ℕ → Agg → Value
tally_at ts at a = option_case (slice_get ts at) Null (tally_value a)

-- the value of an item, where the next aggregate has the tally at this place: a column has its value in the key
abbrev pub item_value : List ColRef → List Value → List Tally → ℕ → Item → Value
item_value keys key ts at (item.Col c) = value_beside keys key c
item_value keys key ts at (item.Agg a) = tally_at ts at a

-- the place of the next aggregate's tally after an item
abbrev pub next_place : ℕ → Item → ℕ
next_place at (item.Col c) = at
next_place at (item.Agg a) = at + 1

-- the values of items, where the first aggregate among them has the tally at this place
abbrev pub items_row : List ColRef → List Value → List Tally → ℕ → List Item → List Value
items_row keys key ts at [] = []
items_row keys key ts at (i ∷ more) = item_value keys key ts at i ∷ items_row keys key ts (next_place at i) more

-- all conditions of HAVING are true, each of the tally beside it
abbrev pub tests_true : List Test → List Tally → Bool
tests_true [] ts = true
tests_true (test ∷ more) [] = false
tests_true (test ∷ more) (t ∷ ts) = is_true_that (tally_value test.agg t) test.op test.value && tests_true more ts

-- the group meets HAVING
abbrev pub passes : StarQuery → Kept → Bool
passes q g = tests_true q.having (drop (length (selected_aggs q)) g.1)

-- the entry of a group
abbrev pub kept_entry : StarQuery → Kept → ViewEntry
kept_entry q g = record { key = g.0; row = items_row q.keys g.0 g.1 0 q.items }

-- one entry for each group that meets HAVING, in the order of the groups
abbrev pub kept_entries : StarQuery → List Kept → List ViewEntry
kept_entries q groups = map (kept_entry q) (filter (passes q) groups)

-- their rows alone
abbrev pub kept_rows : StarQuery → List Kept → List (List Value)
kept_rows q groups = map (λ g. items_row q.keys g.0 g.1 0 q.items) (filter (passes q) groups)

-- the order of two rows by one key of ORDER BY; DESC reverses it
abbrev pub key_cmp : OrderKey → List Value → List Value → Ordering
key_cmp k a b = let o = value_cmp (value_at a k.item) (value_at b k.item) in cond k.descending (ordering_reverse o) o
