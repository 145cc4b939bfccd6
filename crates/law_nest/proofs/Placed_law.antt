-- What a composed definition stores, by the places of the items of the view beneath.
use Rattle.std.proofs.Common.{◌≡◌, ◌∙◌, sym, ap, subst, refl, ℕ, Bool, true, false, cond, List, [], ◌∷◌, map, Option, Some, None}
use Rattle.std.specs.Prelude.{◌&&◌, is_none, is_some, not, option_and_then, option_map, unwrap_or}
use Rattle.std.specs.List.{filter, flat_map, list_all, list_any}
use Rattle.std.proofs.lemmas.List.Folds.{list_all-append}
use Rattle.std.proofs.lemmas.Bool.{and_parts, not-true}
use Rattle.std.proofs.lemmas.Simd.{map-map}
use Rattle.std.proofs.Math.Seq.{drop-append_seam}
use Rattle.wh_base.specs.Lists.{all_there, distinct, is_empty, option_case, sorted_by, where_true}
use Rattle.wh_base.specs.Values.{is_null, is_true_that, literal_value, same_values}
use Rattle.wh_base.proofs.Sorting.{SameCounts}
use Rattle.wh_base.specs.declared.columns.Agg.{Agg}
use Rattle.wh_base.specs.declared.columns.Agg.TheVariants.{Avg, Count, CountAll, Max, Min, Sum}
use Rattle.wh_base.specs.declared.columns.ColRef.{ColRef}
use Rattle.wh_base.specs.declared.queries.ColName.{ColName}
use Rattle.wh_base.specs.declared.queries.Condition.{Condition}
use Rattle.wh_base.specs.declared.queries.Item.{Item}
use Rattle.wh_base.specs.declared.queries.Item.TheVariants as item
use Rattle.wh_base.specs.declared.queries.RawAgg.{RawAgg}
use Rattle.wh_base.specs.declared.queries.RawAgg.TheVariants.{AvgOf, CountOf, CountRows, MaxOf, MinOf, SumOf}
use Rattle.wh_base.specs.declared.queries.RawCondition.{RawCondition}
use Rattle.wh_base.specs.declared.queries.RawCondition.TheVariants as raw
use Rattle.wh_base.specs.declared.queries.RawExpr.{RawExpr}
use Rattle.wh_base.specs.declared.queries.RawExpr.TheVariants.{Column, Constant, Times}
use Rattle.wh_base.specs.declared.queries.RawQuery.{RawQuery}
use Rattle.wh_base.specs.declared.queries.RawWhat.{RawWhat}
use Rattle.wh_base.specs.declared.queries.RawWhat.TheVariants as what
use Rattle.wh_base.specs.declared.queries.StarQuery.{StarQuery}
use Rattle.wh_base.specs.declared.tables.RowAt.{RowAt}
use Rattle.wh_base.specs.declared.values.Op.TheVariants.{Eq, Ge, Le}
use Rattle.wh_base.specs.declared.values.Value.{Value}
use Rattle.wh_base.specs.declared.views.ViewDef.{ViewDef}
use Rattle.wh_base.specs.declared.views.ViewEntry.{ViewEntry}
use Rattle.def_meaning.specs.Joined.{column_value, condition_true, conditions_true, joined_over}
use Rattle.def_meaning.specs.Meaning.{Grouped, agg_value, entries, entry_cmp, group_entry, group_item, groups, groups_by, key_of, max_value, min_value, not_null, stored_over, sum_value}
use Rattle.def_meaning.proofs.Entries.{same_entries_same_view}
use Rattle.def_nest.specs.Compose.{agg_beneath, column_beneath, composed_agg, composed_item, composed_query, condition_stands, greatest_taken, least_taken, may_be_nested, order_stands, parts_stand, summed}
use Rattle.def_nest.specs.Names.{grouped_column, item_of}
use Rattle.def_resolve.specs.Names.{no_column}
use Rattle.def_resolve.specs.Resolve.{item_is_grouped, resolved_condition}
use Rattle.law_lists.proofs.Counts.{SameCounts-filter, SameCounts-is, SameCounts-map}
use Rattle.law_lists.proofs.Folds.{each_of, max_same, min_same, sum_same}
use Rattle.law_lists.proofs.Groups.{Agree, Stands, Stands-filter, Stands-keys, Stands-part, groups_full}
use Rattle.law_lists.proofs.Each.{Each-filter, Each-map, Each-of_mapped, map_alike}
use Rattle.law_lists.proofs.Lists.{no_elements}
use Rattle.law_lists.proofs.Aggregates.{agg_by, of_values, wanted_values}
use Rattle.law_nest.specs.Each.{Each}
use Rattle.law_nest.specs.Laws.{ItemsAreGrouped, NestedPlaces}
use Rattle.law_nest.specs.Placed.{item_value, placed_agg, placed_column, placed_entry, placed_item, placed_values, placed_view}
use Rattle.law_nest.proofs.Meeting.{compared}
use Rattle.law_nest.proofs.Naming.{agg_is, column_is, item_among}
use Rattle.law_nest.proofs.Nested.{all_good, entries_are, groups_are, joined_is, pairs_full}
use Rattle.law_nest.proofs.Pairs.{Pairs, there_pairs}
use Rattle.law_nest.proofs.Placing.{IsSelected, agg_placed, column_placed, each_selected}
use Rattle.law_nest.proofs.Rolling.{Good, stored_rows, view_stands}
use Rattle.law_nest.proofs.Summing.{beneath_row, greatest_parts, least_parts, same_greatest, same_least, same_summed, some_group, summed_parts, whole_is}

pairs_second : {A B : Type 0} (R : A → B → Type 0) (P : B → Type 0) → ((x : A) (y : B) → R x y → P y) → (xs : List A) (ys : List B) → Pairs R xs ys → Each P ys
pairs_second R P k [] [] h = tt
pairs_second R P k [] (y ∷ ys) h = absurd h
pairs_second R P k (x ∷ xs) [] h = absurd h
pairs_second R P k (x ∷ xs) (y ∷ ys) h = (k x y h.0, pairs_second R P k xs ys h.1)

-- ---- what is named is selected

column_selected : (d : ViewDef) (c : ColName) (k : ColRef) → grouped_column d c ≡ Some k → IsSelected d.query (item.Col k)
column_selected d c k h = item_among d (λ i. IsSelected d.query i) (each_selected d.query.items) c (item.Col k) (column_is (item_of d c) k h)

agg_selected : (d : ViewDef) (e : RawExpr) (a : Agg) → agg_beneath d e ≡ Some a → IsSelected d.query (item.Agg a)
agg_selected d (Column c) a h = item_among d (λ i. IsSelected d.query i) (each_selected d.query.items) c (item.Agg a) (agg_is (item_of d c) a h)
agg_selected d (Times b c) a h = cc
agg_selected d (Constant n) a h = cc

-- an aggregate that isn't AVG
abbrev pub IsRolled : Agg → Type 0
IsRolled CountAll = Unit {0}
IsRolled (Count e) = Unit {0}
IsRolled (Sum e) = Unit {0}
IsRolled (Avg e) = ⊥
IsRolled (Min e) = Unit {0}
IsRolled (Max e) = Unit {0}

summed_rolled : (a b : Agg) → summed a ≡ Some b → IsRolled a
summed_rolled CountAll b h = tt
summed_rolled (Count e) b h = tt
summed_rolled (Sum e) b h = tt
summed_rolled (Avg e) b h = cc
summed_rolled (Min e) b h = cc
summed_rolled (Max e) b h = cc

least_rolled : (a b : Agg) → least_taken a ≡ Some b → IsRolled a
least_rolled CountAll b h = cc
least_rolled (Count e) b h = cc
least_rolled (Sum e) b h = cc
least_rolled (Avg e) b h = cc
least_rolled (Min e) b h = tt
least_rolled (Max e) b h = cc

greatest_rolled : (a b : Agg) → greatest_taken a ≡ Some b → IsRolled a
greatest_rolled CountAll b h = cc
greatest_rolled (Count e) b h = cc
greatest_rolled (Sum e) b h = cc
greatest_rolled (Avg e) b h = cc
greatest_rolled (Min e) b h = cc
greatest_rolled (Max e) b h = tt

abbrev pub IsPlaced : ViewDef → Item → Type 0
IsPlaced d (item.Col c) = Unit {0}
IsPlaced d (item.Agg a) = IsSelected d.query (item.Agg a) × IsRolled a

taken : (d : ViewDef) (take : Agg → Option Agg) → ((a b : Agg) → take a ≡ Some b → (a ≡ b) × IsRolled a) → (e : RawExpr) (b : Agg) → option_and_then take (agg_beneath d e) ≡ Some b → IsPlaced d (item.Agg b)
taken d take same e b h = by (agg_beneath d e) refl h
  where
    by : (o : Option Agg) → agg_beneath d e ≡ o → option_and_then take o ≡ Some b → IsPlaced d (item.Agg b)
    by None k h = cc
    by (Some a) k h = let both : (a ≡ b) × IsRolled a = same a b h in subst (λ x. IsPlaced d (item.Agg x)) both.0 (agg_selected d e a k, both.1)

agg_is_placed : (d : ViewDef) (r : RawAgg) (b : Agg) → composed_agg d r ≡ Some b → IsPlaced d (item.Agg b)
agg_is_placed d CountRows b h = cc
agg_is_placed d (CountOf e) b h = cc
agg_is_placed d (AvgOf e) b h = cc
agg_is_placed d (SumOf e) b h = taken d summed (λ a c k. (same_summed a c k, summed_rolled a c k)) e b h
agg_is_placed d (MinOf e) b h = taken d least_taken (λ a c k. (same_least a c k, least_rolled a c k)) e b h
agg_is_placed d (MaxOf e) b h = taken d greatest_taken (λ a c k. (same_greatest a c k, greatest_rolled a c k)) e b h

item_is_placed : (d : ViewDef) (w : RawWhat) (i : Item) → composed_item d w ≡ Some i → IsPlaced d i
item_is_placed d (what.Plain c) i h = by (grouped_column d c) h
  where
    by : (o : Option ColRef) → option_map item.Col o ≡ Some i → IsPlaced d i
    by None h = cc
    by (Some k) h = let same : item.Col k ≡ i = ap (λ o. option_case o (item.Col k) (λ z. z)) h in subst (IsPlaced d) same tt
item_is_placed d (what.Computed a) i h = by (composed_agg d a) refl h
  where
    by : (o : Option Agg) → composed_agg d a ≡ o → option_map item.Agg o ≡ Some i → IsPlaced d i
    by None e h = cc
    by (Some b) e h = let same : item.Agg b ≡ i = ap (λ o. option_case o (item.Agg b) (λ z. z)) h in subst (IsPlaced d) same (agg_is_placed d a b e)

-- ---- aggregates

module _ {T : Type 0} (value : T → ColRef → Value) (d : ViewDef) where
  placed_parts : (a : Agg) → IsSelected d.query (item.Agg a) → (gs : List (Grouped T)) → placed_values d.query (map (beneath_row value d) gs) a ≡ each_of (λ g. wanted_values value a g.1) (of_values a) gs
  placed_parts a there [] = refl
  placed_parts a there (g ∷ gs) =
      let one : item_value d.query (beneath_row value d g) (item.Agg a) ≡ of_values a (wanted_values value a g.1) = agg_placed value d g a there ∙ agg_by value a g.1 in
      λ i. cond (not_null (one i)) (one i ∷ placed_parts a there gs i) (placed_parts a there gs i)

  module _ (gs : List (Grouped T)) (rows : List (List Value)) (ts : List T) (s : Stands (beneath_row value d) gs rows ts) (full : is_empty ts ≡ false) where
    values_same : (a : Agg) → SameCounts (placed_values d.query rows a) (placed_values d.query (map (beneath_row value d) gs) a)
    values_same a =
        SameCounts-filter not_null (map (λ r. item_value d.query r (item.Agg a)) rows) (map (λ r. item_value d.query r (item.Agg a)) (map (beneath_row value d) gs))
        (SameCounts-map (λ r. item_value d.query r (item.Agg a)) rows (map (beneath_row value d) gs) s.rows_are)

    sums : (a : Agg) → summed a ≡ Some a → IsSelected d.query (item.Agg a) → sum_value (placed_values d.query rows a) ≡ agg_value value ts a
    sums a h there =
        sum_same (placed_values d.query rows a) (placed_values d.query (map (beneath_row value d) gs) a) (values_same a)
        ∙ ap sum_value (placed_parts a there gs)
        ∙ summed_parts (λ g. wanted_values value a g.1) a a h gs (some_group value d gs rows ts s full)
        ∙ whole_is value d a gs rows ts s

    pub placed_agg_is : (a : Agg) → IsPlaced d (item.Agg a) → placed_agg d.query rows a ≡ agg_value value ts a
    placed_agg_is CountAll h = sums CountAll refl h.0
    placed_agg_is (Count e) h = sums (Count e) refl h.0
    placed_agg_is (Sum e) h = sums (Sum e) refl h.0
    placed_agg_is (Avg e) h = absurd h.1
    placed_agg_is (Min e) h =
        min_same (placed_values d.query rows (Min e)) (placed_values d.query (map (beneath_row value d) gs) (Min e)) (values_same (Min e))
        ∙ ap min_value (placed_parts (Min e) h.0 gs)
        ∙ least_parts (λ g. wanted_values value (Min e) g.1) (Min e) (Min e) refl gs
        ∙ whole_is value d (Min e) gs rows ts s
    placed_agg_is (Max e) h =
        max_same (placed_values d.query rows (Max e)) (placed_values d.query (map (beneath_row value d) gs) (Max e)) (values_same (Max e))
        ∙ ap max_value (placed_parts (Max e) h.0 gs)
        ∙ greatest_parts (λ g. wanted_values value (Max e) g.1) (Max e) (Max e) refl gs
        ∙ whole_is value d (Max e) gs rows ts s

  -- ---- conditions

  module _ (grouped : ItemsAreGrouped d) (g : Grouped T) (t : T) (own : key_of value d.query.keys t ≡ g.0) where
    beneath_placed : (c : ColName) → is_some (grouped_column d c) ≡ true → value t (column_beneath d c) ≡ placed_column d.query (beneath_row value d g) (column_beneath d c)
    beneath_placed c h = by (grouped_column d c) refl h
      where
        by : (o : Option ColRef) → grouped_column d c ≡ o → is_some o ≡ true → value t (unwrap_or o no_column) ≡ placed_column d.query (beneath_row value d g) (unwrap_or o no_column)
        by None e k = cc
        by (Some x) e k = sym (column_placed value d g grouped t own x (column_selected d c x e))

    one_placed : (r : RawCondition) → condition_stands d r ≡ true
        → conditions_true (value t) (resolved_condition (column_beneath d) r) ≡ conditions_true (placed_column d.query (beneath_row value d g)) (resolved_condition (column_beneath d) r)
    one_placed (raw.Compare c op l) h =
        ap (λ x. is_true_that x op (literal_value l) && true) (beneath_placed c (compared value d grouped g t own (grouped_column d c) (l ∷ []) h))
    one_placed (raw.Between c l m) h =
        ap (λ x. is_true_that x Ge (literal_value l) && (is_true_that x Le (literal_value m) && true)) (beneath_placed c (compared value d grouped g t own (grouped_column d c) (l ∷ m ∷ []) h))
    one_placed (raw.Equal a b) h = cc
    one_placed (raw.OneOf c ls) h = ap (λ x. list_any (is_true_that x Eq) (map literal_value ls) && true) (beneath_placed c (compared value d grouped g t own (grouped_column d c) ls h))
    one_placed (raw.IsNull c) h = ap (λ x. is_null x && true) (beneath_placed c h)
    one_placed (raw.NotNull c) h = ap (λ x. not (is_null x) && true) (beneath_placed c h)

    all_placed : (rs : List RawCondition) → list_all (condition_stands d) rs ≡ true
        → conditions_true (value t) (flat_map (resolved_condition (column_beneath d)) rs) ≡ conditions_true (placed_column d.query (beneath_row value d g)) (flat_map (resolved_condition (column_beneath d)) rs)
    all_placed [] h = refl
    all_placed (r ∷ rs) h =
        let both : (condition_stands d r ≡ true) × (list_all (condition_stands d) rs ≡ true) = and_parts (condition_stands d r) (list_all (condition_stands d) rs) h in
        list_all-append (condition_true (value t)) (resolved_condition (column_beneath d) r) (flat_map (resolved_condition (column_beneath d)) rs)
        ∙ (λ i. one_placed r both.0 i && all_placed rs both.1 i)
        ∙ sym (list_all-append (condition_true (placed_column d.query (beneath_row value d g))) (resolved_condition (column_beneath d) r) (flat_map (resolved_condition (column_beneath d)) rs))

-- ---- the whole

module _ (q : RawQuery) (d : ViewDef) (items : List Item) (keys : List ColRef)
    (items_are : all_there (map (λ i. composed_item d i.what) q.items) ≡ Some items) (keys_are : all_there (map (grouped_column d) q.groups) ≡ Some keys)
    (grouped : d.query.grouped ≡ true) (plain : d.query.having ≡ []) (by_groups : is_empty q.groups ≡ false)
    (conditions : list_all (condition_stands d) q.conditions ≡ true) (selected : list_all (item_is_grouped keys) items ≡ true)
    (items_grouped : ItemsAreGrouped d) where
  abbrev pub n : StarQuery
  n = composed_query q d items keys

  abbrev pub own_conditions : List Condition
  own_conditions = flat_map (resolved_condition (column_beneath d)) q.conditions

  abbrev pub value : List RowAt → ColRef → Value
  value t = column_value d.query.tables t

  abbrev pub placed : List Value → ColRef → Value
  placed r = placed_column d.query r

  abbrev pub own_true : List RowAt → Bool
  own_true t = conditions_true (value t) own_conditions

  abbrev pub own_true' : List Value → Bool
  own_true' r = conditions_true (placed r) own_conditions

  above_keys : Pairs (λ c k. grouped_column d c ≡ Some k) q.groups keys
  above_keys = there_pairs (grouped_column d) q.groups keys keys_are

  keys_full : is_empty keys ≡ false
  keys_full = pairs_full (λ c k. grouped_column d c ≡ Some k) q.groups keys above_keys by_groups

  keys_selected : Each (λ k. IsSelected d.query (item.Col k)) keys
  keys_selected = pairs_second (λ c k. grouped_column d c ≡ Some k) (λ k. IsSelected d.query (item.Col k)) (column_selected d) q.groups keys above_keys

  items_placed : Each (IsPlaced d) items
  items_placed =
      pairs_second (λ i y. composed_item d i.what ≡ Some y) (IsPlaced d) (λ i y h. item_is_placed d i.what y h) q.items items (there_pairs (λ i. composed_item d i.what) q.items items items_are)

  keys_one : (g : Grouped (List RowAt)) (t : List RowAt) → key_of value d.query.keys t ≡ g.0 → key_of value keys t ≡ key_of placed keys (beneath_row value d g)
  keys_one g t own =
      map_alike (value t) (placed (beneath_row value d g)) keys
      (Each-map (λ k. IsSelected d.query (item.Col k)) (λ k. value t k ≡ placed (beneath_row value d g) k) (λ k there. sym (column_placed value d g items_grouped t own k there)) keys keys_selected)

  module _ (ts : List (List RowAt)) where
    abbrev pub all_groups : List (Grouped (List RowAt))
    all_groups = groups value d.query.keys ts

    abbrev pub met_groups : List (Grouped (List RowAt))
    met_groups = filter (λ g. own_true' (beneath_row value d g)) all_groups

    abbrev pub met_rows : List (List Value)
    met_rows = filter own_true' (stored_rows value d ts)

    abbrev pub met_tuples : List (List RowAt)
    met_tuples = filter own_true ts

    good : Each (Good value d) all_groups
    good = all_good q d items keys items_are keys_are grouped plain by_groups conditions selected items_grouped ts

    met_good : Each (Good value d) met_groups
    met_good = Each-filter (Good value d) (λ g. own_true' (beneath_row value d g)) all_groups good

    own_agree : Each (Agree (beneath_row value d) own_true own_true') all_groups
    own_agree =
        Each-map (Good value d) (Agree (beneath_row value d) own_true own_true')
        (λ g k. Each-map (λ t. key_of value d.query.keys t ≡ g.0) (λ t. own_true t ≡ own_true' (beneath_row value d g)) (λ t own. all_placed value d items_grouped g t own q.conditions conditions) g.1 k.1)
        all_groups good

    met_stand : Stands (beneath_row value d) met_groups met_rows met_tuples
    met_stand = Stands-filter (beneath_row value d) own_true own_true' all_groups (stored_rows value d ts) ts own_agree (view_stands value d ts grouped plain)

    met_full : Each (λ g. is_empty g.1 ≡ false) met_groups
    met_full = Each-map (Good value d) (λ g. is_empty g.1 ≡ false) (λ g k. k.0) met_groups met_good

    met_agree : Each (Agree (beneath_row value d) (key_of value keys) (key_of placed keys)) met_groups
    met_agree =
        Each-map (Good value d) (Agree (beneath_row value d) (key_of value keys) (key_of placed keys))
        (λ g k. Each-map (λ t. key_of value d.query.keys t ≡ g.0) (λ t. key_of value keys t ≡ key_of placed keys (beneath_row value d g)) (λ t. keys_one g t) g.1 k.1) met_groups met_good

    abbrev pub key_groups : List Value → List (Grouped (List RowAt))
    key_groups k = filter (λ g. same_values (key_of placed keys (beneath_row value d g)) k) met_groups

    abbrev pub key_rows : List Value → List (List Value)
    key_rows k = filter (λ r. same_values (key_of placed keys r) k) met_rows

    abbrev pub key_tuples : List Value → List (List RowAt)
    key_tuples k = filter (λ t. same_values (key_of value keys t) k) met_tuples

    one_item : (k : List Value) → is_empty (key_tuples k) ≡ false → (i : Item) → IsPlaced d i → placed_item d.query keys (k, key_rows k) i ≡ group_item value keys (k, key_tuples k) i
    one_item k full (item.Col c) h = refl
    one_item k full (item.Agg a) h =
        placed_agg_is value d (key_groups k) (key_rows k) (key_tuples k)
        (Stands-part (beneath_row value d) (key_of value keys) (key_of placed keys) k met_groups met_rows met_tuples met_agree met_stand) full a h

    abbrev pub placed_of : List Value → ViewEntry
    placed_of k = placed_entry d.query n (k, key_rows k)

    abbrev pub composed_of : List Value → ViewEntry
    composed_of k = group_entry value n (k, key_tuples k)

    row_is : (k : List Value) → is_empty (key_tuples k) ≡ false → map (placed_item d.query keys (k, key_rows k)) items ≡ map (group_item value keys (k, key_tuples k)) items
    row_is k full =
        map_alike (placed_item d.query keys (k, key_rows k)) (group_item value keys (k, key_tuples k)) items
        (Each-map (IsPlaced d) (λ i. placed_item d.query keys (k, key_rows k) i ≡ group_item value keys (k, key_tuples k) i) (one_item k full) items items_placed)

    entry_is : (k : List Value) → is_empty (key_tuples k) ≡ false → placed_of k ≡ composed_of k
    entry_is k full = λ i. record { key = k; row = row_is k full i }

    abbrev pub the_keys : List (List Value)
    the_keys = distinct same_values (map (key_of value keys) met_tuples)

    abbrev pub the_row_keys : List (List Value)
    the_row_keys = distinct same_values (map (key_of placed keys) met_rows)

    entries_alike : map placed_of the_keys ≡ map composed_of the_keys
    entries_alike =
        map_alike placed_of composed_of the_keys
        (Each-map (λ k. is_empty (key_tuples k) ≡ false) (λ k. placed_of k ≡ composed_of k) entry_is the_keys
        (Each-of_mapped (λ g. is_empty g.1 ≡ false) (λ k. (k, key_tuples k)) the_keys (groups_full (key_of value keys) met_tuples)))

    groups_same : SameCounts (map (placed_entry d.query n) (groups_by (key_of placed keys) met_rows)) (map (group_entry value n) (groups_by (key_of value keys) met_tuples))
    groups_same p =
        SameCounts-is (map (placed_entry d.query n) (groups_by (key_of placed keys) met_rows)) (map placed_of the_row_keys) (map-map (placed_entry d.query n) (λ k. (k, key_rows k)) the_row_keys) p
        ∙ SameCounts-map placed_of the_row_keys the_keys
        (Stands-keys (beneath_row value d) (key_of value keys) (key_of placed keys) met_groups met_rows met_tuples met_full met_agree met_stand) p
        ∙ SameCounts-is (map placed_of the_keys) (map composed_of the_keys) entries_alike p
        ∙ SameCounts-is (map composed_of the_keys) (map (group_entry value n) (groups_by (key_of value keys) met_tuples)) (sym (map-map (group_entry value n) (λ k. (k, key_tuples k)) the_keys)) p

  placed_is : (rows : ℕ → List RowAt) → stored_over n rows ≡ placed_view d.query n (stored_over d.query rows)
  placed_is rows =
      ap (λ us. sorted_by entry_cmp (entries value n us)) (joined_is q d items keys items_are keys_are grouped plain by_groups conditions selected items_grouped rows)
      ∙ ap (sorted_by entry_cmp) (entries_are q d items keys items_are keys_are grouped plain by_groups conditions selected items_grouped (met_tuples (joined_over d.query rows)))
      ∙ ap (λ gs. sorted_by entry_cmp (map (group_entry value n) gs)) (groups_are value (met_tuples (joined_over d.query rows)) keys keys_full)
      ∙ sym (same_entries_same_view (map (placed_entry d.query n) (groups_by (key_of placed keys) (met_rows (joined_over d.query rows))))
      (map (group_entry value n) (groups_by (key_of value keys) (met_tuples (joined_over d.query rows)))) (groups_same (joined_over d.query rows)))
      ∙ sym (ap (λ gs. sorted_by entry_cmp (map (placed_entry d.query n) gs)) (groups_are placed (met_rows (joined_over d.query rows)) keys keys_full))
      ∙ sym (ap (λ cs. sorted_by entry_cmp (map (placed_entry d.query n) (groups placed keys (filter (λ r. conditions_true (placed r) cs) (stored_rows value d (joined_over d.query rows))))))
      (drop-append_seam d.query.conditions own_conditions))

composed_placed : (q : RawQuery) (d : ViewDef) (items : List Item) (keys : List ColRef) (composed : StarQuery) → ItemsAreGrouped d
    → all_there (map (λ i. composed_item d i.what) q.items) ≡ Some items → all_there (map (grouped_column d) q.groups) ≡ Some keys
    → (b : Bool) → (may_be_nested q d && parts_stand q d items keys) ≡ b → where_true b (composed_query q d items keys) ≡ Some composed
    → (rows : ℕ → List RowAt) → stored_over composed rows ≡ placed_view d.query composed (stored_over d.query rows)
composed_placed q d items keys composed items_grouped items_are keys_are false e h rows = cc
composed_placed q d items keys composed items_grouped items_are keys_are true e h rows =
    let both : (may_be_nested q d ≡ true) × (parts_stand q d items keys ≡ true) = and_parts (may_be_nested q d) (parts_stand q d items keys) e in
    let one : (d.query.grouped ≡ true) × ((is_empty d.query.having && (not (is_empty q.groups) && (is_empty q.having && is_none q.as_of))) ≡ true)
    = and_parts d.query.grouped (is_empty d.query.having && (not (is_empty q.groups) && (is_empty q.having && is_none q.as_of))) both.0 in
    let two : (is_empty d.query.having ≡ true) × ((not (is_empty q.groups) && (is_empty q.having && is_none q.as_of)) ≡ true)
    = and_parts (is_empty d.query.having) (not (is_empty q.groups) && (is_empty q.having && is_none q.as_of)) one.1 in
    let three : (not (is_empty q.groups) ≡ true) × ((is_empty q.having && is_none q.as_of) ≡ true) = and_parts (not (is_empty q.groups)) (is_empty q.having && is_none q.as_of) two.1 in
    let four : (list_all (condition_stands d) q.conditions ≡ true) × ((list_all (item_is_grouped keys) items && list_all (λ k. order_stands d q items k.what) q.order) ≡ true)
    = and_parts (list_all (condition_stands d) q.conditions) (list_all (item_is_grouped keys) items && list_all (λ k. order_stands d q items k.what) q.order) both.1 in
    let five : (list_all (item_is_grouped keys) items ≡ true) × (list_all (λ k. order_stands d q items k.what) q.order ≡ true)
    = and_parts (list_all (item_is_grouped keys) items) (list_all (λ k. order_stands d q items k.what) q.order) four.1 in
    let same : composed_query q d items keys ≡ composed = ap (λ o. option_case o (composed_query q d items keys) (λ z. z)) h in
    subst (λ m. stored_over m rows ≡ placed_view d.query m (stored_over d.query rows)) same
    (placed_is q d items keys items_are keys_are one.0 (no_elements d.query.having two.0) (not-true (is_empty q.groups) three.0) four.0 five.0 items_grouped rows)

pub nested_places_law : NestedPlaces
nested_places_law q d composed rows items_grouped h = by_items (all_there (map (λ i. composed_item d i.what) q.items)) (all_there (map (grouped_column d) q.groups)) refl refl h
  where
    by_items : (o : Option (List Item)) (p : Option (List ColRef)) → all_there (map (λ i. composed_item d i.what) q.items) ≡ o → all_there (map (grouped_column d) q.groups) ≡ p
        → option_and_then (λ items. option_and_then (λ keys. where_true (may_be_nested q d && parts_stand q d items keys) (composed_query q d items keys)) p) o ≡ Some composed
        → stored_over composed rows ≡ placed_view d.query composed (stored_over d.query rows)
    by_items None p e f h = cc
    by_items (Some items) None e f h = cc
    by_items (Some items) (Some keys) e f h = composed_placed q d items keys composed items_grouped e f (may_be_nested q d && parts_stand q d items keys) refl h rows
