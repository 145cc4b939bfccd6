-- What a composed definition stores is the query above over the rows of the view beneath.
use Rattle.std.proofs.Common.{◌≡◌, ◌∙◌, sym, ap, subst, refl, ℕ, Bool, true, false, cond, List, [], ◌∷◌, map, Option, Some, None}
use Rattle.std.specs.Prelude.{◌&&◌, is_none, not, option_and_then}
use Rattle.std.specs.List.{filter, flat_map, list_all}
use Rattle.std.proofs.lemmas.List.Folds.{list_all-append}
use Rattle.std.proofs.lemmas.Bool.{and_parts, not-true}
use Rattle.std.proofs.lemmas.Simd.{map-map}
use Rattle.std.proofs.Math.Bool.{and_assoc}
use Rattle.wh_base.specs.Columns.{has_column}
use Rattle.wh_base.specs.Lists.{all_there, distinct, is_empty, option_case, sorted_by, where_true}
use Rattle.wh_base.specs.Values.{same_values}
use Rattle.wh_base.proofs.Same.{same_values-Decides}
use Rattle.wh_base.proofs.Sorting.{SameCounts}
use Rattle.wh_base.specs.declared.values.Value.{Value}
use Rattle.wh_base.specs.declared.columns.ColRef.{ColRef}
use Rattle.wh_base.specs.declared.queries.Condition.{Condition}
use Rattle.wh_base.specs.declared.queries.Item.{Item}
use Rattle.wh_base.specs.declared.queries.RawQuery.{RawQuery}
use Rattle.wh_base.specs.declared.queries.StarQuery.{StarQuery}
use Rattle.wh_base.specs.declared.tables.RowAt.{RowAt}
use Rattle.wh_base.specs.declared.views.ViewDef.{ViewDef}
use Rattle.wh_base.specs.declared.views.ViewEntry.{ViewEntry}
use Rattle.def_meaning.specs.Joined.{column_value, condition_true, conditions_true, edge_true, joined_over, product, rows_at, tuple_true}
use Rattle.def_meaning.specs.Meaning.{Grouped, entries, entry_cmp, group_entry, group_item, grouped_entries, groups, groups_by, key_of, plain_entries, stored_over, test_true}
use Rattle.def_meaning.proofs.Entries.{same_entries_same_view}
use Rattle.def_nest.specs.Compose.{column_beneath, composed_item, composed_query, condition_stands, may_be_nested, order_stands, parts_stand}
use Rattle.def_nest.specs.Names.{grouped_column}
use Rattle.def_resolve.specs.Resolve.{item_is_grouped, resolved_condition}
use Rattle.law_lists.proofs.Counts.{SameCounts-is, SameCounts-map}
use Rattle.law_lists.proofs.Groups.{Agree, Stands, Stands-filter, Stands-keys, Stands-part, groups_full}
use Rattle.law_lists.proofs.Each.{Each-filter, Each-map, Each-passes, Each-both, Each-of_mapped, Each-from_all, map_alike}
use Rattle.law_lists.proofs.Lists.{no_elements, filter_true, filter-filter}
use Rattle.law_nest.specs.Each.{Each}
use Rattle.law_nest.specs.Laws.{ItemsAreGrouped, NestedMeans, NestedRolls}
use Rattle.law_nest.specs.Rolled.{rolled_entry, rolled_item, rolled_view, row_key, row_true}
use Rattle.law_nest.proofs.Meeting.{Keeps, all_true, groups_keep}
use Rattle.law_nest.proofs.Naming.{named_column}
use Rattle.law_nest.proofs.Pairs.{Pairs, pairs_map, there_pairs}
use Rattle.law_nest.proofs.Rolling.{Good, item_is, keys_agree, stored_rows, view_stands}
use Rattle.law_nest.proofs.Summing.{beneath_row}

-- ---- lists

pub pairs_full : {A B : Type 0} (R : A → B → Type 0) (xs : List A) (ys : List B) → Pairs R xs ys → is_empty xs ≡ false → is_empty ys ≡ false
pairs_full R [] ys p h = cc
pairs_full R (x ∷ xs) [] p h = absurd p
pairs_full R (x ∷ xs) (y ∷ ys) p h = refl

has_full : (ks : List ColRef) (k : ColRef) → has_column ks k ≡ true → is_empty ks ≡ false
has_full [] k h = cc
has_full (c ∷ cs) k h = refl

-- a group column above is one beneath
keys_beneath : (d : ViewDef) → ItemsAreGrouped d → (q : RawQuery) (keys : List ColRef) → Pairs (λ c k. grouped_column d c ≡ Some k) q.groups keys → is_empty q.groups ≡ false → is_empty d.query.keys ≡ false
keys_beneath d items_grouped q keys p h = by q.groups keys p h
  where
    by : (cs : List _) (ks : List ColRef) → Pairs (λ c k. grouped_column d c ≡ Some k) cs ks → is_empty cs ≡ false → is_empty d.query.keys ≡ false
    by [] ks p h = cc
    by (c ∷ cs) [] p h = absurd p
    by (c ∷ cs) (k ∷ ks) p h = has_full d.query.keys k (named_column d items_grouped c k p.0)

module _ {T : Type 0} (value : T → ColRef → Value) (ts : List T) where
  pub groups_are : (keys : List ColRef) → is_empty keys ≡ false → groups value keys ts ≡ groups_by (key_of value keys) ts
  groups_are [] h = cc
  groups_are (c ∷ cs) h = refl

  groups_filled : (keys : List ColRef) → is_empty keys ≡ false → Each (λ g. is_empty g.1 ≡ false) (groups value keys ts)
  groups_filled [] h = cc
  groups_filled (c ∷ cs) h = groups_full (key_of value (c ∷ cs)) ts

-- ---- the composed definition

module _ (q : RawQuery) (d : ViewDef) (items : List Item) (keys : List ColRef)
    (items_are : all_there (map (λ i. composed_item d i.what) q.items) ≡ Some items) (keys_are : all_there (map (grouped_column d) q.groups) ≡ Some keys)
    (grouped : d.query.grouped ≡ true) (plain : d.query.having ≡ []) (by_groups : is_empty q.groups ≡ false)
    (conditions : list_all (condition_stands d) q.conditions ≡ true) (selected : list_all (item_is_grouped keys) items ≡ true)
    (items_grouped : ItemsAreGrouped d) where
  abbrev pub own_conditions : List Condition
  own_conditions = flat_map (resolved_condition (column_beneath d)) q.conditions

  abbrev pub value : List RowAt → ColRef → Value
  value t = column_value d.query.tables t

  abbrev pub own_true : List RowAt → Bool
  own_true t = conditions_true (value t) own_conditions

  abbrev pub own_true' : List Value → Bool
  own_true' r = list_all (row_true d r) q.conditions

  tuple_is : (t : List RowAt) → tuple_true (composed_query q d items keys) t ≡ (tuple_true d.query t && own_true t)
  tuple_is t =
      ap (λ b. list_all (edge_true (value t)) d.query.edges && b) (list_all-append (condition_true (value t)) d.query.conditions own_conditions)
      ∙ sym (and_assoc (list_all (edge_true (value t)) d.query.edges) (conditions_true (value t) d.query.conditions) (own_true t))

  -- the composed tuples are those of the view beneath that meet the conditions above
  pub joined_is : (rows : ℕ → List RowAt) → joined_over (composed_query q d items keys) rows ≡ filter own_true (joined_over d.query rows)
  joined_is rows = ap (λ p. filter p (product (map rows d.query.tables))) (λ i t. tuple_is t i) ∙ sym (filter-filter own_true (tuple_true d.query) (product (map rows d.query.tables)))

  pub entries_are : (us : List (List RowAt)) → entries value (composed_query q d items keys) us ≡ map (group_entry value (composed_query q d items keys)) (groups value keys us)
  entries_are us =
      ap (λ b. cond b (grouped_entries value (composed_query q d items keys) us) (plain_entries value (composed_query q d items keys) us)) grouped
      ∙ ap (λ tests. map (group_entry value (composed_query q d items keys)) (filter (λ g. list_all (test_true value g) tests) (groups value keys us))) plain
      ∙ ap (map (group_entry value (composed_query q d items keys))) (filter_true (groups value keys us))

  above_keys : Pairs (λ c k. grouped_column d c ≡ Some k) q.groups keys
  above_keys = there_pairs (grouped_column d) q.groups keys keys_are

  module _ (ts : List (List RowAt)) where
    -- the groups of the view, those that meet the conditions, and the rows and tuples of these
    abbrev pub all_groups : List (Grouped (List RowAt))
    all_groups = groups value d.query.keys ts

    abbrev pub met_groups : List (Grouped (List RowAt))
    met_groups = filter (λ g. own_true' (beneath_row value d g)) all_groups

    abbrev pub met_rows : List (List Value)
    met_rows = filter own_true' (stored_rows value d ts)

    abbrev pub met_tuples : List (List RowAt)
    met_tuples = filter own_true ts

    pub all_good : Each (Good value d) all_groups
    all_good =
        Each-both (λ g. is_empty g.1 ≡ false) (Keeps value d.query.keys) all_groups
        (groups_filled value ts d.query.keys (keys_beneath d items_grouped q keys above_keys by_groups)) (groups_keep value d.query.keys ts)

    met_good : Each (Good value d) met_groups
    met_good = Each-filter (Good value d) (λ g. own_true' (beneath_row value d g)) all_groups all_good

    own_agree : Each (Agree (beneath_row value d) own_true own_true') all_groups
    own_agree =
        Each-map (Good value d) (Agree (beneath_row value d) own_true own_true')
        (λ g k. Each-map (λ t. key_of value d.query.keys t ≡ g.0) (λ t. own_true t ≡ own_true' (beneath_row value d g)) (λ t own. all_true value d items_grouped g t own q.conditions conditions) g.1 k.1)
        all_groups all_good

    met_stand : Stands (beneath_row value d) met_groups met_rows met_tuples
    met_stand = Stands-filter (beneath_row value d) own_true own_true' all_groups (stored_rows value d ts) ts own_agree (view_stands value d ts grouped plain)

    met_full : Each (λ g. is_empty g.1 ≡ false) met_groups
    met_full = Each-map (Good value d) (λ g. is_empty g.1 ≡ false) (λ g k. k.0) met_groups met_good

    met_agree : Each (Agree (beneath_row value d) (key_of value keys) (row_key q d)) met_groups
    met_agree = keys_agree value d items_grouped q keys keys_are met_groups met_good

    -- of one key
    abbrev pub key_groups : List Value → List (Grouped (List RowAt))
    key_groups k = filter (λ g. same_values (row_key q d (beneath_row value d g)) k) met_groups

    abbrev pub key_rows : List Value → List (List Value)
    key_rows k = filter (λ r. same_values (row_key q d r) k) met_rows

    abbrev pub key_tuples : List Value → List (List RowAt)
    key_tuples k = filter (λ t. same_values (key_of value keys t) k) met_tuples

    row_is : (k : List Value) → is_empty (key_tuples k) ≡ false → map (λ i. rolled_item d (key_rows k) i.what) q.items ≡ map (group_item value keys (k, key_tuples k)) items
    row_is k full =
        pairs_map (λ i y. composed_item d i.what ≡ Some y) (λ y. item_is_grouped keys y ≡ true) (λ i. rolled_item d (key_rows k) i.what) (group_item value keys (k, key_tuples k))
        (λ i y h there. item_is value d items_grouped q keys keys_are k (key_groups k) (key_rows k) (key_tuples k)
        (Stands-part (beneath_row value d) (key_of value keys) (row_key q d) k met_groups met_rows met_tuples met_agree met_stand)
        (Each-filter (Good value d) (λ g. same_values (row_key q d (beneath_row value d g)) k) met_groups met_good)
        (Each-map (λ g. same_values (row_key q d (beneath_row value d g)) k ≡ true) (λ g. row_key q d (beneath_row value d g) ≡ k)
        (λ g. (same_values-Decides (row_key q d (beneath_row value d g)) k).0) (key_groups k) (Each-passes (λ g. same_values (row_key q d (beneath_row value d g)) k) met_groups))
        full i.what y h there)
        q.items items (there_pairs (λ i. composed_item d i.what) q.items items items_are) (Each-from_all (item_is_grouped keys) items selected)

    abbrev pub rolled_of : List Value → ViewEntry
    rolled_of k = rolled_entry q d (k, key_rows k)

    abbrev pub composed_of : List Value → ViewEntry
    composed_of k = group_entry value (composed_query q d items keys) (k, key_tuples k)

    entry_is : (k : List Value) → is_empty (key_tuples k) ≡ false → rolled_of k ≡ composed_of k
    entry_is k full = λ i. record { key = k; row = row_is k full i }

    abbrev pub the_keys : List (List Value)
    the_keys = distinct same_values (map (key_of value keys) met_tuples)

    abbrev pub the_row_keys : List (List Value)
    the_row_keys = distinct same_values (map (row_key q d) met_rows)

    entries_alike : map rolled_of the_keys ≡ map composed_of the_keys
    entries_alike =
        map_alike rolled_of composed_of the_keys
        (Each-map (λ k. is_empty (key_tuples k) ≡ false) (λ k. rolled_of k ≡ composed_of k) entry_is the_keys
        (Each-of_mapped (λ g. is_empty g.1 ≡ false) (λ k. (k, key_tuples k)) the_keys (groups_full (key_of value keys) met_tuples)))

    groups_same : SameCounts (map (rolled_entry q d) (groups_by (row_key q d) met_rows)) (map (group_entry value (composed_query q d items keys)) (groups_by (key_of value keys) met_tuples))
    groups_same p =
        SameCounts-is (map (rolled_entry q d) (groups_by (row_key q d) met_rows)) (map rolled_of the_row_keys) (map-map (rolled_entry q d) (λ k. (k, key_rows k)) the_row_keys) p
        ∙ SameCounts-map rolled_of the_row_keys the_keys
        (Stands-keys (beneath_row value d) (key_of value keys) (row_key q d) met_groups met_rows met_tuples met_full met_agree met_stand) p
        ∙ SameCounts-is (map rolled_of the_keys) (map composed_of the_keys) entries_alike p
        ∙ SameCounts-is (map composed_of the_keys) (map (group_entry value (composed_query q d items keys)) (groups_by (key_of value keys) met_tuples))
        (sym (map-map (group_entry value (composed_query q d items keys)) (λ k. (k, key_tuples k)) the_keys)) p

  stored_is : (rows : ℕ → List RowAt) → stored_over (composed_query q d items keys) rows ≡ rolled_view q d (stored_over d.query rows)
  stored_is rows =
      ap (λ us. sorted_by entry_cmp (entries value (composed_query q d items keys) us)) (joined_is rows)
      ∙ ap (sorted_by entry_cmp) (entries_are (met_tuples (joined_over d.query rows)))
      ∙ ap (λ gs. sorted_by entry_cmp (map (group_entry value (composed_query q d items keys)) gs))
      (groups_are value (met_tuples (joined_over d.query rows)) keys (pairs_full (λ c k. grouped_column d c ≡ Some k) q.groups keys above_keys by_groups))
      ∙ sym (same_entries_same_view (map (rolled_entry q d) (groups_by (row_key q d) (met_rows (joined_over d.query rows))))
      (map (group_entry value (composed_query q d items keys)) (groups_by (key_of value keys) (met_tuples (joined_over d.query rows)))) (groups_same (joined_over d.query rows)))
      ∙ sym (ap (λ b. sorted_by entry_cmp (map (rolled_entry q d) (cond b (([], met_rows (joined_over d.query rows)) ∷ []) (groups_by (row_key q d) (met_rows (joined_over d.query rows)))))) by_groups)

-- ---- the law

composed_stored : (q : RawQuery) (d : ViewDef) (items : List Item) (keys : List ColRef) (composed : StarQuery) → ItemsAreGrouped d
    → all_there (map (λ i. composed_item d i.what) q.items) ≡ Some items → all_there (map (grouped_column d) q.groups) ≡ Some keys
    → (b : Bool) → (may_be_nested q d && parts_stand q d items keys) ≡ b → where_true b (composed_query q d items keys) ≡ Some composed
    → (rows : ℕ → List RowAt) → stored_over composed rows ≡ rolled_view q d (stored_over d.query rows)
composed_stored q d items keys composed items_grouped items_are keys_are false e h rows = cc
composed_stored q d items keys composed items_grouped items_are keys_are true e h rows =
    let both : (may_be_nested q d ≡ true) × (parts_stand q d items keys ≡ true) = and_parts (may_be_nested q d) (parts_stand q d items keys) e in
    let one : (d.query.grouped ≡ true) × ((is_empty d.query.having && (not (is_empty q.groups) && (is_empty q.having && is_none q.as_of))) ≡ true)
    = and_parts d.query.grouped (is_empty d.query.having && (not (is_empty q.groups) && (is_empty q.having && is_none q.as_of))) both.0 in
    let two : (is_empty d.query.having ≡ true) × ((not (is_empty q.groups) && (is_empty q.having && is_none q.as_of)) ≡ true)
    = and_parts (is_empty d.query.having) (not (is_empty q.groups) && (is_empty q.having && is_none q.as_of)) one.1 in
    let three : (not (is_empty q.groups) ≡ true) × ((is_empty q.having && is_none q.as_of) ≡ true) = and_parts (not (is_empty q.groups)) (is_empty q.having && is_none q.as_of) two.1 in
    let four : (list_all (condition_stands d) q.conditions ≡ true) × ((list_all (item_is_grouped keys) items && list_all (λ k. order_stands d q items k.what) q.order) ≡ true)
    = and_parts (list_all (condition_stands d) q.conditions) (list_all (item_is_grouped keys) items && list_all (λ k. order_stands d q items k.what) q.order) both.1 in
    let five : (list_all (item_is_grouped keys) items ≡ true) × (list_all (λ k. order_stands d q items k.what) q.order ≡ true)
    = and_parts (list_all (item_is_grouped keys) items) (list_all (λ k. order_stands d q items k.what) q.order) four.1 in
    let same : composed_query q d items keys ≡ composed = ap (λ o. option_case o (composed_query q d items keys) (λ z. z)) h in
    subst (λ n. stored_over n rows ≡ rolled_view q d (stored_over d.query rows)) same
    (stored_is q d items keys items_are keys_are one.0 (no_elements d.query.having two.0) (not-true (is_empty q.groups) three.0) four.0 five.0 items_grouped rows)

pub nested_rolls_law : NestedRolls
nested_rolls_law q d composed rows items_grouped h = by_items (all_there (map (λ i. composed_item d i.what) q.items)) (all_there (map (grouped_column d) q.groups)) refl refl h
  where
    by_items : (o : Option (List Item)) (p : Option (List ColRef)) → all_there (map (λ i. composed_item d i.what) q.items) ≡ o → all_there (map (grouped_column d) q.groups) ≡ p
        → option_and_then (λ items. option_and_then (λ keys. where_true (may_be_nested q d && parts_stand q d items keys) (composed_query q d items keys)) p) o ≡ Some composed
        → stored_over composed rows ≡ rolled_view q d (stored_over d.query rows)
    by_items None p e f h = cc
    by_items (Some items) None e f h = cc
    by_items (Some items) (Some keys) e f h = composed_stored q d items keys composed items_grouped e f (may_be_nested q d && parts_stand q d items keys) refl h rows

pub nested_means_law : NestedMeans
nested_means_law above beneath base is items_grouped = nested_rolls_law is.asked beneath above.query (rows_at base) items_grouped is.query_is
