-- Groups of the rows of a view's groups are the composed groups of the tuples.
use Rattle.std.proofs.Common.{◌≡◌, ◌∙◌, sym, ap, subst, refl, arith, true, false, cond, List, [], ◌∷◌, ◌++◌, map, Option, Some, None}
use Rattle.std.specs.Prelude.{option_map}
use Rattle.std.specs.List.{filter, flat_map, list_all}
use Rattle.std.proofs.lemmas.List.{append-nil}
use Rattle.std.proofs.lemmas.Simd.{map-map}
use Rattle.wh_base.specs.Columns.{has_column}
use Rattle.wh_base.specs.Lists.{all_there, head, is_empty, option_case, sorted_by}
use Rattle.wh_base.specs.Values.{same_value}
use Rattle.wh_base.proofs.Same.{same_value-Decides}
use Rattle.wh_base.proofs.Sorting.{SameCounts, sorted_counts}
use Rattle.wh_base.specs.declared.values.Value.{Value}
use Rattle.wh_base.specs.declared.values.Value.TheVariants.{Null}
use Rattle.wh_base.specs.declared.columns.Agg.{Agg}
use Rattle.wh_base.specs.declared.columns.ColRef.{ColRef}
use Rattle.wh_base.specs.declared.queries.ColName.{ColName}
use Rattle.wh_base.specs.declared.queries.Item.{Item}
use Rattle.wh_base.specs.declared.queries.Item.TheVariants as item
use Rattle.wh_base.specs.declared.queries.RawQuery.{RawQuery}
use Rattle.wh_base.specs.declared.queries.RawWhat.{RawWhat}
use Rattle.wh_base.specs.declared.queries.RawWhat.TheVariants as what
use Rattle.wh_base.specs.declared.views.ViewDef.{ViewDef}
use Rattle.def_meaning.specs.Meaning.{Grouped, entries, entry_cmp, group_entry, group_item, grouped_entries, groups, key_of, key_value, plain_entries, test_true}
use Rattle.def_nest.specs.Compose.{composed_agg, composed_item}
use Rattle.def_nest.specs.Names.{grouped_column}
use Rattle.def_resolve.specs.Resolve.{item_is_grouped}
use Rattle.law_lists.proofs.Columns.{key_value_is}
use Rattle.law_lists.proofs.Counts.{SameCounts-is, SameCounts-map, SameCounts-trans}
use Rattle.law_lists.proofs.Groups.{Agree, Stands, groups_members}
use Rattle.law_lists.proofs.Each.{Each-map, Each-of_map, Each-both}
use Rattle.law_lists.proofs.Lists.{filter_true}
use Rattle.law_nest.specs.Each.{Each}
use Rattle.law_nest.specs.Rolled.{cell, rolled_agg, rolled_item, row_key}
use Rattle.law_nest.proofs.Meeting.{Keeps, cell_reads}
use Rattle.law_nest.proofs.Pairs.{Each-same, first_is, pairs_map, there_pairs}
use Rattle.law_nest.proofs.Summing.{beneath_row, rolled_agg_is, some_group}

-- ---- what the view stores stands for its groups

module _ {T : Type 0} (value : T → ColRef → Value) (d : ViewDef) where
  rows_are : (ts : List T) → d.query.grouped ≡ true → d.query.having ≡ []
      → map (λ e. e.row) (entries value d.query ts) ≡ map (beneath_row value d) (groups value d.query.keys ts)
  rows_are ts grouped plain =
      ap (λ b. map (λ e. e.row) (cond b (grouped_entries value d.query ts) (plain_entries value d.query ts))) grouped
      ∙ ap (λ tests. map (λ e. e.row) (map (group_entry value d.query) (filter (λ g. list_all (test_true value g) tests) (groups value d.query.keys ts)))) plain
      ∙ ap (λ gs. map (λ e. e.row) (map (group_entry value d.query) gs)) (filter_true (groups value d.query.keys ts))
      ∙ map-map (λ e. e.row) (group_entry value d.query) (groups value d.query.keys ts)

  members_are : (keys : List ColRef) (ts : List T) → SameCounts (flat_map (λ g. g.1) (groups value keys ts)) ts
  members_are [] ts = SameCounts-is (ts ++ []) ts (append-nil ts)
  members_are (c ∷ cs) ts = groups_members (key_of value (c ∷ cs)) ts

  -- the rows that the view stores, in their order
  abbrev pub stored_rows : List T → List (List Value)
  stored_rows ts = map (λ e. e.row) (sorted_by entry_cmp (entries value d.query ts))

  pub view_stands : (ts : List T) → d.query.grouped ≡ true → d.query.having ≡ [] → Stands (beneath_row value d) (groups value d.query.keys ts) (stored_rows ts) ts
  view_stands ts grouped plain = record {
    rows_are = SameCounts-trans (stored_rows ts) (map (λ e. e.row) (entries value d.query ts)) (map (beneath_row value d) (groups value d.query.keys ts))
        (SameCounts-map (λ e. e.row) (sorted_by entry_cmp (entries value d.query ts)) (entries value d.query ts) (sorted_counts entry_cmp (entries value d.query ts)))
        (SameCounts-is (map (λ e. e.row) (entries value d.query ts)) (map (beneath_row value d) (groups value d.query.keys ts)) (rows_are ts grouped plain));
    tuples_are = members_are d.query.keys ts;
  }

  -- ---- groups of groups

  -- a group of the view: it has members, and all of them have its key
  abbrev pub Good : Grouped T → Type 0
  Good g = (is_empty g.1 ≡ false) × Keeps value d.query.keys g

  module _ (items_grouped : list_all (item_is_grouped d.query.keys) d.query.items ≡ true) (q : RawQuery) (keys : List ColRef) (keys_are : all_there (map (grouped_column d) q.groups) ≡ Some keys) where
    -- the keys above are those of the members
    keys_one : (g : Grouped T) (t : T) → key_of value d.query.keys t ≡ g.0 → key_of value keys t ≡ row_key q d (beneath_row value d g)
    keys_one g t own =
        sym (pairs_map (λ c k. grouped_column d c ≡ Some k) (λ k. Unit {0}) (cell d (beneath_row value d g)) (value t)
        (λ c k h _. cell_reads value d items_grouped g t own c k h) q.groups keys (there_pairs (grouped_column d) q.groups keys keys_are) (units keys))
      where
        units : (ks : List ColRef) → Each (λ k. Unit {0}) ks
        units [] = tt
        units (k ∷ ks) = (tt, units ks)

    pub keys_agree : (gs : List (Grouped T)) → Each Good gs → Each (Agree (beneath_row value d) (key_of value keys) (row_key q d)) gs
    keys_agree gs h =
        Each-map Good (Agree (beneath_row value d) (key_of value keys) (row_key q d))
        (λ g k. Each-map (λ t. key_of value d.query.keys t ≡ g.0) (λ t. key_of value keys t ≡ row_key q d (beneath_row value d g)) (λ t. keys_one g t) g.1 k.1) gs h

    -- in each group's row a plain item has its value in the key above
    plain_cell : (g : Grouped T) → Good g → (c : ColName) (k : ColRef) → grouped_column d c ≡ Some k → has_column keys k ≡ true
        → cell d (beneath_row value d g) c ≡ key_value keys (row_key q d (beneath_row value d g)) k
    plain_cell g good c k h there = by g.1 good.0 good.1
      where
        by : (ts : List T) → is_empty ts ≡ false → Each (λ t. key_of value d.query.keys t ≡ g.0) ts → cell d (beneath_row value d g) c ≡ key_value keys (row_key q d (beneath_row value d g)) k
        by [] e own = cc
        by (t ∷ ts) e own =
            cell_reads value d items_grouped g t own.0 c k h
            ∙ sym (key_value_is (value t) keys k there)
            ∙ ap (λ key. key_value keys key k) (keys_one g t own.0)

    module _ (k : List Value) (gs : List (Grouped T)) (rows : List (List Value)) (ts : List T) (s : Stands (beneath_row value d) gs rows ts)
        (good : Each Good gs) (of_key : Each (λ g. row_key q d (beneath_row value d g) ≡ k) gs) (full : is_empty ts ≡ false) where
      some_row : is_empty rows ≡ false
      some_row = by rows gs (some_group value d gs rows ts s full) s.rows_are
        where
          by : (rs : List (List Value)) (hs : List (Grouped T)) → is_empty hs ≡ false → SameCounts rs (map (beneath_row value d) hs) → is_empty rs ≡ false
          by (r ∷ rs) hs e h = refl
          by [] [] e h = cc
          by [] (g ∷ hs) e h = absurd (omega (arith, h (λ _. true)))

      plain_is : (c : ColName) (n : ColRef) → grouped_column d c ≡ Some n → has_column keys n ≡ true → option_case (head rows) Null (λ r. cell d r c) ≡ key_value keys k n
      plain_is c n h there =
          first_is (λ r. cell d r c) Null (key_value keys k n) rows some_row
          (Each-map (λ r. same_value (cell d r c) (key_value keys k n) ≡ true) (λ r. cell d r c ≡ key_value keys k n) (λ r. (same_value-Decides (cell d r c) (key_value keys k n)).0) rows
          (Each-same (λ r. same_value (cell d r c) (key_value keys k n)) rows (map (beneath_row value d) gs) s.rows_are
          (Each-of_map (λ r. same_value (cell d r c) (key_value keys k n) ≡ true) (beneath_row value d) gs
          (Each-map (λ g. Good g × (row_key q d (beneath_row value d g) ≡ k)) (λ g. same_value (cell d (beneath_row value d g) c) (key_value keys k n) ≡ true)
          (λ g both. (same_value-Decides (cell d (beneath_row value d g) c) (key_value keys k n)).1 (plain_cell g both.0 c n h there ∙ ap (λ key. key_value keys key n) both.1))
          gs (Each-both Good (λ g. row_key q d (beneath_row value d g) ≡ k) gs good of_key)))))

      pub item_is : (w : RawWhat) (i : Item) → composed_item d w ≡ Some i → item_is_grouped keys i ≡ true → rolled_item d rows w ≡ group_item value keys (k, ts) i
      item_is (what.Plain c) i h there = by (grouped_column d c) refl h
        where
          by : (o : Option ColRef) → grouped_column d c ≡ o → option_map item.Col o ≡ Some i → option_case (head rows) Null (λ r. cell d r c) ≡ group_item value keys (k, ts) i
          by None e h = cc
          by (Some n) e h =
              let same : item.Col n ≡ i = ap (λ o. option_case o (item.Col n) (λ z. z)) h in
              plain_is c n e (subst (λ x. item_is_grouped keys x ≡ true) (sym same) there) ∙ ap (group_item value keys (k, ts)) same
      item_is (what.Computed a) i h there = by (composed_agg d a) refl h
        where
          by : (o : Option Agg) → composed_agg d a ≡ o → option_map item.Agg o ≡ Some i → rolled_agg d rows a ≡ group_item value keys (k, ts) i
          by None e h = cc
          by (Some b) e h =
              let same : item.Agg b ≡ i = ap (λ o. option_case o (item.Agg b) (λ z. z)) h in
              rolled_agg_is value d gs rows ts s full a b e ∙ ap (group_item value keys (k, ts)) same
