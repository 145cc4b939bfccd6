-- Entries that have at each key the row after the changes are, in order, what the definition stores after them.
use Rattle.std.proofs.Common.{◌≡◌, ◌∙◌, sym, ap, refl, Bool, true, false, cond, List, [], ◌∷◌, map, Some, None, inl, inr, ◌⊎◌}
use Rattle.std.specs.Prelude.{◌||◌}
use Rattle.wh_base.proofs.Sorting.{SameCounts, sorted_counts}
use Rattle.wh_base.specs.Columns.{same_agg_by, same_expr}
use Rattle.wh_base.specs.Lists.{is_empty, sorted_by}
use Rattle.wh_base.specs.declared.columns.Agg.{Agg}
use Rattle.wh_base.specs.declared.columns.Agg.TheVariants.{Avg, Count, CountAll, Max, Min, Sum}
use Rattle.wh_base.specs.declared.columns.ColRef.{ColRef}
use Rattle.wh_base.specs.declared.queries.Item.{Item}
use Rattle.wh_base.specs.declared.queries.StarQuery.{StarQuery}
use Rattle.wh_base.specs.declared.values.Value.{Value}
use Rattle.wh_base.specs.declared.views.ViewEntry.{ViewEntry}
use Rattle.def_meaning.specs.Accumulated.{acc_of}
use Rattle.def_meaning.specs.Meaning.{agg_value, entries, entry_cmp, group_item, grouped_entries, key_of, plain_entries}
use Rattle.def_meaning.proofs.Entries.{same_entries_same_view}
use Rattle.wh_base.specs.declared.queries.Item.TheVariants as item
use Rattle.law_delta.specs.Deltas.{Balanced}
use Rattle.law_delta.specs.Moved.{IsAdded, KeysApart, Counted, agg_of_nothing, counting, found_row, group_row, moved_row, row_after, row_says, selects, value_in_row, with_key}
use Rattle.wh_base.proofs.SameItems.{same_agg-Decides}
use Rattle.law_delta.proofs.Moving.{AllKnown, row_moved}
use Rattle.law_delta.proofs.Lookups.{lookups_same}
use Rattle.law_delta.proofs.Grouped.{grouped_apart, grouped_found, same_found}

-- ---- a row says what its aggregates were

nothing_is : {T : Type 0} (value : T → ColRef → Value) (a : Agg) → agg_of_nothing a ≡ agg_value value [] a
nothing_is value CountAll = refl
nothing_is value (Count e) = refl
nothing_is value (Sum e) = refl
nothing_is value (Avg e) = refl
nothing_is value (Min e) = refl
nothing_is value (Max e) = refl

pub says_value : {T : Type 0} (value : T → ColRef → Value) (keys : List ColRef) (k : List Value) (ts : List T) (is : List Item) (a : Agg) → selects is a ≡ true → value_in_row is (map (group_item value keys (k, ts)) is) a ≡ agg_value value ts a
says_value value keys k ts [] a h = cc
says_value value keys k ts (item.Col c ∷ is) a h = says_value value keys k ts is a h
says_value value keys k ts (item.Agg b ∷ is) a h = by (same_agg_by same_expr a b) refl (says_value value keys k ts is a) h
  where
    by : (x : Bool) → same_agg_by same_expr a b ≡ x → (selects is a ≡ true → value_in_row is (map (group_item value keys (k, ts)) is) a ≡ agg_value value ts a) → (x || selects is a) ≡ true → cond x (agg_value value ts b) (value_in_row is (map (group_item value keys (k, ts)) is) a) ≡ agg_value value ts a
    by true e more y = ap (agg_value value ts) (sym ((same_agg-Decides a b).0 e))
    by false e more y = more y

pub row_says-is : {T : Type 0} (value : T → ColRef → Value) (q : StarQuery) (k : List Value) (before : List T) (a : Agg) → selects q.items a ≡ true → row_says q.items (group_row value q k before) a ≡ agg_value value (with_key (key_of value q.keys) k before) a
row_says-is {T} value q k before a h = by (with_key (key_of value q.keys) k before) (says_value value q.keys k (with_key (key_of value q.keys) k before) q.items a h)
  where
    by : (found : List T) → value_in_row q.items (map (group_item value q.keys (k, found)) q.items) a ≡ agg_value value found a → row_says q.items (cond (is_empty found) None (Some (map (group_item value q.keys (k, found)) q.items))) a ≡ agg_value value found a
    by [] e = nothing_is value a
    by (t ∷ ts) e = ap (λ b. cond b (value_in_row q.items (map (group_item value q.keys (k, t ∷ ts)) q.items) a) (value_in_row q.items (map (group_item value q.keys (k, t ∷ ts)) q.items) CountAll)) h ∙ e

-- what isn't selected and counts all rows
row_says-all : {T : Type 0} (value : T → ColRef → Value) (q : StarQuery) (k : List Value) (before : List T) (a : Agg) → selects q.items a ≡ false → selects q.items CountAll ≡ true → agg_value value (with_key (key_of value q.keys) k before) a ≡ agg_value value (with_key (key_of value q.keys) k before) CountAll
    → row_says q.items (group_row value q k before) a ≡ agg_value value (with_key (key_of value q.keys) k before) a
row_says-all {T} value q k before a h rows full = by (with_key (key_of value q.keys) k before) (says_value value q.keys k (with_key (key_of value q.keys) k before) q.items CountAll rows) full
  where
    by : (found : List T) → value_in_row q.items (map (group_item value q.keys (k, found)) q.items) CountAll ≡ agg_value value found CountAll → agg_value value found a ≡ agg_value value found CountAll → row_says q.items (cond (is_empty found) None (Some (map (group_item value q.keys (k, found)) q.items))) a ≡ agg_value value found a
    by [] e f = nothing_is value a
    by (t ∷ ts) e f = ap (λ b. cond b (value_in_row q.items (map (group_item value q.keys (k, t ∷ ts)) q.items) a) (value_in_row q.items (map (group_item value q.keys (k, t ∷ ts)) q.items) CountAll)) h ∙ e ∙ sym f

-- each aggregate of the items is selected
pub selected_here : (a : Agg) (is : List Item) → selects (item.Agg a ∷ is) a ≡ true
selected_here a is = ap (λ b. b || selects is a) ((same_agg-Decides a a).1 refl)

pub all_known : {T : Type 0} (value : T → ColRef → Value) (before : List T) (said : Agg → Value) (items : List Item)
    → ((a : Agg) → selects items a ≡ true → IsAdded a × (said (counting a) ≡ agg_value value before (counting a)) × (said a ≡ agg_value value before a))
    → (is : List Item) → ((a : Agg) → selects is a ≡ true → selects items a ≡ true) → AllKnown value before said is
all_known value before said items says [] within = tt
all_known value before said items says (item.Col c ∷ is) within = (tt, all_known value before said items says is within)
all_known value before said items says (item.Agg a ∷ is) within =
    (says a (within a (selected_here a is)), all_known value before said items says is (λ b h. within b (later b (same_agg_by same_expr b a) h)))
  where
    later : (b : Agg) (x : Bool) → selects is b ≡ true → (x || selects is b) ≡ true
    later b true h = refl
    later b false h = h

module _ {T : Type 0} (value : T → ColRef → Value) (q : StarQuery) (having : q.having ≡ []) (keyed : is_empty q.keys ≡ false) (rows : selects q.items CountAll ≡ true) where
  -- what the row of a key says of the selected aggregates and of their counts
  row_knows : (before : List T) → Counted value q before → (k : List Value) (a : Agg) → selects q.items a ≡ true
      → IsAdded a × (row_says q.items (group_row value q k before) (counting a) ≡ agg_value value (with_key (key_of value q.keys) k before) (counting a)) × (row_says q.items (group_row value q k before) a ≡ agg_value value (with_key (key_of value q.keys) k before) a)
  row_knows before counted k a h = ((counted a h).0, by (counted a h).1 (selects q.items (counting a)) refl, row_says-is value q k before a h)
    where
      by : ((selects q.items (counting a) ≡ true) ⊎ ((j : List Value) → agg_value value (with_key (key_of value q.keys) j before) (counting a) ≡ agg_value value (with_key (key_of value q.keys) j before) CountAll)) → (b : Bool) → selects q.items (counting a) ≡ b → row_says q.items (group_row value q k before) (counting a) ≡ agg_value value (with_key (key_of value q.keys) k before) (counting a)
      by given true e = row_says-is value q k before (counting a) e
      by (inl x) false e = cc
      by (inr full) false e = row_says-all value q k before (counting a) e rows (full k)

  -- the row of the group after the changes
  pub group_after : (now olds before news : List T) → Balanced now olds before news → Counted value q before → (k : List Value) → group_row value q k now ≡ row_after value q (grouped_entries value q before) olds news k
  group_after now olds before news h counted k =
      let at : List T → List T = with_key (key_of value q.keys) k in
      let said : Agg → Value = row_says q.items (group_row value q k before) in
      row_moved value q k now olds before news h said (row_says-is value q k before CountAll rows) (all_known value (at before) said q.items (row_knows before counted k) q.items (λ a x. x))
      ∙ (λ i. moved_row q k (row_says q.items (sym (grouped_found value q before having keyed k) i)) (acc_of value (at news)) (acc_of value (at olds)))

  -- a key that no side has keeps its row
  pub untouched : (before : List T) → Counted value q before → (k : List Value) → row_after value q (grouped_entries value q before) [] [] k ≡ found_row k (grouped_entries value q before)
  untouched before counted k = sym (group_after before [] before [] (λ f. refl) counted k) ∙ sym (grouped_found value q before having keyed k)

  -- entries that have the rows after the changes are what the definition stores
  pub refreshed : q.grouped ≡ true → (now olds before news : List T) → Balanced now olds before news → Counted value q before
      → (es : List ViewEntry) → KeysApart es
      → ((k : List Value) → found_row k es ≡ row_after value q (sorted_by entry_cmp (entries value q before)) olds news k)
      → sorted_by entry_cmp es ≡ sorted_by entry_cmp (entries value q now)
  refreshed grouped now olds before news h counted es apart found =
      let old_is : entries value q before ≡ grouped_entries value q before = ap (λ b. cond b (grouped_entries value q before) (plain_entries value q before)) grouped in
      let now_is : entries value q now ≡ grouped_entries value q now = ap (λ b. cond b (grouped_entries value q now) (plain_entries value q now)) grouped in
      let same_old : SameCounts (grouped_entries value q before) (sorted_by entry_cmp (grouped_entries value q before)) = λ p. sym (sorted_counts entry_cmp (grouped_entries value q before) p) in
      let at_key : (k : List Value) → found_row k es ≡ found_row k (grouped_entries value q now) = λ k.
      found k
      ∙ (λ i. row_after value q (sorted_by entry_cmp (old_is i)) olds news k)
      ∙ (λ i. moved_row q k (row_says q.items (same_found (grouped_entries value q before) (sorted_by entry_cmp (grouped_entries value q before)) same_old (grouped_apart value q before having keyed) k i)) (acc_of value (with_key (key_of value q.keys) k news)) (acc_of value (with_key (key_of value q.keys) k olds)))
      ∙ sym (group_after now olds before news h counted k)
      ∙ sym (grouped_found value q now having keyed k) in
      same_entries_same_view es (grouped_entries value q now) (lookups_same es (grouped_entries value q now) apart (grouped_apart value q now having keyed) at_key)
      ∙ (λ i. sorted_by entry_cmp (sym now_is i))
