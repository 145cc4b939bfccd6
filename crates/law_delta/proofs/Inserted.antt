-- Where rows were only inserted, each item of a group moves by itself, MIN and MAX too.
use Rattle.std.proofs.Common.{◌≡◌, ◌∙◌, sym, ap, refl, arith, ℕ, ◌+◌, suc, Bool, true, false, cond, List, [], ◌∷◌, ◌++◌, length, map, Option, Some, None}
use Rattle.std.specs.Prelude.{ℤ, pos, ◌+ℤ◌, ◌==◌, ◌||◌, ◌&&◌, is_none}
use Rattle.std.proofs.lemmas.Bool.Decides.{Decides-eqb}
use Rattle.std.proofs.lemmas.Int.{ints}
use Rattle.wh_base.proofs.Sorting.{SameCounts, sorted_counts, times}
use Rattle.wh_base.specs.Columns.{same_agg_by, same_expr}
use Rattle.wh_base.specs.Lists.{is_empty, sorted_by}
use Rattle.wh_base.specs.Values.{is_null, same_values}
use Rattle.wh_base.specs.declared.columns.Agg.{Agg}
use Rattle.wh_base.specs.declared.columns.Agg.TheVariants.{Avg, Count, CountAll, Max, Min, Sum}
use Rattle.wh_base.specs.declared.columns.ColRef.{ColRef}
use Rattle.wh_base.specs.declared.queries.Item.{Item}
use Rattle.wh_base.specs.declared.queries.StarQuery.{StarQuery}
use Rattle.wh_base.specs.declared.values.Value.{Value}
use Rattle.wh_base.specs.declared.values.Value.TheVariants.{Null, Num}
use Rattle.wh_base.specs.declared.views.ViewEntry.{ViewEntry}
use Rattle.def_meaning.specs.Accumulated.{acc_of, average_by, sum_by_count}
use Rattle.def_meaning.specs.Meaning.{agg_value, avg_value, entries, entry_cmp, group_item, grouped_entries, key_of, plain_entries, sum_value, total_of, values_of}
use Rattle.def_meaning.proofs.Accumulating.{agg_value-acc}
use Rattle.def_meaning.proofs.Entries.{same_entries_same_view}
use Rattle.def_meaning.proofs.Merging.{max-append, min-append}
use Rattle.wh_base.specs.declared.queries.Item.TheVariants as item
use Rattle.law_lists.proofs.Counts.{times-append}
use Rattle.law_lists.proofs.Folds.{min_same, max_same}
use Rattle.law_delta.specs.Deltas.{Balanced}
use Rattle.law_delta.specs.Moved.{KeysApart, count_in, found_row, group_row, inserted_agg, inserted_item, row_inserted, row_says, selects, sum_in, with_key}
use Rattle.law_delta.proofs.Tuples.{Balanced-filter}
use Rattle.law_delta.proofs.Kept.{length_balanced, times_balanced, total_balanced, values_balanced}
use Rattle.law_delta.proofs.Moving.{average_kept}
use Rattle.law_delta.proofs.Lookups.{lookups_same}
use Rattle.law_delta.proofs.Grouped.{grouped_apart, grouped_found, same_found}
use Rattle.law_delta.proofs.Refreshed.{row_says-is, selected_here}

-- what is there now are the elements before and the new ones
together : {A : Type 0} (now before news : List A) → Balanced now [] before news → SameCounts now (before ++ news)
together now before news h p = let e : times p now + 0 ≡ times p before + times p news = times_balanced p now [] before news h in omega (arith, times-append p before news)

more : {A : Type 0} (now before news : List A) → Balanced now [] before news → length now ≡ length before + length news
more now before news h = let e : length now + 0 ≡ length before + length news = length_balanced now [] before news h in omega arith

more_total : (now before news : List Value) → Balanced now [] before news → total_of now ≡ total_of before +ℤ total_of news
more_total now before news h = let e : total_of now +ℤ pos 0 ≡ total_of before +ℤ total_of news = total_balanced now [] before news h in omega (arith, ints)

count_of_average : (vs : List Value) → count_in (avg_value vs) ≡ length vs
count_of_average [] = refl
count_of_average (v ∷ vs) = refl

no_zero : (n : ℕ) → (suc n == 0) ≡ false
no_zero n = grind (arith, Decides-eqb (suc n) 0)

sums_inserted : (n : ℕ) (s : ℤ) (before news : List Value) → n ≡ length before + length news → s ≡ total_of before +ℤ total_of news → sum_by_count n s ≡ cond (is_null (sum_value before) && (length news == 0)) Null (Num (sum_in (sum_value before) +ℤ total_of news))
sums_inserted n s [] [] h k = ap (λ m. sum_by_count m s) h
sums_inserted n s [] (v ∷ vs) h k =
    let e : n ≡ suc (length vs) = omega arith in
    ap (λ m. sum_by_count m s) e ∙ ap Num k ∙ sym (ap (λ b. cond b Null (Num (pos 0 +ℤ total_of (v ∷ vs)))) (no_zero (length vs)))
sums_inserted n s (b ∷ bs) news h k =
    let e : n ≡ suc (length bs + length news) = omega arith in
    ap (λ m. sum_by_count m s) e ∙ ap Num k

agg_inserted : {T : Type 0} (value : T → ColRef → Value) (now before news : List T) → Balanced now [] before news → (a : Agg) → agg_value value now a ≡ inserted_agg (agg_value value before a) (acc_of value news a) a
agg_inserted value now before news h CountAll = ap (λ n. Num (pos n)) (more now before news h)
agg_inserted value now before news h (Count e) = ap (λ n. Num (pos n)) (more (values_of value e now) (values_of value e before) (values_of value e news) (values_balanced value e now [] before news h))
agg_inserted value now before news h (Sum e) =
    let b : Balanced (values_of value e now) [] (values_of value e before) (values_of value e news) = values_balanced value e now [] before news h in
    agg_value-acc value now (Sum e)
    ∙ sums_inserted (length (values_of value e now)) (total_of (values_of value e now)) (values_of value e before) (values_of value e news) (more (values_of value e now) (values_of value e before) (values_of value e news) b) (more_total (values_of value e now) (values_of value e before) (values_of value e news) b)
agg_inserted value now before news h (Avg e) =
    let b : Balanced (values_of value e now) [] (values_of value e before) (values_of value e news) = values_balanced value e now [] before news h in
    let n = more (values_of value e now) (values_of value e before) (values_of value e news) b in
    let s = more_total (values_of value e now) (values_of value e before) (values_of value e news) b in
    agg_value-acc value now (Avg e) ∙ (λ i. average_by (n i) (s i))
    ∙ sym (λ i. average_by (count_of_average (values_of value e before) i + length (values_of value e news)) (average_kept (values_of value e before) i +ℤ total_of (values_of value e news)))
agg_inserted value now before news h (Min e) =
    let b : Balanced (values_of value e now) [] (values_of value e before) (values_of value e news) = values_balanced value e now [] before news h in
    min_same (values_of value e now) (values_of value e before ++ values_of value e news) (together (values_of value e now) (values_of value e before) (values_of value e news) b) ∙ min-append (values_of value e before) (values_of value e news)
agg_inserted value now before news h (Max e) =
    let b : Balanced (values_of value e now) [] (values_of value e before) (values_of value e news) = values_balanced value e now [] before news h in
    max_same (values_of value e now) (values_of value e before ++ values_of value e news) (together (values_of value e now) (values_of value e before) (values_of value e news) b) ∙ max-append (values_of value e before) (values_of value e news)

none_of_both : {A : Type 0} (xs ys zs : List A) → length zs ≡ length xs + length ys → is_empty zs ≡ (is_empty xs && is_empty ys)
none_of_both [] [] [] h = refl
none_of_both [] [] (z ∷ zs) h = absurd (omega arith)
none_of_both [] (y ∷ ys) [] h = absurd (omega arith)
none_of_both [] (y ∷ ys) (z ∷ zs) h = refl
none_of_both (x ∷ xs) ys [] h = absurd (omega arith)
none_of_both (x ∷ xs) ys (z ∷ zs) h = refl

module _ {T : Type 0} (value : T → ColRef → Value) (q : StarQuery) where
  pub items_inserted : (k : List Value) (now before news : List T) → Balanced now [] before news → (said : Agg → Value) (items : List Item) → ((a : Agg) → selects items a ≡ true → said a ≡ agg_value value before a) → (is : List Item) → ((a : Agg) → selects is a ≡ true → selects items a ≡ true)
      → map (group_item value q.keys (k, now)) is ≡ map (inserted_item q.keys k said (acc_of value news)) is
  items_inserted k now before news h said items says [] within = refl
  items_inserted k now before news h said items says (item.Col c ∷ is) within = ap (λ rest. group_item value q.keys (k, now) (item.Col c) ∷ rest) (items_inserted k now before news h said items says is within)
  items_inserted k now before news h said items says (item.Agg a ∷ is) within =
      let first : agg_value value now a ≡ inserted_agg (said a) (acc_of value news a) a = agg_inserted value now before news h a ∙ sym (ap (λ v. inserted_agg v (acc_of value news a) a) (says a (within a (selected_here a is)))) in
      let rest = items_inserted k now before news h said items says is (λ b x. within b (later b (same_agg_by same_expr b a) x)) in
      λ i. first i ∷ rest i
    where
      later : (b : Agg) (x : Bool) → selects is b ≡ true → (x || selects is b) ≡ true
      later b true h = refl
      later b false h = h

module _ {T : Type 0} (value : T → ColRef → Value) (q : StarQuery) (having : q.having ≡ []) (keyed : is_empty q.keys ≡ false) where
  -- the row of the group after the inserts
  pub group_inserted : (now before news : List T) → Balanced now [] before news → (k : List Value) → group_row value q k now ≡ row_inserted value q (grouped_entries value q before) news k
  group_inserted now before news h k =
      let at : List T → List T = with_key (key_of value q.keys) k in
      let b : Balanced (at now) [] (at before) (at news) = Balanced-filter (λ t. same_values (key_of value q.keys t) k) now [] before news h in
      let said : Agg → Value = row_says q.items (group_row value q k before) in
      let is : map (group_item value q.keys (k, at now)) q.items ≡ map (inserted_item q.keys k said (acc_of value (at news))) q.items =
      items_inserted value q k (at now) (at before) (at news) b said q.items (λ a. row_says-is value q k before a) q.items (λ a x. x) in
      let empty : is_empty (at now) ≡ (is_none (group_row value q k before) && is_empty (at news)) =
      none_of_both (at before) (at news) (at now) (more (at now) (at before) (at news) b)
      ∙ ap (λ x. x && is_empty (at news)) (none_is (is_empty (at before)) (map (group_item value q.keys (k, at before)) q.items)) in
      (λ i. cond (empty i) None (Some (is i)))
      ∙ (λ i. let old = sym (grouped_found value q before having keyed k) i in cond (is_none old && is_empty (at news)) None (Some (map (inserted_item q.keys k (row_says q.items old) (acc_of value (at news))) q.items)))
    where
      none_is : (b : Bool) (r : List Value) → b ≡ is_none (cond b None (Some r))
      none_is true r = refl
      none_is false r = refl

  -- Entries that have the rows after the inserts are what the definition stores. Nothing is asked of the items.
  pub refreshed_by_inserts : q.grouped ≡ true → (now before news : List T) → Balanced now [] before news
      → (es : List ViewEntry) → KeysApart es
      → ((k : List Value) → found_row k es ≡ row_inserted value q (sorted_by entry_cmp (entries value q before)) news k)
      → sorted_by entry_cmp es ≡ sorted_by entry_cmp (entries value q now)
  refreshed_by_inserts grouped now before news h es apart found =
      let old_is : entries value q before ≡ grouped_entries value q before = ap (λ b. cond b (grouped_entries value q before) (plain_entries value q before)) grouped in
      let now_is : entries value q now ≡ grouped_entries value q now = ap (λ b. cond b (grouped_entries value q now) (plain_entries value q now)) grouped in
      let same_old : SameCounts (grouped_entries value q before) (sorted_by entry_cmp (grouped_entries value q before)) = λ p. sym (sorted_counts entry_cmp (grouped_entries value q before) p) in
      let new : List Value → List T = λ k. with_key (key_of value q.keys) k news in
      let by_old : (k : List Value) → Option (List Value) → Option (List Value) = λ k old. cond (is_none old && is_empty (new k)) None (Some (map (inserted_item q.keys k (row_says q.items old) (acc_of value (new k))) q.items)) in
      let at_key : (k : List Value) → found_row k es ≡ found_row k (grouped_entries value q now) = λ k.
      found k
      ∙ ap (by_old k) (ap (λ olds. found_row k (sorted_by entry_cmp olds)) old_is ∙ same_found (grouped_entries value q before) (sorted_by entry_cmp (grouped_entries value q before)) same_old (grouped_apart value q before having keyed) k)
      ∙ sym (group_inserted now before news h k)
      ∙ sym (grouped_found value q now having keyed k) in
      same_entries_same_view es (grouped_entries value q now) (lookups_same es (grouped_entries value q now) apart (grouped_apart value q now having keyed) at_key)
      ∙ (λ i. sorted_by entry_cmp (sym now_is i))
