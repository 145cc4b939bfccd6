-- The row of a group after changes is the moved row.
use Rattle.std.proofs.Common.{◌≡◌, ◌∙◌, sym, ap, refl, arith, ◌+◌, ◌-◌, cond, List, [], ◌∷◌, length, map, Some, None}
use Rattle.std.specs.Prelude.{pos, ◌+ℤ◌, ◌-ℤ◌, ◌==◌}
use Rattle.std.proofs.lemmas.Int.{ints}
use Rattle.std.proofs.lemmas.Bool.Decides.{Decides-eqb}
use Rattle.wh_base.specs.Lists.{is_empty}
use Rattle.wh_base.specs.Values.{same_values}
use Rattle.wh_base.specs.declared.columns.Agg.{Agg}
use Rattle.wh_base.specs.declared.columns.Agg.TheVariants.{Avg, Count, CountAll, Max, Min, Sum}
use Rattle.wh_base.specs.declared.columns.ColRef.{ColRef}
use Rattle.wh_base.specs.declared.queries.Acc.{Acc}
use Rattle.wh_base.specs.declared.queries.Item.{Item}
use Rattle.wh_base.specs.declared.queries.StarQuery.{StarQuery}
use Rattle.wh_base.specs.declared.values.Value.{Value}
use Rattle.wh_base.specs.declared.values.Value.TheVariants.{Num}
use Rattle.def_meaning.specs.Accumulated.{acc_of, acc_value, sum_by_count, average_by}
use Rattle.def_meaning.specs.Meaning.{agg_value, values_of, sum_value, avg_value, total_of, group_item, key_of}
use Rattle.def_meaning.proofs.Accumulating.{agg_value-acc}
use Rattle.wh_base.specs.declared.queries.Item.TheVariants as item
use Rattle.law_delta.specs.Deltas.{Balanced}
use Rattle.law_delta.specs.Moved.{IsAdded, counting, count_in, sum_in, moved_acc, known_acc, moved_agg, with_key, group_row, moved_item, moved_row}
use Rattle.law_delta.proofs.Tuples.{Balanced-filter}
use Rattle.law_delta.proofs.Kept.{length_balanced, total_balanced, values_balanced}

-- a count, less what it was taken from
pub lengths : {A : Type 0} (now olds before news : List A) → Balanced now olds before news → length now ≡ length before + length news - length olds
lengths now olds before news h = let e : length now + length olds ≡ length before + length news = length_balanced now olds before news h in omega arith

pub totals : (now olds before news : List Value) → Balanced now olds before news → total_of now ≡ total_of before +ℤ total_of news -ℤ total_of olds
totals now olds before news h = let e : total_of now +ℤ total_of olds ≡ total_of before +ℤ total_of news = total_balanced now olds before news h in omega (arith, ints)

pub sum_kept : (vs : List Value) → sum_in (sum_value vs) ≡ total_of vs
sum_kept [] = refl
sum_kept (v ∷ vs) = refl

pub average_kept : (vs : List Value) → sum_in (avg_value vs) ≡ total_of vs
average_kept [] = refl
average_kept (v ∷ vs) = refl

-- the value of an aggregate after the changes, by what its row said before
pub agg_moved : {T : Type 0} (value : T → ColRef → Value) (now olds before news : List T) → Balanced now olds before news → (a : Agg) → IsAdded a → agg_value value now a ≡ moved_agg (agg_value value before) (acc_of value news) (acc_of value olds) a
agg_moved value now olds before news h CountAll added = ap (λ n. Num (pos n)) (lengths now olds before news h)
agg_moved value now olds before news h (Count e) added = ap (λ n. Num (pos n)) (lengths (values_of value e now) (values_of value e olds) (values_of value e before) (values_of value e news) (values_balanced value e now olds before news h))
agg_moved value now olds before news h (Sum e) added =
    let b : Balanced (values_of value e now) (values_of value e olds) (values_of value e before) (values_of value e news) = values_balanced value e now olds before news h in
    let n = lengths (values_of value e now) (values_of value e olds) (values_of value e before) (values_of value e news) b in
    let s = totals (values_of value e now) (values_of value e olds) (values_of value e before) (values_of value e news) b in
    agg_value-acc value now (Sum e) ∙ (λ i. sum_by_count (n i) (s i)) ∙ sym (λ i. sum_by_count (length (values_of value e before) + length (values_of value e news) - length (values_of value e olds)) (sum_kept (values_of value e before) i +ℤ total_of (values_of value e news) -ℤ total_of (values_of value e olds)))
agg_moved value now olds before news h (Avg e) added =
    let b : Balanced (values_of value e now) (values_of value e olds) (values_of value e before) (values_of value e news) = values_balanced value e now olds before news h in
    let n = lengths (values_of value e now) (values_of value e olds) (values_of value e before) (values_of value e news) b in
    let s = totals (values_of value e now) (values_of value e olds) (values_of value e before) (values_of value e news) b in
    agg_value-acc value now (Avg e) ∙ (λ i. average_by (n i) (s i)) ∙ sym (λ i. average_by (length (values_of value e before) + length (values_of value e news) - length (values_of value e olds)) (average_kept (values_of value e before) i +ℤ total_of (values_of value e news) -ℤ total_of (values_of value e olds)))
agg_moved value now olds before news h (Min e) added = absurd added
agg_moved value now olds before news h (Max e) added = absurd added

-- it needs what the row said at three aggregates alone
moved_by : (f g : Agg → Value) (news olds : Agg → Acc) (a : Agg) → f CountAll ≡ g CountAll → f (counting a) ≡ g (counting a) → f a ≡ g a → moved_agg f news olds a ≡ moved_agg g news olds a
moved_by f g news olds a x y z = λ i. acc_value a (moved_acc (known_acc (count_in (x i)) (count_in (y i)) (z i)) (news a) (olds a))

-- what a row says is right of each aggregate of the items, of its count, and of COUNT(*)
abbrev pub ItemKnown : {T : Type 0} → (T → ColRef → Value) → List T → (Agg → Value) → Item → Type 0
ItemKnown value before said (item.Col c) = Unit {0}
ItemKnown value before said (item.Agg a) = IsAdded a × (said (counting a) ≡ agg_value value before (counting a)) × (said a ≡ agg_value value before a)

abbrev pub AllKnown : {T : Type 0} → (T → ColRef → Value) → List T → (Agg → Value) → List Item → Type 0
AllKnown value before said [] = Unit {0}
AllKnown value before said (i ∷ is) = ItemKnown value before said i × AllKnown value before said is

module _ {T : Type 0} (value : T → ColRef → Value) (now olds before news : List T) (h : Balanced now olds before news) (said : Agg → Value) (rows : said CountAll ≡ agg_value value before CountAll) where
  item_moved : (keys : List ColRef) (k : List Value) (i : Item) → ItemKnown value before said i → group_item value keys (k, now) i ≡ moved_item keys k said (acc_of value news) (acc_of value olds) i
  item_moved keys k (item.Col c) known = refl
  item_moved keys k (item.Agg a) known =
      agg_moved value now olds before news h a known.0 ∙ sym (moved_by said (agg_value value before) (acc_of value news) (acc_of value olds) a rows known.1 known.2)

  pub items_moved : (keys : List ColRef) (k : List Value) (is : List Item) → AllKnown value before said is → map (group_item value keys (k, now)) is ≡ map (moved_item keys k said (acc_of value news) (acc_of value olds)) is
  items_moved keys k [] known = refl
  items_moved keys k (i ∷ is) known = λ j. item_moved keys k i known.0 j ∷ items_moved keys k is known.1 j

  rows_moved : length now ≡ count_in (moved_agg said (acc_of value news) (acc_of value olds) CountAll)
  rows_moved = ap count_in (agg_moved value now olds before news h CountAll tt ∙ sym (moved_by said (agg_value value before) (acc_of value news) (acc_of value olds) CountAll rows rows rows))

pub is_empty-length : {A : Type 0} (xs : List A) → is_empty xs ≡ (length xs == 0)
is_empty-length [] = refl
is_empty-length (x ∷ xs) = grind (arith, Decides-eqb (length (x ∷ xs)) 0)

-- the row of a group after changes, where its row before says enough
pub row_moved : {T : Type 0} (value : T → ColRef → Value) (q : StarQuery) (k : List Value) (now olds before news : List T) → Balanced now olds before news → (said : Agg → Value)
    → said CountAll ≡ agg_value value (with_key (key_of value q.keys) k before) CountAll
    → AllKnown value (with_key (key_of value q.keys) k before) said q.items
    → group_row value q k now ≡ moved_row q k said (acc_of value (with_key (key_of value q.keys) k news)) (acc_of value (with_key (key_of value q.keys) k olds))
row_moved {T} value q k now olds before news h said rows known =
    let at : List T → List T = with_key (key_of value q.keys) k in
    let b : Balanced (at now) (at olds) (at before) (at news) = Balanced-filter (λ t. same_values (key_of value q.keys t) k) now olds before news h in
    let n : is_empty (at now) ≡ (count_in (moved_agg said (acc_of value (at news)) (acc_of value (at olds)) CountAll) == 0) = is_empty-length (at now) ∙ ap (λ m. m == 0) (rows_moved value (at now) (at olds) (at before) (at news) b said rows) in
    let is : map (group_item value q.keys (k, at now)) q.items ≡ map (moved_item q.keys k said (acc_of value (at news)) (acc_of value (at olds))) q.items = items_moved value (at now) (at olds) (at before) (at news) b said rows q.keys k q.items known in
    λ i. cond (n i) None (Some (is i))
