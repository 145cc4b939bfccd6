-- Indexes one after another: those of a table, each with its column.
use Rattle.std.proofs.Common.{◌≡◌, ◌∙◌, ◌<◌, ◌≤◌, ◌+◌, ◌++◌, take, sym, ap, subst, refl, arith, Bool, true, false, List, [], ◌∷◌, Some, None, Option, Result, Ok, Err, ℕ, zero, suc, length, map, slice_get, option_map, unwrap_or}
use Rattle.std.proofs.lemmas.Option.{none-some, same_Some, slice_get-get_or, slice_get_past}
use Rattle.std.specs.FinMap as fin
use Rattle.std.specs.List.{slice_index, slice_index_or, slice_set}
use Rattle.std.specs.Ordering.{nat_cmp}
use Rattle.std.specs.declared.cmp.Ordering.{Ordering}
use Rattle.wh_base.specs.Lists.{where_true}
use Rattle.wh_base.specs.Values.{value_cmp}
use Rattle.wh_base.specs.declared.tables.ForeignDef.{ForeignDef}
use Rattle.wh_base.specs.declared.tables.TableDef.{TableDef}
use Rattle.wh_base.specs.declared.values.Value.{Value}
use Rattle.wh_dml.specs.declared.changes.RowChange.{RowChange}
use Rattle.wh_keyindex.specs.Children.{Values, places_with}
use Rattle.wh_keyindex.proofs.Numbered.{few_with}
use Rattle.wh_keys.specs.Coded.{HeldPlaces, HeldValues, held_of}
use Rattle.wh_keys.specs.Indexes.{Places, keys_changed, values_changed}
use Rattle.wh_keys.specs.Made.{all_keys_changed, all_values_changed, also_changed, changed_at, empty_indexes, foreign_at, key_at, with_change}
use Rattle.wh_keys.specs.Undoing.{Changing, all_before, all_now, kept, nothing, rolled_back}

more_of_one : {A B : Type 0} (y : B) (xs : List A) (n : ℕ) → n < length xs → map (λ _. y) (take (suc n) xs) ≡ map (λ _. y) (take n xs) ++ y ∷ []
more_of_one y [] n low = absurd (omega arith)
more_of_one y (x ∷ xs) zero low = refl
more_of_one y (x ∷ xs) (suc n) low = ap (λ ys. y ∷ ys) (more_of_one y xs n (omega arith))

pub one_more : {A B : Type 0} (y z : B) (xs : List A) (ys zs : List B) (n : ℕ) → n < length xs → ys ≡ map (λ _. y) (take n xs) → z ≡ y → zs ≡ ys ++ z ∷ []
    → zs ≡ map (λ _. y) (take (n + 1) xs)
one_more y z xs ys zs n low so_far is pushed =
    let next : suc n ≡ n + 1 = omega arith in
    pushed ∙ (λ i. so_far i ++ is i ∷ []) ∙ sym (more_of_one y xs n low) ∙ ap (λ m. map (λ _. y) (take m xs)) next

pub item_is : {A : Type 0} (xs : List A) (n : ℕ) (x : A) → n < length xs → x ≡ slice_index_or xs n x → slice_get xs n ≡ Some x
item_is xs n x low is = slice_get-get_or xs n x low ∙ ap Some (sym is)

-- ---- one item set

module _ {M : Type 0} where
  pub before_at : (cs : List (Changing M)) (n : ℕ) (c d : Changing M) → slice_get cs n ≡ Some c → d.before ≡ c.before → all_before (slice_set cs n d) ≡ all_before cs
  before_at [] n c d there same = absurd (none-some c there)
  before_at (b ∷ cs) zero c d there same = let is = same_Some b c there in ap (λ m. m ∷ all_before cs) (same ∙ ap (λ (x : Changing M). x.before) (sym is))
  before_at (b ∷ cs) (suc n) c d there same = ap (λ ms. b.before ∷ ms) (before_at cs n c d there same)

  carried : (h : M → List M) (made : Bool) (m : M) → option_map h (where_true made m) ≡ where_true made (h m)
  carried h true m = refl
  carried h false m = refl

  carried_list : (m : M) (made : Bool) (ms : List M) → option_map (λ ns. m ∷ ns) (where_true made ms) ≡ where_true made (m ∷ ms)
  carried_list m true ms = refl
  carried_list m false ms = refl

  pub made_at : (f : M → Option M) (made : Bool) (cs : List (Changing M)) (n : ℕ) (c d : Changing M) → slice_get cs n ≡ Some c → f c.now ≡ where_true made d.now
      → changed_at n f (all_now cs) ≡ where_true made (all_now (slice_set cs n d))
  made_at f made [] n c d there is = absurd (none-some c there)
  made_at f made (b ∷ cs) zero c d there is =
      let same = same_Some b c there in
      ap (option_map (λ m. m ∷ all_now cs)) (ap (λ (x : Changing M). f x.now) same ∙ is) ∙ carried (λ m. m ∷ all_now cs) made d.now
  made_at f made (b ∷ cs) (suc n) c d there is =
      ap (option_map (λ ms. b.now ∷ ms)) (made_at f made cs n c d there is) ∙ carried_list b.now made (all_now (slice_set cs n d))

  pub changed_to : (f : M → M) (cs : List (Changing M)) (n : ℕ) (c d : Changing M) → slice_get cs n ≡ Some c → d.now ≡ f c.now → all_now (slice_set cs n d) ≡ with_change n f (all_now cs)
  changed_to f [] n c d there is = absurd (none-some c there)
  changed_to f (b ∷ cs) zero c d there is = let same = same_Some b c there in ap (λ m. m ∷ all_now cs) (is ∙ ap (λ (x : Changing M). f x.now) (sym same))
  changed_to f (b ∷ cs) (suc n) c d there is = ap (λ ms. b.now ∷ ms) (changed_to f cs n c d there is)

  pub length_now : (cs : List (Changing M)) → length (all_now cs) ≡ length cs
  length_now [] = refl
  length_now (c ∷ cs) = ap suc (length_now cs)

  pub get_now : (cs : List (Changing M)) (n : ℕ) → slice_get (all_now cs) n ≡ option_map (λ (c : Changing M). c.now) (slice_get cs n)
  get_now [] n = refl
  get_now (c ∷ cs) zero = refl
  get_now (c ∷ cs) (suc n) = get_now cs n

  -- ---- the end of a block

  pub now_rolled_back : (cs : List (Changing M)) → all_now (map rolled_back cs) ≡ all_before cs
  now_rolled_back [] = refl
  now_rolled_back (c ∷ cs) = ap (λ ms. c.before ∷ ms) (now_rolled_back cs)

  pub before_rolled_back : (cs : List (Changing M)) → all_before (map rolled_back cs) ≡ all_before cs
  before_rolled_back [] = refl
  before_rolled_back (c ∷ cs) = ap (λ ms. c.before ∷ ms) (before_rolled_back cs)

  pub now_kept : (cs : List (Changing M)) → all_now (map kept cs) ≡ all_now cs
  now_kept [] = refl
  now_kept (c ∷ cs) = ap (λ ms. c.now ∷ ms) (now_kept cs)

  pub before_kept : (cs : List (Changing M)) → all_before (map kept cs) ≡ all_now cs
  before_kept [] = refl
  before_kept (c ∷ cs) = ap (λ ms. c.now ∷ ms) (before_kept cs)

-- ---- no rows

module _ {A K X : Type 0} {R : K → K → Ordering} where
  now_nothing : (xs : List A) → all_now (map (λ _. nothing {X = X} {R = R}) xs) ≡ map (λ _. fin.empty) xs
  now_nothing [] = refl
  now_nothing (x ∷ xs) = ap (λ ms. fin.empty ∷ ms) (now_nothing xs)

  before_nothing : (xs : List A) → all_before (map (λ _. nothing {X = X} {R = R}) xs) ≡ map (λ _. fin.empty) xs
  before_nothing [] = refl
  before_nothing (x ∷ xs) = ap (λ ms. fin.empty ∷ ms) (before_nothing xs)

pub held_empty : (d : TableDef) (ks : List HeldPlaces) (fs : List HeldValues) → ks ≡ map (λ _. nothing) d.keys → fs ≡ map (λ _. nothing) d.foreign
    → held_of ks fs ≡ record { now = empty_indexes d; before = empty_indexes d }
held_empty d ks fs keys_are foreign_are =
    (λ i. held_of (keys_are i) (foreign_are i))
    ∙ (λ i. record { now = record { keys = now_nothing d.keys i; foreign = now_nothing d.foreign i }; before = record { keys = before_nothing d.keys i; foreign = before_nothing d.foreign i } })

pub ruleset empty = (held_empty)

pub held_rolled_back : (ks : List HeldPlaces) (fs : List HeldValues) → held_of (map rolled_back ks) (map rolled_back fs) ≡ rolled_back (held_of ks fs)
held_rolled_back ks fs = λ i. record { now = record { keys = now_rolled_back ks i; foreign = now_rolled_back fs i }; before = record { keys = before_rolled_back ks i; foreign = before_rolled_back fs i } }

pub held_kept : (ks : List HeldPlaces) (fs : List HeldValues) → held_of (map kept ks) (map kept fs) ≡ kept (held_of ks fs)
held_kept ks fs = λ i. record { now = record { keys = now_kept ks i; foreign = now_kept fs i }; before = record { keys = before_kept ks i; foreign = before_kept fs i } }

-- ---- one index asked

pub past_end : {A : Type 0} (xs ys : List A) (n : ℕ) → ys ≡ xs → length ys ≤ n → slice_get xs n ≡ None
past_end xs ys n are past = slice_get_past xs n (subst (λ zs. length zs ≤ n) are past)

pub found_key : (ks : List HeldPlaces) (n : ℕ) (value : Value) (k : HeldPlaces) → Some k ≡ slice_get ks n → fin.get k.now value ≡ fin.get (key_at (all_now ks) n) value
found_key ks n value k there = ap (λ o. fin.get (unwrap_or o fin.empty) value) (ap (option_map (λ (c : HeldPlaces). c.now)) there ∙ sym (get_now ks n))

pub no_key : (ks given : List HeldPlaces) (n : ℕ) (value : Value) → given ≡ ks → length given ≤ n → None ≡ fin.get (key_at (all_now ks) n) value
no_key ks given n value are past =
    let none : slice_get ks n ≡ None = past_end ks given n are past in
    sym (ap (λ o. fin.get (unwrap_or o fin.empty) value) (get_now ks n ∙ ap (option_map (λ (c : HeldPlaces). c.now)) none) ∙ fin.get-empty value_cmp value)

pub counted : (vs : List HeldValues) (n : ℕ) (value : Value) (v : HeldValues) → Some v ≡ slice_get vs n → places_with value v.now ≡ places_with value (foreign_at (all_now vs) n)
counted vs n value v there = ap (λ o. places_with value (unwrap_or o fin.empty)) (ap (option_map (λ (c : HeldValues). c.now)) there ∙ sym (get_now vs n))

pub no_foreign : (vs given : List HeldValues) (n : ℕ) (value : Value) → given ≡ vs → length given ≤ n → 0 ≡ places_with value (foreign_at (all_now vs) n)
no_foreign vs given n value are past =
    let none : slice_get vs n ≡ None = past_end vs given n are past in
    let no_places : places_with value fin.empty ≡ 0 = omega (arith, few_with value fin.empty, fin.len-empty nat_cmp Value) in
    sym (ap (λ o. places_with value (unwrap_or o fin.empty)) (get_now vs n ∙ ap (option_map (λ (c : HeldValues). c.now)) none) ∙ no_places)

pub ruleset found = (found_key, counted)

-- ---- the keys in turn

abbrev consed : Places → Result (List Places) ℕ → Result (List Places) ℕ
consed m (Ok ms) = Ok (m ∷ ms)
consed m (Err column) = Err column

-- the indexes from a place on are changed, and those before it stay
abbrev pub keys_from : ℕ → List ℕ → List RowChange → List Places → Result (List Places) ℕ
keys_from zero columns cs ms = all_keys_changed columns cs ms
keys_from (suc n) [] cs ms = Ok ms
keys_from (suc n) (column ∷ columns) cs [] = Ok []
keys_from (suc n) (column ∷ columns) cs (m ∷ ms) = consed m (keys_from n columns cs ms)

also_consed : (column : ℕ) (m : Places) (r : Result (List Places) ℕ) → consed m r ≡ also_changed column (Some m) r
also_consed column m (Ok ms) = refl
also_consed column m (Err other) = refl

keys_next : (columns : List ℕ) (cs : List RowChange) (ms ns : List Places) (n : ℕ) → n < length columns → changed_at n (keys_changed (slice_index columns n) cs) ms ≡ Some ns
    → keys_from (suc n) columns cs ns ≡ keys_from n columns cs ms
keys_next [] cs ms ns n low is = absurd (omega arith)
keys_next (column ∷ columns) cs [] ns n low is = absurd (none-some ns is)
keys_next (column ∷ columns) cs (m ∷ ms) ns zero low is = by (keys_changed column cs m) is
  where
    by : (o : Option Places) → option_map (λ k. k ∷ ms) o ≡ Some ns → keys_from 1 (column ∷ columns) cs ns ≡ also_changed column o (all_keys_changed columns cs ms)
    by None e = absurd (none-some ns e)
    by (Some k) e = ap (keys_from 1 (column ∷ columns) cs) (sym (same_Some (k ∷ ms) ns e)) ∙ also_consed column k (all_keys_changed columns cs ms)
keys_next (column ∷ columns) cs (m ∷ ms) ns (suc n) low is =
    by (changed_at n (keys_changed (slice_index columns n) cs) ms) refl is (λ ks at. keys_next columns cs ms ks n (omega arith) at)
  where
    by : (o : Option (List Places)) → changed_at n (keys_changed (slice_index columns n) cs) ms ≡ o → option_map (λ ks. m ∷ ks) o ≡ Some ns
        → ((ks : List Places) → changed_at n (keys_changed (slice_index columns n) cs) ms ≡ Some ks → keys_from (suc n) columns cs ks ≡ keys_from n columns cs ms)
        → keys_from (suc (suc n)) (column ∷ columns) cs ns ≡ consed m (keys_from n columns cs ms)
    by None at e next = absurd (none-some ns e)
    by (Some ks) at e next = ap (keys_from (suc (suc n)) (column ∷ columns) cs) (sym (same_Some (m ∷ ks) ns e)) ∙ ap (consed m) (next ks at)

keys_stop : (columns : List ℕ) (cs : List RowChange) (ms : List Places) (n : ℕ) → n < length columns → n < length ms → changed_at n (keys_changed (slice_index columns n) cs) ms ≡ None
    → keys_from n columns cs ms ≡ Err (slice_index columns n)
keys_stop [] cs ms n low lower is = absurd (omega arith)
keys_stop (column ∷ columns) cs [] n low lower is = absurd (omega arith)
keys_stop (column ∷ columns) cs (m ∷ ms) zero low lower is = by (keys_changed column cs m) is
  where
    by : (o : Option Places) → option_map (λ k. k ∷ ms) o ≡ None → also_changed column o (all_keys_changed columns cs ms) ≡ Err column
    by None e = refl
    by (Some k) e = absurd (none-some (k ∷ ms) (sym e))
keys_stop (column ∷ columns) cs (m ∷ ms) (suc n) low lower is =
    by (changed_at n (keys_changed (slice_index columns n) cs) ms) refl is (λ at. keys_stop columns cs ms n (omega arith) (omega arith) at)
  where
    by : (o : Option (List Places)) → changed_at n (keys_changed (slice_index columns n) cs) ms ≡ o → option_map (λ ks. m ∷ ks) o ≡ None
        → (changed_at n (keys_changed (slice_index columns n) cs) ms ≡ None → keys_from n columns cs ms ≡ Err (slice_index columns n))
        → consed m (keys_from n columns cs ms) ≡ Err (slice_index columns n)
    by None at e stop = ap (consed m) (stop at)
    by (Some ks) at e stop = absurd (none-some (m ∷ ks) (sym e))

pub keys_on : (columns : List ℕ) (cs : List RowChange) (ms ns : List Places) (n : ℕ) (made : Bool) → n < length columns
    → changed_at n (keys_changed (slice_index columns n) cs) ms ≡ where_true made ns → made ≡ true → keys_from (n + 1) columns cs ns ≡ keys_from n columns cs ms
keys_on columns cs ms ns n made low is true_is =
    let next : n + 1 ≡ suc n = omega arith in
    ap (λ k. keys_from k columns cs ns) next ∙ keys_next columns cs ms ns n low (is ∙ ap (λ b. where_true b ns) true_is)

pub keys_clash : (columns : List ℕ) (cs : List RowChange) (ks : List HeldPlaces) (ns : List Places) (n : ℕ) (made : Bool) → n < length columns → length columns ≡ length ks
    → changed_at n (keys_changed (slice_index columns n) cs) (all_now ks) ≡ where_true made ns → made ≡ false → keys_from n columns cs (all_now ks) ≡ Err (slice_index columns n)
keys_clash columns cs ks ns n made low as_many is false_is =
    let as_many_now = length_now ks in
    keys_stop columns cs (all_now ks) n low (omega (arith, low, as_many, as_many_now)) (is ∙ ap (λ b. where_true b ns) false_is)

keys_end : (columns : List ℕ) (cs : List RowChange) (ms : List Places) → length columns ≡ length ms → keys_from (length columns) columns cs ms ≡ Ok ms
keys_end [] cs [] as_many = refl
keys_end [] cs (m ∷ ms) as_many = absurd (omega arith)
keys_end (column ∷ columns) cs [] as_many = absurd (omega arith)
keys_end (column ∷ columns) cs (m ∷ ms) as_many = ap (consed m) (keys_end columns cs ms (omega arith))

pub keys_all : (columns : List ℕ) (cs : List RowChange) (ks : List HeldPlaces) (n : ℕ) → n ≡ length columns → length columns ≡ length ks → keys_from n columns cs (all_now ks) ≡ Ok (all_now ks)
keys_all columns cs ks n all as_many = ap (λ m. keys_from m columns cs (all_now ks)) all ∙ keys_end columns cs (all_now ks) (as_many ∙ sym (length_now ks))

pub ruleset keys = (keys_on, keys_clash)

-- ---- the foreign keys in turn

-- the indexes from a place on are changed, and those before it stay
abbrev pub foreign_from : ℕ → List ForeignDef → List RowChange → List Values → List Values
foreign_from zero fs cs ms = all_values_changed fs cs ms
foreign_from (suc n) [] cs ms = ms
foreign_from (suc n) (f ∷ fs) cs [] = []
foreign_from (suc n) (f ∷ fs) cs (m ∷ ms) = m ∷ foreign_from n fs cs ms

foreign_next : (fs : List ForeignDef) (cs : List RowChange) (ms : List Values) (n : ℕ) (f : ForeignDef) → slice_get fs n ≡ Some f
    → foreign_from (suc n) fs cs (with_change n (values_changed f.column cs) ms) ≡ foreign_from n fs cs ms
foreign_next [] cs ms n f there = absurd (none-some f there)
foreign_next (g ∷ fs) cs [] zero f there = refl
foreign_next (g ∷ fs) cs [] (suc n) f there = refl
foreign_next (g ∷ fs) cs (m ∷ ms) zero f there =
    ap (λ (d : ForeignDef). values_changed d.column cs m ∷ all_values_changed fs cs ms) (sym (same_Some g f there))
foreign_next (g ∷ fs) cs (m ∷ ms) (suc n) f there = ap (λ ns. m ∷ ns) (foreign_next fs cs ms n f there)

pub foreign_on : (fs : List ForeignDef) (cs : List RowChange) (ms ns : List Values) (n : ℕ) (d : ForeignDef) → n < length fs
    → ns ≡ with_change n (values_changed (slice_index_or fs n d).column cs) ms → foreign_from (n + 1) fs cs ns ≡ foreign_from n fs cs ms
foreign_on fs cs ms ns n d low is =
    let next : n + 1 ≡ suc n = omega arith in
    ap (λ k. foreign_from k fs cs ns) next ∙ ap (foreign_from (suc n) fs cs) is ∙ foreign_next fs cs ms n (slice_index_or fs n d) (slice_get-get_or fs n d low)

foreign_end : (fs : List ForeignDef) (cs : List RowChange) (ms : List Values) → length fs ≡ length ms → foreign_from (length fs) fs cs ms ≡ ms
foreign_end [] cs [] as_many = refl
foreign_end [] cs (m ∷ ms) as_many = absurd (omega arith)
foreign_end (f ∷ fs) cs [] as_many = absurd (omega arith)
foreign_end (f ∷ fs) cs (m ∷ ms) as_many = ap (λ ns. m ∷ ns) (foreign_end fs cs ms (omega arith))

pub foreign_all : (fs : List ForeignDef) (cs : List RowChange) (vs : List HeldValues) (n : ℕ) → n ≡ length fs → length fs ≡ length vs → foreign_from n fs cs (all_now vs) ≡ all_now vs
foreign_all fs cs vs n all as_many = ap (λ m. foreign_from m fs cs (all_now vs)) all ∙ foreign_end fs cs (all_now vs) (as_many ∙ sym (length_now vs))

pub ruleset foreign = (foreign_on)
