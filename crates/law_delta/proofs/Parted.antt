-- The entries whose value of a selected column passes a test are those of the tuples whose value does.
use Rattle.std.proofs.Common.{◌≡◌, ◌∙◌, sym, ap, subst, refl, arith, ℕ, ◌<◌, suc, ◌+◌, Bool, true, false, cond, not, List, [], ◌∷◌, ◌++◌, length, map, Some, None, true≢false}
use Rattle.std.specs.Prelude.{filter, is_none, slice_get, unwrap_or, option_map, ◌==◌, ◌||◌}
use Rattle.std.specs.List.{find, list_all, list_any, position_or_len}
use Rattle.std.proofs.lemmas.Bool.{eqb-true, lt-ltb}
use Rattle.std.proofs.lemmas.List.Elements.{filter-append}
use Rattle.std.proofs.lemmas.Option.{slice_get-map}
use Rattle.wh_base.proofs.Sorting.{SameCounts, sorted_counts, times}
use Rattle.wh_base.specs.Columns.{has_column, same_column}
use Rattle.wh_base.specs.Lists.{distinct, distinct_after, has_number, is_empty, option_case, sorted_by}
use Rattle.wh_base.specs.Tables.{value_at}
use Rattle.wh_base.specs.Values.{same_values}
use Rattle.wh_base.specs.declared.columns.ColRef.{ColRef}
use Rattle.wh_base.specs.declared.queries.Item.TheVariants as item
use Rattle.wh_base.specs.declared.queries.StarQuery.{StarQuery}
use Rattle.wh_base.specs.declared.tables.RowAt.{RowAt}
use Rattle.wh_base.specs.declared.values.Value.{Value}
use Rattle.wh_base.specs.declared.values.Value.TheVariants.{Null}
use Rattle.wh_base.specs.declared.views.ViewEntry.{ViewEntry}
use Rattle.def_meaning.specs.Joined.{joined_over, product, row_of, tuple_true}
use Rattle.def_meaning.specs.Meaning.{Grouped, entries, entry_cmp, group_entry, group_item, grouped_entries, groups_by, key_of, key_value, plain_entries, plain_item, test_true}
use Rattle.def_meaning.proofs.Entries.{same_entries_same_view}
use Rattle.law_lists.proofs.Counts.{times-append, SameCounts-filter}
use Rattle.law_lists.proofs.Lists.{filter-map}
use Rattle.law_lists.proofs.Numbers.{Distinct}
use Rattle.law_delta.specs.Deltas.{front_by}
use Rattle.law_delta.specs.Moved.{side_tuples, with_key, with_rows}
use Rattle.law_delta.proofs.Applying.{filter_within}
use Rattle.law_delta.proofs.Grouped.{groups_keyed}
use Rattle.law_delta.proofs.JoinView.{filter_front, filter_turns, times_parts}
use Rattle.law_delta.proofs.Lookups.{same_is}
use Rattle.wh_base.proofs.SameItems.{same_column-Decides}
use Rattle.law_delta.proofs.Star.{root_rows}

-- ---- tuples by the row of one table

filter_back : {A : Type 0} (p r : List A → Bool) (ts : List (List A)) → ((x : A) (rest : List A) → p (x ∷ rest) ≡ r rest) → (xs : List A) → filter p (front_by xs ts) ≡ front_by xs (filter r ts)
filter_back p r ts h [] = refl
filter_back {A} p r ts h (x ∷ xs) =
    filter-append p (map (λ rest. x ∷ rest) ts) (front_by xs ts) ∙ (λ i. all ts i ++ filter_back p r ts h xs i)
  where
    all : (us : List (List A)) → filter p (map (λ rest. x ∷ rest) us) ≡ map (λ rest. x ∷ rest) (filter r us)
    all us = filter-map p (λ rest. x ∷ rest) us ∙ (λ i. map (λ rest. x ∷ rest) (filter (λ rest. h x rest i) us))

product_filtered : (p : RowAt → Bool) (n : ℕ) (rows : ℕ → List RowAt) (ns : List ℕ) → has_number ns n ≡ true → Distinct ns
    → filter (λ t. p (row_of ns t n)) (product (map rows ns)) ≡ product (map (with_rows n (filter p (rows n)) rows) ns)
product_filtered p n rows [] there once = cc
product_filtered p n rows (m ∷ ns) there once = by (m == n) refl there (λ h. product_filtered p n rows ns h once.1)
  where
    by : (b : Bool) → (m == n) ≡ b → (b || has_number ns n) ≡ true → (has_number ns n ≡ true → filter (λ t. p (row_of ns t n)) (product (map rows ns)) ≡ product (map (with_rows n (filter p (rows n)) rows) ns))
        → filter (λ t. p (row_of (m ∷ ns) t n)) (front_by (rows m) (product (map rows ns))) ≡ product (map (with_rows n (filter p (rows n)) rows) (m ∷ ns))
    by true e there more =
        let same : m ≡ n = eqb-true m n e in
        let none : has_number ns n ≡ false = subst (λ k. has_number ns k ≡ false) same once.0 in
        filter_front (λ t. p (row_of (m ∷ ns) t n)) p (product (map rows ns)) (λ x rest. ap (λ b. p (cond b x (row_of ns rest n))) e) (rows m)
        ∙ ap (λ k. front_by (filter p (rows k)) (product (map rows ns))) same
        ∙ ap product (sym (root_rows n (filter p (rows n)) rows ns none))
        ∙ ap (λ k. product (map (with_rows n (filter p (rows n)) rows) (k ∷ ns))) (sym same)
    by false e there more =
        filter_back (λ t. p (row_of (m ∷ ns) t n)) (λ t. p (row_of ns t n)) (product (map rows ns)) (λ x rest. ap (λ b. p (cond b x (row_of ns rest n))) e) (rows m)
        ∙ ap (front_by (rows m)) (more there)
        ∙ (λ i. front_by (cond (sym e i) (filter p (rows n)) (rows m)) (product (map (with_rows n (filter p (rows n)) rows) ns)))

pub joined_filtered : (q : StarQuery) (p : RowAt → Bool) (n : ℕ) (rows : ℕ → List RowAt) → has_number q.tables n ≡ true → Distinct q.tables
    → filter (λ t. p (row_of q.tables t n)) (joined_over q rows) ≡ side_tuples q n (filter p (rows n)) rows
joined_filtered q p n rows there once =
    filter_turns (λ t. p (row_of q.tables t n)) (tuple_true q) (product (map rows q.tables)) ∙ ap (filter (tuple_true q)) (product_filtered p n rows q.tables there once)

-- ---- groups by their keys

any_filtered : (tk : List Value → Bool) (x : List Value) (seen : List (List Value)) → tk x ≡ true → list_any (same_values x) (filter tk seen) ≡ list_any (same_values x) seen
any_filtered tk x [] h = refl
any_filtered tk x (y ∷ seen) h = by (tk y) refl (same_values x y) refl (any_filtered tk x seen h)
  where
    by : (a : Bool) → tk y ≡ a → (b : Bool) → same_values x y ≡ b → list_any (same_values x) (filter tk seen) ≡ list_any (same_values x) seen
        → list_any (same_values x) (cond a (y ∷ filter tk seen) (filter tk seen)) ≡ (b || list_any (same_values x) seen)
    by true e b f rest = (λ i. f i || rest i)
    by false e true f rest = absurd (true≢false (sym h ∙ ap tk (same_is x y f) ∙ e))
    by false e false f rest = rest

distinct_filtered : (tk : List Value → Bool) (seen xs : List (List Value)) → filter tk (distinct_after same_values seen xs) ≡ distinct_after same_values (filter tk seen) (filter tk xs)
distinct_filtered tk seen [] = refl
distinct_filtered tk seen (x ∷ xs) = by (tk x) refl (list_any (same_values x) seen) refl (distinct_filtered tk seen xs) (distinct_filtered tk (x ∷ seen) xs)
  where
    by : (a : Bool) → tk x ≡ a → (b : Bool) → list_any (same_values x) seen ≡ b
        → filter tk (distinct_after same_values seen xs) ≡ distinct_after same_values (filter tk seen) (filter tk xs)
        → filter tk (distinct_after same_values (x ∷ seen) xs) ≡ distinct_after same_values (filter tk (x ∷ seen)) (filter tk xs)
        → filter tk (cond b (distinct_after same_values seen xs) (x ∷ distinct_after same_values (x ∷ seen) xs)) ≡ distinct_after same_values (filter tk seen) (cond a (x ∷ filter tk xs) (filter tk xs))
    by true e true f old new =
        old ∙ sym (ap (λ c. cond c (distinct_after same_values (filter tk seen) (filter tk xs)) (x ∷ distinct_after same_values (x ∷ filter tk seen) (filter tk xs))) (any_filtered tk x seen e ∙ f))
    by true e false f old new =
        ap (λ c. cond c (x ∷ filter tk (distinct_after same_values (x ∷ seen) xs)) (filter tk (distinct_after same_values (x ∷ seen) xs))) e
        ∙ ap (λ rest. x ∷ rest) (new ∙ ap (λ c. distinct_after same_values (cond c (x ∷ filter tk seen) (filter tk seen)) (filter tk xs)) e)
        ∙ sym (ap (λ c. cond c (distinct_after same_values (filter tk seen) (filter tk xs)) (x ∷ distinct_after same_values (x ∷ filter tk seen) (filter tk xs))) (any_filtered tk x seen e ∙ f))
    by false e true f old new = old
    by false e false f old new =
        ap (λ c. cond c (x ∷ filter tk (distinct_after same_values (x ∷ seen) xs)) (filter tk (distinct_after same_values (x ∷ seen) xs))) e
        ∙ new ∙ ap (λ c. distinct_after same_values (cond c (x ∷ filter tk seen) (filter tk seen)) (filter tk xs)) e

abbrev group_at : {T : Type 0} → (T → List Value) → List T → List Value → Grouped T
group_at key ts k = (k, with_key key k ts)

module _ {T : Type 0} (key : T → List Value) (tk : List Value → Bool) (ts : List T) where
  abbrev few : List T
  few = filter (λ t. tk (key t)) ts

  same_groups : (ks : List (List Value)) → map (group_at key ts) (filter tk ks) ≡ map (group_at key few) (filter tk ks)
  same_groups [] = refl
  same_groups (k ∷ ks) = by (tk k) refl (same_groups ks)
    where
      by : (b : Bool) → tk k ≡ b → map (group_at key ts) (filter tk ks) ≡ map (group_at key few) (filter tk ks)
          → map (group_at key ts) (cond b (k ∷ filter tk ks) (filter tk ks)) ≡ map (group_at key few) (cond b (k ∷ filter tk ks) (filter tk ks))
      by true e rest =
          let own : with_key key k few ≡ with_key key k ts = filter_within (λ t. same_values (key t) k) (λ t. tk (key t)) (λ t s. ap tk (same_is (key t) k s) ∙ e) ts in
          λ i. (k, sym own i) ∷ rest i
      by false e rest = rest

  groups_filtered : filter (λ g. tk g.0) (groups_by key ts) ≡ groups_by key few
  groups_filtered =
      filter-map (λ (g : Grouped T). tk g.0) (group_at key ts) (distinct same_values (map key ts))
      ∙ same_groups (distinct same_values (map key ts))
      ∙ ap (map (group_at key few)) (distinct_filtered tk [] (map key ts) ∙ ap (distinct same_values) (filter-map tk key ts))

-- ---- the value of a group column in a key

found_place : {A : Type 0} (p : A → Bool) (xs : List A) → is_none (find p xs) ≡ false → (position_or_len p xs < length xs) × (slice_get xs (position_or_len p xs) ≡ find p xs)
found_place p [] e = absurd (true≢false e)
found_place p (x ∷ xs) e = by (p x) e (found_place p xs)
  where
    one_more : (n : ℕ) → 1 + n ≡ suc n
    one_more n = omega arith

    by : (b : Bool) → is_none (cond b (Some x) (find p xs)) ≡ false
        → (is_none (find p xs) ≡ false → (position_or_len p xs < length xs) × (slice_get xs (position_or_len p xs) ≡ find p xs))
        → (cond (not b) (1 + position_or_len p xs) 0 < length (x ∷ xs)) × (slice_get (x ∷ xs) (cond (not b) (1 + position_or_len p xs) 0) ≡ cond b (Some x) (find p xs))
    by true e later = (omega arith, refl)
    by false e later =
        let h : (position_or_len p xs < length xs) × (slice_get xs (position_or_len p xs) ≡ find p xs) = later e in
        (omega (arith, h.0), ap (λ n. slice_get (x ∷ xs) n) (one_more (position_or_len p xs)) ∙ h.1)

column_found : (col : ColRef) (keys : List ColRef) → has_column keys col ≡ true → find (same_column col) keys ≡ Some col
column_found col [] h = cc
column_found col (k ∷ keys) h = by (same_column col k) refl h (column_found col keys)
  where
    by : (b : Bool) → same_column col k ≡ b → (b || has_column keys col) ≡ true → (has_column keys col ≡ true → find (same_column col) keys ≡ Some col) → cond b (Some k) (find (same_column col) keys) ≡ Some col
    by true e h more = ap Some (sym ((same_column-Decides col k).0 e))
    by false e h more = more h

key_is : {T : Type 0} (value : T → ColRef → Value) (keys : List ColRef) (col : ColRef) (t : T) → has_column keys col ≡ true → key_value keys (key_of value keys t) col ≡ value t col
key_is value keys col t h =
    let found : find (same_column col) keys ≡ Some col = column_found col keys h in
    let at : (position_or_len (same_column col) keys < length keys) × (slice_get keys (position_or_len (same_column col) keys) ≡ find (same_column col) keys) = found_place (same_column col) keys (ap is_none found) in
    ap (λ b. option_case (cond b (Some (position_or_len (same_column col) keys)) None) Null (value_at (key_of value keys t))) (lt-ltb (position_or_len (same_column col) keys) (length keys) at.0)
    ∙ ap (λ o. unwrap_or o Null) (slice_get-map (value t) keys (position_or_len (same_column col) keys) ∙ ap (option_map (value t)) (at.1 ∙ found))

-- ---- entries

module _ {T : Type 0} (value : T → ColRef → Value) (q : StarQuery) (place : ℕ) (col : ColRef) (selected : slice_get q.items place ≡ Some (item.Col col)) (test : Value → Bool) where
  abbrev passes : ViewEntry → Bool
  passes e = test (value_at e.row place)

  plain_filtered : (ts : List T) → filter passes (plain_entries value q ts) ≡ plain_entries value q (filter (λ t. test (value t col)) ts)
  plain_filtered ts =
      filter-map passes (λ t. record { key = []; row = map (plain_item (value t)) q.items }) ts
      ∙ (λ i. map (λ t. record { key = []; row = map (plain_item (value t)) q.items }) (filter (λ t. test (there t i)) ts))
    where
      there : (t : T) → value_at (map (plain_item (value t)) q.items) place ≡ value t col
      there t = ap (λ o. unwrap_or o Null) (slice_get-map (plain_item (value t)) q.items place ∙ ap (option_map (plain_item (value t))) selected)

  grouped_filtered : has_column q.keys col ≡ true → is_empty q.keys ≡ false → (ts : List T) → filter passes (grouped_entries value q ts) ≡ grouped_entries value q (filter (λ t. test (value t col)) ts)
  grouped_filtered keyed some ts =
      let having : Grouped T → Bool = λ g. list_all (test_true value g) q.having in
      let tk : List Value → Bool = λ k. test (key_value q.keys k col) in
      let key : T → List Value = key_of value q.keys in
      ap (λ gs. filter passes (map (group_entry value q) (filter having gs))) (groups_keyed value q.keys ts some)
      ∙ filter-map passes (group_entry value q) (filter having (groups_by key ts))
      ∙ (λ i. map (group_entry value q) (filter (λ g. test (there g i)) (filter having (groups_by key ts))))
      ∙ ap (map (group_entry value q)) (filter_turns (λ g. tk g.0) having (groups_by key ts) ∙ ap (filter having) (groups_filtered key tk ts))
      ∙ (λ i. map (group_entry value q) (filter having (groups_by key (filter (λ t. test (key_is value q.keys col t keyed i)) ts))))
      ∙ ap (λ gs. map (group_entry value q) (filter having gs)) (sym (groups_keyed value q.keys (filter (λ t. test (value t col)) ts) some))
    where
      there : (g : Grouped T) → value_at (map (group_item value q.keys g) q.items) place ≡ key_value q.keys g.0 col
      there g = ap (λ o. unwrap_or o Null) (slice_get-map (group_item value q.keys g) q.items place ∙ ap (option_map (group_item value q.keys g)) selected)

  pub entries_filtered : (q.grouped ≡ true → has_column q.keys col ≡ true) → (ts : List T) → filter passes (entries value q ts) ≡ entries value q (filter (λ t. test (value t col)) ts)
  entries_filtered keyed ts = by q.grouped refl
    where
      some_keys : (keys : List ColRef) → has_column keys col ≡ true → is_empty keys ≡ false
      some_keys [] h = cc
      some_keys (k ∷ keys) h = refl

      by : (b : Bool) → q.grouped ≡ b → filter passes (cond b (grouped_entries value q ts) (plain_entries value q ts)) ≡ cond b (grouped_entries value q (filter (λ t. test (value t col)) ts)) (plain_entries value q (filter (λ t. test (value t col)) ts))
      by true e = grouped_filtered (keyed e) (some_keys q.keys (keyed e)) ts
      by false e = plain_filtered ts

-- What is stored now is what was stored but for the entries that pass, with those of the tuples that pass now, where the other tuples are as they were.
pub refreshed_parts : {T : Type 0} (value : T → ColRef → Value) (q : StarQuery) (place : ℕ) (col : ColRef) → slice_get q.items place ≡ Some (item.Col col) → (test : Value → Bool)
    → (q.grouped ≡ true → has_column q.keys col ≡ true) → (before now : List T)
    → filter (λ t. not (test (value t col))) before ≡ filter (λ t. not (test (value t col))) now
    → sorted_by entry_cmp (filter (λ e. not (test (value_at e.row place))) (sorted_by entry_cmp (entries value q before)) ++ entries value q (filter (λ t. test (value t col)) now))
    ≡ sorted_by entry_cmp (entries value q now)
refreshed_parts value q place col selected test keyed before now same =
    let stays : ViewEntry → Bool = λ e. not (test (value_at e.row place)) in
    let goes : ViewEntry → Bool = λ e. test (value_at e.row place) in
    let old : List ViewEntry = sorted_by entry_cmp (entries value q before) in
    let kept : filter stays (entries value q before) ≡ filter stays (entries value q now) =
    entries_filtered value q place col selected (λ v. not (test v)) keyed before
    ∙ ap (entries value q) same
    ∙ sym (entries_filtered value q place col selected (λ v. not (test v)) keyed now) in
    let old_same : SameCounts old (entries value q before) = sorted_counts entry_cmp (entries value q before) in
    let found : SameCounts (filter stays old ++ entries value q (filter (λ t. test (value t col)) now)) (entries value q now) = λ p.
    let a : times p (filter stays old) ≡ times p (filter stays (entries value q now)) = SameCounts-filter stays old (entries value q before) old_same p ∙ ap (times p) kept in
    let b : times p (entries value q (filter (λ t. test (value t col)) now)) ≡ times p (filter goes (entries value q now)) = ap (times p) (sym (entries_filtered value q place col selected test keyed now)) in
    times-append p (filter stays old) (entries value q (filter (λ t. test (value t col)) now))
    ∙ (λ i. a i + b i)
    ∙ times_parts p goes (entries value q now) in
    same_entries_same_view (filter stays old ++ entries value q (filter (λ t. test (value t col)) now)) (entries value q now) found
