-- A join view of which only the root changed.
use Rattle.std.proofs.Common.{◌≡◌, ◌∙◌, sym, ap, refl, arith, ℕ, ◌+◌, Bool, true, false, cond, not, List, [], ◌∷◌, ◌++◌, map, Option, Some, None, append-nil}
use Rattle.std.specs.Prelude.{pos, filter, fold, ◌==◌, ◌||◌, slice_get, unwrap_or, option_map}
use Rattle.std.proofs.lemmas.Bool.Decides.{Decides-eqb}
use Rattle.std.proofs.lemmas.List.Elements.{filter-append}
use Rattle.std.proofs.lemmas.Option.{slice_get-map}
use Rattle.std.proofs.lemmas.Bool.{or_right, or_parts}
use Rattle.wh_base.proofs.Same.{same_value-Decides}
use Rattle.wh_base.proofs.Sorting.{SameCounts, sorted_counts, times}
use Rattle.wh_base.specs.Lists.{has_number, sorted_by}
use Rattle.wh_base.specs.Tables.{Row, Table, row_at, rows_after, table_after, value_at}
use Rattle.wh_base.specs.Values.{same_value}
use Rattle.wh_base.specs.declared.columns.ColPart.TheVariants.{RowId}
use Rattle.wh_base.specs.declared.columns.ColRef.{ColRef}
use Rattle.wh_base.specs.declared.queries.Item.{Item}
use Rattle.wh_base.specs.declared.queries.StarQuery.{StarQuery}
use Rattle.wh_base.specs.declared.tables.Change.{Change}
use Rattle.wh_base.specs.declared.tables.RowAt.{RowAt}
use Rattle.wh_base.specs.declared.values.Value.{Value}
use Rattle.wh_base.specs.declared.values.Value.TheVariants.{Null, Num}
use Rattle.wh_base.specs.declared.views.ViewEntry.{ViewEntry}
use Rattle.def_meaning.specs.Joined.{column_value, product, row_of, tuple_true}
use Rattle.def_meaning.specs.Meaning.{entries, entry_cmp, grouped_entries, plain_entries, plain_item, stored_over}
use Rattle.def_meaning.proofs.Entries.{same_entries_same_view}
use Rattle.wh_base.specs.declared.queries.Item.TheVariants as item
use Rattle.law_lists.proofs.Counts.{times-append, SameCounts-filter}
use Rattle.law_lists.proofs.Lists.{filter-map}
use Rattle.law_delta.specs.Deltas.{front_by}
use Rattle.law_delta.specs.Moved.{side_tuples, with_rows}
use Rattle.law_delta.specs.ByRowid.{joined_after, row_changed, rowid_among}
use Rattle.law_delta.proofs.Applying.{filter_changed, filter_within}
use Rattle.law_delta.proofs.Star.{root_rows}

-- ---- filters

pub filter_turns : {A : Type 0} (p q : A → Bool) (xs : List A) → filter p (filter q xs) ≡ filter q (filter p xs)
filter_turns p q [] = refl
filter_turns p q (x ∷ xs) = by (p x) (q x) refl refl (filter_turns p q xs)
  where
    by : (a b : Bool) → p x ≡ a → q x ≡ b → filter p (filter q xs) ≡ filter q (filter p xs) → filter p (cond b (x ∷ filter q xs) (filter q xs)) ≡ filter q (cond a (x ∷ filter p xs) (filter p xs))
    by true true ea eb e = (λ i. cond (ea i) (x ∷ filter p (filter q xs)) (filter p (filter q xs))) ∙ ap (λ rest. x ∷ rest) e ∙ sym (λ i. cond (eb i) (x ∷ filter q (filter p xs)) (filter q (filter p xs)))
    by true false ea eb e = e ∙ sym (λ i. cond (eb i) (x ∷ filter q (filter p xs)) (filter q (filter p xs)))
    by false true ea eb e = (λ i. cond (ea i) (x ∷ filter p (filter q xs)) (filter p (filter q xs))) ∙ e
    by false false ea eb e = e

pub times_parts : {A : Type 0} (p q : A → Bool) (xs : List A) → times p (filter (λ x. not (q x)) xs) + times p (filter q xs) ≡ times p xs
times_parts p q [] = omega arith
times_parts p q (x ∷ xs) = by (q x) (times_parts p q xs)
  where
    by : (b : Bool) → times p (filter (λ x. not (q x)) xs) + times p (filter q xs) ≡ times p xs → times p (cond (not b) (x ∷ filter (λ x. not (q x)) xs) (filter (λ x. not (q x)) xs)) + times p (cond b (x ∷ filter q xs) (filter q xs)) ≡ cond (p x) 1 0 + times p xs
    by true e = omega arith
    by false e = omega arith

-- ---- what no change concerns is as before

among_rest : (c : Change) (cs : List Change) (v : Value) → rowid_among (c ∷ cs) v ≡ false → (same_value v (Num (pos c.rowid)) ≡ false) × (rowid_among cs v ≡ false)
among_rest c cs v h = or_parts (same_value v (Num (pos c.rowid))) (rowid_among cs v) h

no_change : (rows : List Row) (i : ℕ) (old new : Option (List Value)) (p : Row → Bool) → ((r : Row) → (r.rowid == i) ≡ true → p r ≡ false) → filter p (rows_after rows (record { rowid = i; old = old; new = new })) ≡ filter p rows
no_change rows i old None p h = filter_within p (λ r. not (r.rowid == i)) (λ r k. by r (r.rowid == i) refl k) rows
  where
    by : (r : Row) (b : Bool) → (r.rowid == i) ≡ b → p r ≡ true → not b ≡ true
    by r true e k = let f : p r ≡ false = h r e in cc
    by r false e k = refl
no_change rows i None (Some new) p h =
    let own : (i == i) ≡ true = (Decides-eqb i i).1 refl in
    filter-append p rows (record { rowid = i; values = new } ∷ [])
    ∙ (λ k. filter p rows ++ cond (h (record { rowid = i; values = new }) own k) (record { rowid = i; values = new } ∷ []) [])
    ∙ append-nil (filter p rows)
no_change rows i (Some old) (Some new) p h =
    filter_changed p (λ r. r.rowid == i) (λ r. record { rowid = r.rowid; values = new }) h (λ r k. h (record { rowid = r.rowid; values = new }) k) rows

abbrev row_kept : List Change → Row → Bool
row_kept all r = not (rowid_among all (Num (pos r.rowid)))

no_changes : (rows : List Row) (cs : List Change) (p : Row → Bool) → ((r : Row) → rowid_among cs (Num (pos r.rowid)) ≡ true → p r ≡ false) → filter p (fold rows_after rows cs) ≡ filter p rows
no_changes rows [] p h = refl
no_changes rows (c ∷ cs) p h =
    no_changes (rows_after rows c) cs p (λ r k. h r (or_right (same_value (Num (pos r.rowid)) (Num (pos c.rowid))) (rowid_among cs (Num (pos r.rowid))) k))
    ∙ no_change rows c.rowid c.old c.new p (λ r k. h r (first r k))
  where
    first : (r : Row) → (r.rowid == c.rowid) ≡ true → rowid_among (c ∷ cs) (Num (pos r.rowid)) ≡ true
    first r k =
        let same : r.rowid ≡ c.rowid = (Decides-eqb r.rowid c.rowid).0 k in
        let e : same_value (Num (pos r.rowid)) (Num (pos c.rowid)) ≡ true = (same_value-Decides (Num (pos r.rowid)) (Num (pos c.rowid))).1 (ap (λ n. Num (pos n)) same) in
        ap (λ b. b || rowid_among cs (Num (pos r.rowid))) e

kept_rows : (t : Table) (changes : List Change) → filter (λ r. not (row_changed changes r)) (map (row_at t) (fold rows_after t.rows changes)) ≡ filter (λ r. not (row_changed changes r)) (map (row_at t) t.rows)
kept_rows t changes =
    filter-map (λ r. not (row_changed changes r)) (row_at t) (fold rows_after t.rows changes)
    ∙ ap (map (row_at t)) (no_changes t.rows changes (λ r. not (rowid_among changes (Num (pos r.rowid)))) (λ r k. ap not k))
    ∙ sym (filter-map (λ r. not (row_changed changes r)) (row_at t) t.rows)

-- ---- tuples by the root's row

pub filter_front : {A : Type 0} (p : List A → Bool) (q : A → Bool) (ts : List (List A)) → ((x : A) (rest : List A) → p (x ∷ rest) ≡ q x) → (xs : List A) → filter p (front_by xs ts) ≡ front_by (filter q xs) ts
filter_front p q ts h [] = refl
filter_front {A} p q ts h (x ∷ xs) = filter-append p (map (λ rest. x ∷ rest) ts) (front_by xs ts) ∙ by (q x) (all ts (q x) (h x)) (filter_front p q ts h xs)
  where
    all : (us : List (List A)) (b : Bool) → ((rest : List A) → p (x ∷ rest) ≡ b) → filter p (map (λ rest. x ∷ rest) us) ≡ cond b (map (λ rest. x ∷ rest) us) []
    all [] true k = refl
    all [] false k = refl
    all (u ∷ us) true k = (λ i. cond (k u i) ((x ∷ u) ∷ filter p (map (λ rest. x ∷ rest) us)) (filter p (map (λ rest. x ∷ rest) us))) ∙ ap (λ rest. (x ∷ u) ∷ rest) (all us true k)
    all (u ∷ us) false k = (λ i. cond (k u i) ((x ∷ u) ∷ filter p (map (λ rest. x ∷ rest) us)) (filter p (map (λ rest. x ∷ rest) us))) ∙ all us false k

    by : (b : Bool) → filter p (map (λ rest. x ∷ rest) ts) ≡ cond b (map (λ rest. x ∷ rest) ts) [] → filter p (front_by xs ts) ≡ front_by (filter q xs) ts → filter p (map (λ rest. x ∷ rest) ts) ++ filter p (front_by xs ts) ≡ front_by (cond b (x ∷ filter q xs) (filter q xs)) ts
    by true e k = λ i. e i ++ k i
    by false e k = λ i. e i ++ k i

module _ (q : StarQuery) (root : ℕ) (others : List ℕ) (rows : ℕ → List RowAt) (tables : q.tables ≡ root ∷ others) (apart : has_number others root ≡ false) where
  tuples_are : (sides : List RowAt) → side_tuples q root sides rows ≡ filter (tuple_true q) (front_by sides (product (map rows others)))
  tuples_are sides =
      ap (λ ts. filter (tuple_true q) (product (map (with_rows root sides rows) ts))) tables
      ∙ ap (λ ls. filter (tuple_true q) (product ls)) (root_rows root sides rows others apart)

  root_row : (x : RowAt) (rest : List RowAt) → row_of q.tables (x ∷ rest) root ≡ x
  root_row x rest =
      let e : (root == root) ≡ true = (Decides-eqb root root).1 refl in
      ap (λ ts. row_of ts (x ∷ rest) root) tables ∙ ap (λ b. cond b x (row_of others rest root)) e

  tuples_filtered : (p : RowAt → Bool) (sides : List RowAt) → filter (λ t. p (row_of q.tables t root)) (side_tuples q root sides rows) ≡ side_tuples q root (filter p sides) rows
  tuples_filtered p sides =
      ap (filter (λ t. p (row_of q.tables t root))) (tuples_are sides)
      ∙ filter_turns (λ t. p (row_of q.tables t root)) (tuple_true q) (front_by sides (product (map rows others)))
      ∙ ap (filter (tuple_true q)) (filter_front (λ t. p (row_of q.tables t root)) p (product (map rows others)) (λ x rest. ap p (root_row x rest)) sides)
      ∙ sym (tuples_are (filter p sides))

  module _ (place : ℕ) (selected : slice_get q.items place ≡ Some (item.Col (record { table = root; part = RowId }))) where
    rowid_there : (tuple : List RowAt) (is : List Item) (n : ℕ) → slice_get is n ≡ Some (item.Col (record { table = root; part = RowId })) → value_at (map (plain_item (column_value q.tables tuple)) is) n ≡ Num (pos (row_of q.tables tuple root).rowid)
    rowid_there tuple is n e =
        let value : ColRef → Value = column_value q.tables tuple in
        ap (λ o. unwrap_or o Null) (slice_get-map (plain_item value) is n ∙ ap (option_map (plain_item value)) e)

    -- the entries of changed rows are those of the tuples of changed rows
    entries_filtered : (test : Value → Bool) (sides : List RowAt) → filter (λ e. test (value_at e.row place)) (plain_entries (column_value q.tables) q (side_tuples q root sides rows)) ≡ plain_entries (column_value q.tables) q (side_tuples q root (filter (λ r. test (Num (pos r.rowid))) sides) rows)
    entries_filtered test sides =
        let value : List RowAt → ColRef → Value = column_value q.tables in
        let entry : List RowAt → ViewEntry = λ t. record { key = []; row = map (plain_item (value t)) q.items } in
        filter-map (λ e. test (value_at e.row place)) entry (side_tuples q root sides rows)
        ∙ (λ i. map entry (filter (λ t. test (rowid_there t q.items place selected i)) (side_tuples q root sides rows)))
        ∙ ap (map entry) (tuples_filtered (λ r. test (Num (pos r.rowid))) sides)

    -- The fast refresh of a join view of which only the root changed. No premise on the changes themselves.
    pub join_refresh : q.grouped ≡ false → (t : Table) (changes : List Change)
        → sorted_by entry_cmp (joined_after q root place changes (stored_over q (with_rows root (map (row_at t) t.rows) rows)) (map (row_at (table_after t changes)) (table_after t changes).rows) rows)
        ≡ stored_over q (with_rows root (map (row_at (table_after t changes)) (table_after t changes).rows) rows)
    join_refresh plain t changes =
        let now : List RowAt = map (row_at t) (fold rows_after t.rows changes) in
        let before : List RowAt = map (row_at t) t.rows in
        let made : List RowAt → List ViewEntry = λ sides. plain_entries (column_value q.tables) q (side_tuples q root sides rows) in
        let all : (sides : List RowAt) → entries (column_value q.tables) q (side_tuples q root sides rows) ≡ made sides = λ sides. ap (λ b. cond b (grouped_entries (column_value q.tables) q (side_tuples q root sides rows)) (made sides)) plain in
        let gone : Value → Bool = rowid_among changes in
        let stays : Value → Bool = λ v. not (rowid_among changes v) in
        let old : List ViewEntry = stored_over q (with_rows root before rows) in
        let kept : filter (λ e. stays (value_at e.row place)) (made before) ≡ filter (λ e. stays (value_at e.row place)) (made now) =
        entries_filtered stays before ∙ ap made (sym (kept_rows t changes)) ∙ sym (entries_filtered stays now) in
        let old_same : SameCounts old (made before) = λ p. sorted_counts entry_cmp (entries (column_value q.tables) q (side_tuples q root before rows)) p ∙ ap (times p) (all before) in
        let found : SameCounts (joined_after q root place changes old now rows) (made now) = λ p.
        let a : times p (filter (λ e. stays (value_at e.row place)) old) ≡ times p (filter (λ e. stays (value_at e.row place)) (made now)) = SameCounts-filter (λ e. stays (value_at e.row place)) old (made before) old_same p ∙ ap (times p) kept in
        let b : times p (made (filter (row_changed changes) now)) ≡ times p (filter (λ e. gone (value_at e.row place)) (made now)) = sym (ap (times p) (entries_filtered gone now)) in
        times-append p (filter (λ e. stays (value_at e.row place)) old) (made (filter (row_changed changes) now))
        ∙ (λ i. a i + b i)
        ∙ times_parts p (λ e. gone (value_at e.row place)) (made now) in
        same_entries_same_view (joined_after q root place changes old now rows) (made now) found
        ∙ ap (sorted_by entry_cmp) (sym (all now))
