-- A refresh by partitions gives what the definition stores now.
use Rattle.std.proofs.Common.{◌≡◌, ◌∙◌, sym, ap, refl, subst, ℕ, zero, suc, ◌≤◌, Bool, true, false, cond, not, List, [], ◌∷◌, ◌++◌, map, nat_le, nat_lt, Option, None, Some, inl, inr, length, ◌==◌, ◌&&◌, ◌||◌, true≢false}
use Rattle.law_lists.proofs.Options.{find_passes}
use Rattle.std.proofs.lemmas.Option.{same_Some}
use Rattle.std.specs.List.{filter, find, list_all, list_any}
use Rattle.std.specs.Prelude.{pos, is_none, is_some, zip, option_and_then, option_map, slice_get, unwrap_or}
use Rattle.std.specs.Ordering.{is_ge, is_lt}
use Rattle.std.specs.declared.cmp.Ordering.{Ordering}
use Rattle.std.specs.declared.cmp.Ordering.TheVariants.{Equal, Greater, Less}
use Rattle.std.proofs.lemmas.Bool.{and_from, and_parts, eq-eqb, eqb-true, le-leb, not-false, not-true, or_parts}
use Rattle.wh_base.specs.Columns.{same_item}
use Rattle.wh_base.specs.Lists.{first_of, first_some, has_number, option_case, sorted_by, where_true}
use Rattle.wh_base.specs.Tables.{Base, Row, Table, def_at, mark_of, part_intervals, part_of_key, row_at, table_at, value_at}
use Rattle.wh_base.specs.Values.{interval_has, value_cmp}
use Rattle.wh_base.specs.declared.columns.ColPart.{ColPart}
use Rattle.wh_base.specs.declared.columns.ColPart.TheVariants.{Col, Mark}
use Rattle.wh_base.specs.declared.columns.ColRef.{ColRef}
use Rattle.wh_base.specs.declared.queries.Item.{Item}
use Rattle.wh_base.specs.declared.queries.Item.TheVariants as item
use Rattle.wh_base.specs.declared.queries.StarQuery.{StarQuery}
use Rattle.wh_base.specs.declared.statements.Event.{Event}
use Rattle.wh_base.specs.declared.tables.Part.{Part}
use Rattle.wh_base.specs.declared.tables.RowAt.{RowAt}
use Rattle.wh_base.specs.declared.tables.TableDef.{TableDef}
use Rattle.wh_base.specs.declared.values.Interval.{Interval}
use Rattle.wh_base.specs.declared.values.Value.{Value}
use Rattle.wh_base.specs.declared.values.Value.TheVariants.{Num}
use Rattle.wh_base.specs.declared.tables.Touch.{Touch}
use Rattle.wh_base.specs.declared.views.Restriction.{Restriction}
use Rattle.wh_base.specs.declared.views.Restriction.TheVariants.{F1, P1, P2, P3}
use Rattle.wh_base.specs.declared.views.ViewEntry.{ViewEntry}
use Rattle.def_history.specs.Catalog.{Catalog, Touched, View, base_at, base_now, defs_now}
use Rattle.def_history.specs.History.{touches_of, within}
use Rattle.def_history.specs.Staleness.{content, facts_of, known, part_restriction, point_of, stale_intervals, touches_after}
use Rattle.def_journal.specs.Refreshing.{is_stale_part, stale_part_rows}
use Rattle.def_meaning.proofs.Merging.{at_least_trans}
use Rattle.def_meaning.specs.Joined.{part_value, column_value, joined_over, rows_at, tuple_true, product}
use Rattle.def_meaning.specs.Meaning.{entries, entry_cmp, stored}
use Rattle.def_resolve.specs.Resolve.{item_is_grouped}
use Rattle.def_restrictions.proofs.Union.{any_has, union-has}
use Rattle.def_restrictions.specs.Definition.{selects_mark, table_defs, is_tracked, selects_column, selects_key, tracked, tracked_key}
use Rattle.def_restrictions.specs.Intervals.{bounds_meet, intervals_meet, union_of}
use Rattle.def_restrictions.specs.Restrictions.{Known, check_f1, check_p1, check_p2, check_p3, moved}
use Rattle.law_delta.proofs.Parted.{joined_filtered, refreshed_parts}
use Rattle.std.proofs.lemmas.List.{length-map}
use Rattle.wh_base.proofs.SameItems.{same_column-Decides}
use Rattle.law_delta.specs.Moved.{side_tuples, with_rows}
use Rattle.law_lists.proofs.Lists.{filter-map}
use Rattle.law_lists.proofs.Each.{filter_same}
use Rattle.law_lists.proofs.Numbers.{differs_turned}
use Rattle.law_lists.proofs.Tables.{base_def}
use Rattle.law_refresh.proofs.Granting.{each_number, knowns, zip_map}
use Rattle.law_refresh.proofs.Setting.{maps_same, over_same}
use Rattle.law_refresh.specs.Parted.{IsParted, PartLaws, is_touched_mark, entries_parted, is_stale_key, stale_numbers, stale_rows}
use Rattle.law_refresh.specs.Planned.{IsPlanned}
use Rattle.law_trace.proofs.Basing.{none_each, none_first, none_rest, none_where}
use Rattle.law_trace.proofs.Changes.{unmoved}
use Rattle.law_trace.proofs.Cuts.{intervals_rise}
use Rattle.law_trace.proofs.Bordering.{AreNumbered, PartsRight, trace_numbered}
use Rattle.law_trace.proofs.Growing.{reached, touches_bounded}
use Rattle.law_trace.proofs.Fitting.{AllFit, trace_fits}
use Rattle.law_trace.proofs.Listed.{each_made, each_two, Each, Pairs, each_found, each_map, each_weaker}
use Rattle.law_trace.proofs.Outside.{Avoids, fit_at, trace_outside}
use Rattle.law_trace.proofs.Sparing.{keeps, three_true, avoids_touches, outside, same_kept}
use Rattle.law_trace.specs.Reached.{catalog_of}
use Rattle.law_trace.specs.Rows.{Fits}

-- ---- intervals that share a value meet

above_below : (lo key hi : Value) → is_ge (value_cmp key lo) ≡ true → is_lt (value_cmp key hi) ≡ true → is_lt (value_cmp lo hi) ≡ true
above_below lo key hi above below = by (is_lt (value_cmp lo hi)) refl
  where
    not_above : (o : Ordering) → is_ge o ≡ true → is_lt o ≡ false
    not_above Less h = cc
    not_above Equal h = refl
    not_above Greater h = refl

    by : (b : Bool) → is_lt (value_cmp lo hi) ≡ b → b ≡ true
    by true e = refl
    by false e = absurd (true≢false (sym below ∙ at_least_trans key lo hi (not_above (value_cmp key lo) above) e))

share_meet : (key : Value) (lo hi : Option Value) → option_case lo true (λ lo. is_ge (value_cmp key lo)) ≡ true → option_case hi true (λ hi. is_lt (value_cmp key hi)) ≡ true → bounds_meet lo hi ≡ true
share_meet key None hi above below = refl
share_meet key (Some lo) None above below = refl
share_meet key (Some lo) (Some hi) above below = above_below lo key hi above below

both_meet : (i j : Interval) (key : Value) → interval_has i key ≡ true → interval_has j key ≡ true → intervals_meet i j ≡ true
both_meet i j key h k =
    let one = and_parts (option_case i.lo true (λ lo. is_ge (value_cmp key lo))) (option_case i.hi true (λ hi. is_lt (value_cmp key hi))) h in
    let two = and_parts (option_case j.lo true (λ lo. is_ge (value_cmp key lo))) (option_case j.hi true (λ hi. is_lt (value_cmp key hi))) k in
    and_from (bounds_meet i.lo j.hi) (bounds_meet j.lo i.hi) (share_meet key i.lo j.hi one.0 two.1) (share_meet key j.lo i.hi two.0 one.1)

-- a partition with a key that is in one of these intervals meets it
meets_any : (i : Interval) (key : Value) (is : List Interval) → interval_has i key ≡ true → (list_any (λ j. interval_has j key) is || list_any (intervals_meet i) is) ≡ list_any (intervals_meet i) is
meets_any i key [] h = refl
meets_any i key (j ∷ js) h = by (interval_has j key) refl (intervals_meet i j) refl (meets_any i key js h)
  where
    rest_true : (a b : Bool) → (a || b) ≡ b → (a || true) ≡ true
    rest_true true b e = refl
    rest_true false b e = refl

    by : (a : Bool) → interval_has j key ≡ a → (b : Bool) → intervals_meet i j ≡ b → (list_any (λ j. interval_has j key) js || list_any (intervals_meet i) js) ≡ list_any (intervals_meet i) js
        → ((a || list_any (λ j. interval_has j key) js) || (b || list_any (intervals_meet i) js)) ≡ (b || list_any (intervals_meet i) js)
    by true e true f rest = refl
    by true e false f rest = absurd (true≢false (sym (both_meet i j key h e) ∙ f))
    by false e true f rest = rest_true (list_any (λ j. interval_has j key) js) (list_any (intervals_meet i) js) rest
    by false e false f rest = rest

-- ---- a partition is told by its number

module _ {A : Type 0} (num : A → ℕ) (s : A → Bool) where
  none_later : (n : ℕ) (xs : List A) → Each (λ y. (n == num y) ≡ false) xs → has_number (map num (filter s xs)) n ≡ false
  none_later n [] h = refl
  none_later n (x ∷ xs) h = by (s x) (none_later n xs h.1)
    where
      by : (b : Bool) → has_number (map num (filter s xs)) n ≡ false → has_number (map num (cond b (x ∷ filter s xs) (filter s xs))) n ≡ false
      by true rest = (λ i. differs_turned n (num x) h.0 i || rest i)
      by false rest = rest

  number_tells : (p : A → Bool) (xs : List A) (x : A) → Pairs (λ a b. (num a == num b) ≡ false) xs → find p xs ≡ Some x → has_number (map num (filter s xs)) (num x) ≡ s x
  number_tells p [] x rise e = cc
  number_tells p (z ∷ xs) x rise e = by (p z) e (number_tells p xs x rise.1)
    where
      own : z ≡ x → (b : Bool) → s x ≡ b → has_number (map num (cond (s z) (z ∷ filter s xs) (filter s xs))) (num x) ≡ b
      own same true e =
          ap (λ c. has_number (map num (cond c (z ∷ filter s xs) (filter s xs))) (num x)) (ap s same ∙ e) ∙ ap (λ c. c || has_number (map num (filter s xs)) (num x)) (eq-eqb (num z) (num x) (ap num same))
      own same false e =
          ap (λ c. has_number (map num (cond c (z ∷ filter s xs) (filter s xs))) (num x)) (ap s same ∙ e)
          ∙ none_later (num x) xs (subst (λ y. Each (λ a. (num y == num a) ≡ false) xs) same rise.0)

      other : (num z == num x) ≡ false → (b : Bool) → has_number (map num (filter s xs)) (num x) ≡ s x → has_number (map num (cond b (z ∷ filter s xs) (filter s xs))) (num x) ≡ s x
      other low true h = ap (λ c. c || has_number (map num (filter s xs)) (num x)) low ∙ h
      other low false h = h

      by : (b : Bool) → cond b (Some z) (find p xs) ≡ Some x → (find p xs ≡ Some x → has_number (map num (filter s xs)) (num x) ≡ s x) → has_number (map num (cond (s z) (z ∷ filter s xs) (filter s xs))) (num x) ≡ s x
      by true e more = own (same_Some z x e) (s x) refl
      by false e more = other (each_found (λ y. (num z == num y) ≡ false) p xs x rise.0 e) (s z) (more e)

-- ---- the rows of the partitions that are computed anew

module _ (c : Catalog) (v : View) (n k : ℕ) (keyed : (table_at (base_now c) n).def.part_key ≡ Some k) (by_key : selects_key v.def ≡ true) (numbered : AreNumbered (table_at (base_now c) n)) where
  abbrev table : Table
  table = table_at (base_now c) n

  row_stale : (r : Row) → Fits table r.values → is_stale_key c v n (value_at r.values k) ≡ has_number (stale_numbers c v n) (row_at table r).mark
  row_stale r fits = by (part_of_key table (value_at r.values k)) refl
    where
      key : Value
      key = value_at r.values k

      none : is_none (part_of_key table (value_at r.values k)) ≡ false
      none = sym (ap (λ (o : Option ℕ). option_case (option_map (value_at r.values) o) false (λ key. is_none (part_of_key table key))) keyed) ∙ fits.placed

      by : (o : Option (Part × Interval)) → part_of_key table (value_at r.values k) ≡ o → is_stale_key c v n (value_at r.values k) ≡ has_number (stale_numbers c v n) (mark_of table r.values)
      by None e = absurd (true≢false (sym (ap is_none e) ∙ none))
      by (Some p) e =
          let mark : mark_of table r.values ≡ p.0.number =
          ap (λ (o : Option ℕ). option_case (option_map (value_at r.values) o) 0 (λ key. option_case (part_of_key table key) 0 (λ p. p.0.number))) keyed ∙ ap (λ o. option_case o 0 (λ (p : Part × Interval). p.0.number)) e in
          let meets : is_stale_part c v n p ≡ list_any (intervals_meet p.1) (stale_intervals c v) = ap (λ b. cond b (list_any (intervals_meet p.1) (stale_intervals c v)) (list_any (λ t. t.number == p.0.number) (touches_after c v n))) by_key in
          let has : interval_has p.1 (value_at r.values k) ≡ true = find_passes (λ (p : Part × Interval). interval_has p.1 (value_at r.values k)) (part_intervals table) p e in
          ap (λ o. list_any (λ i. interval_has i (value_at r.values k)) (stale_intervals c v) || option_case o false (is_stale_part c v n)) e
          ∙ ap (λ b. list_any (λ i. interval_has i (value_at r.values k)) (stale_intervals c v) || b) meets
          ∙ meets_any p.1 (value_at r.values k) (stale_intervals c v) has
          ∙ sym meets
          ∙ sym (number_tells (λ (p : Part × Interval). p.0.number) (is_stale_part c v n) (λ (p : Part × Interval). interval_has p.1 (value_at r.values k)) (part_intervals table) p (intervals_rise None table.parts numbered.0) e)
          ∙ ap (has_number (stale_numbers c v n)) (sym mark)

  rows_stale : AllFit table → filter (λ r. is_stale_key c v n (value_at r.values k)) (rows_at (base_now c) n) ≡ stale_rows c v n
  rows_stale fits =
      filter_same (λ r. is_stale_key c v n (value_at r.values k)) (λ r. has_number (stale_numbers c v n) r.mark) (rows_at (base_now c) n)
      (each_map (λ r. Fits table r.values) (λ (r : RowAt). is_stale_key c v n (value_at r.values k) ≡ has_number (stale_numbers c v n) r.mark) (row_at table) row_stale table.rows fits)

-- ---- the law

all_at : {A : Type 0} (p : A → Bool) (xs : List A) (n : ℕ) (x : A) → list_all p xs ≡ true → slice_get xs n ≡ Some x → p x ≡ true
all_at p [] n x all is = cc
all_at p (y ∷ xs) zero x all is = ap p (sym (same_Some y x is)) ∙ (and_parts (p y) (list_all p xs) all).0
all_at p (y ∷ xs) (suc n) x all is = all_at p xs n x (and_parts (p y) (list_all p xs) all).1 is

any_at : {A : Type 0} (p : A → Bool) (xs : List A) (n : ℕ) (x : A) → p x ≡ true → slice_get xs n ≡ Some x → list_any p xs ≡ true
any_at p [] n x holds is = cc
any_at p (y ∷ xs) zero x holds is = ap (λ b. b || list_any p xs) (ap p (same_Some y x is) ∙ holds)
any_at p (y ∷ xs) (suc n) x holds is = later (p y) (any_at p xs n x holds is)
  where
    later : (b : Bool) → list_any p xs ≡ true → (b || list_any p xs) ≡ true
    later true h = refl
    later false h = h

-- the other tables are as they were
others_still : (trace : List Event) (v : View) (n p : ℕ) (d : TableDef) → IsPlanned (catalog_of trace) v → v.point ≡ Some p → tracked v.def ≡ Some (n, d) → part_restriction (catalog_of trace) v ≡ None
    → (m : ℕ) → has_number v.def.query.tables m ≡ true → (m == n) ≡ false → rows_at (base_at (catalog_of trace) p) m ≡ rows_at (base_now (catalog_of trace)) m
others_still trace v n p d planned built is none m there differ =
    let c : Catalog = catalog_of trace in
    let ks : List Known = (facts_of c v).tables in
    let last : first_of (check_p3 v.def) ks ≡ None =
    none_first (first_of (check_p3 v.def) ks) [] (none_rest (check_p2 v.def) _ (none_rest (check_p1 v.def) _ (none_rest (check_f1 (facts_of c v)) _ none))) in
    let each : Each (λ k. check_p3 v.def k ≡ None) (map (λ m. known c v (m, def_at (defs_now c) m)) v.def.query.tables) =
    subst (Each (λ k. check_p3 v.def k ≡ None)) (knowns c v planned.defined) (none_each (check_p3 v.def) ks last) in
    let one : check_p3 v.def (known c v (m, def_at (defs_now c) m)) ≡ None = each_number (λ k. check_p3 v.def k ≡ None) (λ m. known c v (m, def_at (defs_now c) m)) v.def.query.tables each m there in
    let both : (not (is_tracked v.def m) && moved (known c v (m, def_at (defs_now c) m))) ≡ false = none_where (not (is_tracked v.def m) && moved (known c v (m, def_at (defs_now c) m))) (P3 m) one in
    let free : is_tracked v.def m ≡ false = ap (λ o. option_case o false (λ (t : ℕ × TableDef). t.0 == m)) is ∙ differs_turned m n differ in
    sym (unmoved trace v p (m, def_at (defs_now c) m) built (sym (ap (λ b. not b && moved (known c v (m, def_at (defs_now c) m))) free) ∙ both))

built_of : (o : Option ℕ) (rest : List (Option Restriction)) → first_some (where_true (is_none o) F1 ∷ rest) ≡ None → (p : ℕ) × (o ≡ Some p)
built_of None rest e = cc
built_of (Some p) rest e = (p, refl)

zip_found : {A : Type 0} (p : ℕ × A → Bool) (ns : List ℕ) (ds : List A) (t : ℕ × A) → find p (zip ns ds) ≡ Some t → has_number ns t.0 ≡ true
zip_found p [] ds t e = cc
zip_found p (n ∷ ns) [] t e = cc
zip_found {A = A} p (n ∷ ns) (d ∷ ds) t e = by (p (n, d)) e (zip_found p ns ds t)
  where
    later : (b : Bool) → has_number ns t.0 ≡ true → (b || has_number ns t.0) ≡ true
    later true h = refl
    later false h = h

    by : (b : Bool) → cond b (Some (n, d)) (find p (zip ns ds)) ≡ Some t → (find p (zip ns ds) ≡ Some t → has_number ns t.0 ≡ true) → ((n == t.0) || has_number ns t.0) ≡ true
    by true e more = ap (λ b. b || has_number ns t.0) (eq-eqb n t.0 (ap (λ (t : ℕ × A). t.0) (same_Some (n, d) t e)))
    by false e more = later (n == t.0) (more e)

numbered_at : (base : Base) (n : ℕ) → Each PartsRight base → AreNumbered (table_at base n)
numbered_at [] n h = (tt, tt)
numbered_at (t ∷ base) zero h = h.0.0
numbered_at (t ∷ base) (suc n) h = numbered_at base n h.1

-- a value that isn't stale is in none of the intervals that were touched
free_of : (c : Catalog) (v : View) (n : ℕ) (all : List Interval) → stale_intervals c v ≡ union_of all → (w : Value) → not (is_stale_key c v n w) ≡ true → (m : ℕ) → outside all m w ≡ true
free_of c v n all stale w free m =
    let first : list_any (λ i. interval_has i w) (stale_intervals c v) ≡ false =
    (or_parts (list_any (λ i. interval_has i w) (stale_intervals c v)) (option_case (part_of_key (table_at (base_now c) n) w) false (is_stale_part c v n)) (not-true (is_stale_key c v n w) free)).0 in
    ap not (sym (union-has w all) ∙ ap (any_has w) (sym stale) ∙ first)

alike : (n m : ℕ) (a b : List RowAt) (f g : ℕ → List RowAt) → a ≡ b → ((m == n) ≡ false → f m ≡ g m) → with_rows n a f m ≡ with_rows n b g m
alike n m a b f g same other = by (m == n) refl
  where
    by : (x : Bool) → (m == n) ≡ x → cond x a (f m) ≡ cond x b (g m)
    by true e = same
    by false e = other e

content_is : (c : Catalog) (v : View) (p : ℕ) → v.point ≡ Some p → content c v ≡ stored v.def.query (base_at c p)
content_is c v p built = ap (λ o. option_case o [] (λ p. stored v.def.query (base_at c p))) built

-- what is common to both: the rows that aren't stale are as they were, and the others are those of the partitions computed anew
by_column : (trace : List Event) (v : View) (n : ℕ) (part : ColPart) (place : ℕ) (test : Value → Bool) → IsPlanned (catalog_of trace) v → part_restriction (catalog_of trace) v ≡ None
    → tracked v.def ≡ Some (n, def_at (defs_now (catalog_of trace)) n) → slice_get v.def.query.items place ≡ Some (item.Col (record { table = n; part = part }))
    → filter (λ r. test (part_value r part)) (rows_at (base_now (catalog_of trace)) n) ≡ stale_rows (catalog_of trace) v n
    → ((p : ℕ) → v.point ≡ Some p → filter (λ r. not (test (part_value r part))) (rows_at (base_at (catalog_of trace) p) n) ≡ filter (λ r. not (test (part_value r part))) (rows_at (base_now (catalog_of trace)) n))
    → sorted_by entry_cmp (entries_parted (catalog_of trace) v n test place) ≡ stored v.def.query (base_now (catalog_of trace))
by_column trace v n part place test planned none is selected rows same =
    let c : Catalog = catalog_of trace in
    let q : StarQuery = v.def.query in
    let col : ColRef = record { table = n; part = part } in
    let at : (p : ℕ) × (v.point ≡ Some p) = built_of v.point _ none in
    let p : ℕ = at.0 in
    let now : ℕ → List RowAt = rows_at (base_now c) in
    let then : ℕ → List RowAt = rows_at (base_at c p) in
    let goes : RowAt → Bool = λ r. test (part_value r part) in
    let stays : RowAt → Bool = λ r. not (test (part_value r part)) in
    let there : has_number q.tables n ≡ true = zip_found (λ t. is_some t.1.part_key) q.tables v.def.tables (n, def_at (defs_now c) n) is in
    let free : (rs : ℕ → List RowAt) → filter (λ t. not (test (column_value q.tables t col))) (joined_over q rs) ≡ side_tuples q n (filter stays (rs n)) rs = λ rs. joined_filtered q stays n rs there planned.once in
    let moved : side_tuples q n (filter stays (then n)) then ≡ side_tuples q n (filter stays (now n)) now =
    ap (λ ls. filter (tuple_true q) (product ls))
    (maps_same (with_rows n (filter stays (then n)) then) (with_rows n (filter stays (now n)) now) q.tables
    (λ m e. alike n m (filter stays (then n)) (filter stays (now n)) then now (same p at.1) (λ differ. others_still trace v n p (def_at (defs_now c) n) planned at.1 is none m e differ))) in
    let made : List ViewEntry → List (List RowAt) → List ViewEntry = λ old ts. sorted_by entry_cmp (filter (λ e. not (test (value_at e.row place))) old ++ entries (column_value q.tables) q ts) in
    (λ i. made (content_is c v p at.1 i) (side_tuples q n (sym rows i) now))
    ∙ ap (made (stored q (base_at c p))) (sym (joined_filtered q goes n now there planned.once))
    ∙ refreshed_parts (column_value q.tables) q place col selected test (λ grouped. all_at (item_is_grouped q.keys) q.items place (item.Col col) (planned.grouped grouped) selected)
    (joined_over q then) (joined_over q now) (free then ∙ moved ∙ sym (free now))

keyed : (trace : List Event) (v : View) (n k place : ℕ) → IsPlanned (catalog_of trace) v → part_restriction (catalog_of trace) v ≡ None
    → tracked v.def ≡ Some (n, def_at (defs_now (catalog_of trace)) n) → (def_at (defs_now (catalog_of trace)) n).part_key ≡ Some k
    → slice_get v.def.query.items place ≡ Some (item.Col (record { table = n; part = Col k }))
    → sorted_by entry_cmp (entries_parted (catalog_of trace) v n (is_stale_key (catalog_of trace) v n) place) ≡ stored v.def.query (base_now (catalog_of trace))
keyed trace v n k place planned none is key selected =
    let c : Catalog = catalog_of trace in
    let q : StarQuery = v.def.query in
    let col : ColRef = record { table = n; part = Col k } in
    let test : Value → Bool = is_stale_key c v n in
    let part_key : (table_at (base_now c) n).def.part_key ≡ Some k = ap (λ (d : TableDef). d.part_key) (sym (base_def (base_now c) n)) ∙ key in
    let tracks : tracked_key v.def ≡ Some col = ap (option_and_then (λ t. option_map (λ k. record { table = t.0; part = Col k }) t.1.part_key)) is ∙ ap (option_map (λ k. record { table = n; part = Col k })) key in
    let by_key : selects_key v.def ≡ true =
    ap (λ o. option_case o false (selects_column q)) tracks ∙ any_at (λ i. same_item (item.Col col) i) q.items place (item.Col col) ((same_column-Decides col col).1 refl) selected in
    let fit : AllFit (table_at (base_now c) n) = fit_at (base_now c) n (trace_fits trace) in
    by_column trace v n (Col k) place test planned none is selected (rows_stale c v n k part_key by_key (numbered_at (base_now c) n (trace_numbered trace)) fit)
    (λ p built.
    let all : List Interval = map (λ t. t.interval) (touches_of c n p c.scn) in
    let point : point_of v ≡ p = ap (λ o. unwrap_or o 0) built in
    let stale : stale_intervals c v ≡ union_of all =
    ap (λ o. option_case o [] (λ t. union_of (map (λ touch. touch.interval) (touches_after c v t.0)))) is ∙ ap (λ m. union_of (map (λ t. t.interval) (touches_of c n m c.scn))) point in
    let avoids : Each (Avoids (λ m w. not (test w)) n p) c.touches =
    each_weaker (Avoids (outside all) n p) (Avoids (λ m w. not (test w)) n p) (λ t av e w free. av e w (free_of c v n all stale w free t.touch.number)) c.touches (avoids_touches trace n p) in
    same_kept (λ m w. not (test w)) n k (base_at c p) (base_now c) (trace_outside trace n p (λ m w. not (test w)) avoids) part_key fit)

-- ---- by marker

-- the numbers that were touched
touched_any : (touches : List Touch) (m : ℕ) → has_number (map (λ t. t.number) touches) m ≡ list_any (λ t. t.number == m) touches
touched_any [] m = refl
touched_any (t ∷ ts) m = ap (λ b. (t.number == m) || b) (touched_any ts m)

row_marked : (c : Catalog) (v : View) (n k : ℕ) → (table_at (base_now c) n).def.part_key ≡ Some k → selects_key v.def ≡ false → AreNumbered (table_at (base_now c) n)
    → (r : Row) → Fits (table_at (base_now c) n) r.values → is_touched_mark c v n (Num (pos (row_at (table_at (base_now c) n) r).mark)) ≡ has_number (stale_numbers c v n) (row_at (table_at (base_now c) n) r).mark
row_marked c v n k keyed by_mark numbered r fits = by (part_of_key table (value_at r.values k)) refl
  where
    table : Table
    table = table_at (base_now c) n

    none : is_none (part_of_key table (value_at r.values k)) ≡ false
    none = sym (ap (λ (o : Option ℕ). option_case (option_map (value_at r.values) o) false (λ key. is_none (part_of_key table key))) keyed) ∙ fits.placed

    by : (o : Option (Part × Interval)) → part_of_key table (value_at r.values k) ≡ o → has_number (map (λ t. t.number) (touches_after c v n)) (mark_of table r.values) ≡ has_number (stale_numbers c v n) (mark_of table r.values)
    by None e = absurd (true≢false (sym (ap is_none e) ∙ none))
    by (Some p) e =
        let mark : mark_of table r.values ≡ p.0.number =
        ap (λ (o : Option ℕ). option_case (option_map (value_at r.values) o) 0 (λ key. option_case (part_of_key table key) 0 (λ p. p.0.number))) keyed ∙ ap (λ o. option_case o 0 (λ (p : Part × Interval). p.0.number)) e in
        let meets : is_stale_part c v n p ≡ list_any (λ t. t.number == p.0.number) (touches_after c v n) = ap (λ b. cond b (list_any (intervals_meet p.1) (stale_intervals c v)) (list_any (λ t. t.number == p.0.number) (touches_after c v n))) by_mark in
        ap (has_number (map (λ t. t.number) (touches_after c v n))) mark
        ∙ touched_any (touches_after c v n) p.0.number
        ∙ sym meets
        ∙ sym (number_tells (λ (p : Part × Interval). p.0.number) (is_stale_part c v n) (λ (p : Part × Interval). interval_has p.1 (value_at r.values k)) (part_intervals table) p (intervals_rise None table.parts numbered.0) e)
        ∙ ap (has_number (stale_numbers c v n)) (sym mark)

-- a number that wasn't touched is of no touch
touched_number : (test : Touched → Bool) (xs : List Touched) → Each (λ t. test t ≡ true → has_number (map (λ t. t.number) (map (λ t. t.touch) (filter test xs))) t.touch.number ≡ true) xs
touched_number test [] = tt
touched_number test (x ∷ xs) = by (test x) refl (touched_number test xs)
  where
    numbers : List ℕ
    numbers = map (λ t. t.number) (map (λ t. t.touch) (filter test xs))

    later : (b : Bool) (m : ℕ) → has_number numbers m ≡ true → (b || has_number numbers m) ≡ true
    later true m h = refl
    later false m h = h

    by : (b : Bool) → test x ≡ b → Each (λ t. test t ≡ true → has_number numbers t.touch.number ≡ true) xs
        → (test x ≡ true → has_number (map (λ (t : Touch). t.number) (map (λ (t : Touched). t.touch) (cond b (x ∷ filter test xs) (filter test xs)))) x.touch.number ≡ true)
        × Each (λ t. test t ≡ true → has_number (map (λ (t : Touch). t.number) (map (λ (t : Touched). t.touch) (cond b (x ∷ filter test xs) (filter test xs)))) t.touch.number ≡ true) xs
    by true e rest = (
      λ f. ap (λ b. b || has_number numbers x.touch.number) (eq-eqb x.touch.number x.touch.number refl),
      each_weaker (λ t. test t ≡ true → has_number numbers t.touch.number ≡ true) (λ t. test t ≡ true → ((x.touch.number == t.touch.number) || has_number numbers t.touch.number) ≡ true)
          (λ t h f. later (x.touch.number == t.touch.number) t.touch.number (h f)) xs rest,
    )
    by false e rest = (λ f. absurd (true≢false (sym f ∙ e)), rest)

marked : (trace : List Event) (v : View) (n k place : ℕ) → IsPlanned (catalog_of trace) v → part_restriction (catalog_of trace) v ≡ None
    → tracked v.def ≡ Some (n, def_at (defs_now (catalog_of trace)) n) → (def_at (defs_now (catalog_of trace)) n).part_key ≡ Some k → selects_key v.def ≡ false
    → slice_get v.def.query.items place ≡ Some (item.Col (record { table = n; part = Mark }))
    → sorted_by entry_cmp (entries_parted (catalog_of trace) v n (is_touched_mark (catalog_of trace) v n) place) ≡ stored v.def.query (base_now (catalog_of trace))
marked trace v n k place planned none is key by_mark selected =
    let c : Catalog = catalog_of trace in
    let q : StarQuery = v.def.query in
    let test : Value → Bool = is_touched_mark c v n in
    let table : Table = table_at (base_now c) n in
    let part_key : table.def.part_key ≡ Some k = ap (λ (d : TableDef). d.part_key) (sym (base_def (base_now c) n)) ∙ key in
    let fit : AllFit table = fit_at (base_now c) n (trace_fits trace) in
    let rows : filter (λ r. test (Num (pos r.mark))) (rows_at (base_now c) n) ≡ stale_rows c v n =
    filter_same (λ r. test (Num (pos r.mark))) (λ r. has_number (stale_numbers c v n) r.mark) (rows_at (base_now c) n)
    (each_map (λ r. Fits table r.values) (λ (r : RowAt). test (Num (pos r.mark)) ≡ has_number (stale_numbers c v n) r.mark) (row_at table) (row_marked c v n k part_key by_mark (numbered_at (base_now c) n (trace_numbered trace))) table.rows fit) in
    by_column trace v n Mark place test planned none is selected rows
    (λ p built.
    let point : point_of v ≡ p = ap (λ o. unwrap_or o 0) built in
    let out : ℕ → Value → Bool = λ m w. not (has_number (map (λ t. t.number) (touches_after c v n)) m) in
    let touched : Each (λ t. ((t.table == n) && within p c.scn t.touch.scn) ≡ true → has_number (map (λ t. t.number) (touches_after c v n)) t.touch.number ≡ true) c.touches =
    subst (λ (m : ℕ). Each (λ t. ((t.table == n) && within p c.scn t.touch.scn) ≡ true → has_number (map (λ t. t.number) (touches_of c n m c.scn)) t.touch.number ≡ true) c.touches) (sym point) (touched_number (λ t. (t.table == n) && within p c.scn t.touch.scn) c.touches) in
    let avoids : Each (Avoids out n p) c.touches =
    each_weaker (λ t. (t.touch.scn ≤ c.scn) × (((t.table == n) && within p c.scn t.touch.scn) ≡ true → has_number (map (λ t. t.number) (touches_after c v n)) t.touch.number ≡ true)) (Avoids out n p)
    (λ t both e w free. absurd (true≢false (sym free ∙ ap not (both.1 (three_true (t.table == n) (nat_lt p t.touch.scn) (nat_le t.touch.scn c.scn) e (le-leb t.touch.scn c.scn both.0)))))) c.touches
    (each_two (λ t. t.touch.scn ≤ c.scn) (λ t. ((t.table == n) && within p c.scn t.touch.scn) ≡ true → has_number (map (λ t. t.number) (touches_after c v n)) t.touch.number ≡ true) c.touches
    (touches_bounded c (reached trace)) touched) in
    same_kept out n k (base_at c p) (base_now c) (trace_outside trace n p out avoids) part_key fit)

-- ---- which of the two, and where nothing is stale

item_at : (c : ColRef) (is : List Item) → list_any (λ i. same_item (item.Col c) i) is ≡ true → (place : ℕ) × (slice_get is place ≡ Some (item.Col c))
item_at c [] e = cc
item_at c (i ∷ is) e = by (same_item (item.Col c) i) refl e (item_at c is)
  where
    is_it : (j : Item) → same_item (item.Col c) j ≡ true → j ≡ item.Col c
    is_it (item.Col d) f = ap item.Col (sym ((same_column-Decides c d).0 f))
    is_it (item.Agg a) f = cc

    by : (b : Bool) → same_item (item.Col c) i ≡ b → (b || list_any (λ i. same_item (item.Col c) i) is) ≡ true → (list_any (λ i. same_item (item.Col c) i) is ≡ true → (place : ℕ) × (slice_get is place ≡ Some (item.Col c)))
        → (place : ℕ) × (slice_get (i ∷ is) place ≡ Some (item.Col c))
    by true f e more = (0, ap Some (is_it i f))
    by false f e more = let h = more e in (suc h.0, h.1)

pub column_at : (q : StarQuery) (c : ColRef) → selects_column q c ≡ true → (place : ℕ) × (slice_get q.items place ≡ Some (item.Col c))
column_at q c e = item_at c q.items e

found_key : (t : ℕ × TableDef) (o : Option ℕ) → t.1.part_key ≡ o → is_some t.1.part_key ≡ true → (k : ℕ) × (t.1.part_key ≡ Some k)
found_key t None e some = absurd (true≢false (sym some ∙ ap is_some e))
found_key t (Some k) e some = (k, e)

tracked_is : (c : Catalog) (v : View) → IsPlanned c v → (t : ℕ × TableDef) → tracked v.def ≡ Some t → t.1 ≡ def_at (defs_now c) t.0
tracked_is c v planned t e =
    each_found (λ (t : ℕ × TableDef). t.1 ≡ def_at (defs_now c) t.0) (λ t. is_some t.1.part_key) (table_defs v.def) t
    (subst (Each (λ (t : ℕ × TableDef). t.1 ≡ def_at (defs_now c) t.0)) (sym (ap (zip v.def.query.tables) planned.defined ∙ zip_map (def_at (defs_now c)) v.def.query.tables))
    (each_made (λ (t : ℕ × TableDef). t.1 ≡ def_at (defs_now c) t.0) (λ n. (n, def_at (defs_now c) n)) (λ n. refl) v.def.query.tables)) e

choice : (trace : List Event) (v : View) → IsPlanned (catalog_of trace) v → part_restriction (catalog_of trace) v ≡ None → IsParted (catalog_of trace) v
choice trace v planned none = by (tracked v.def) refl
  where
    c : Catalog
    c = catalog_of trace

    p1 : check_p1 v.def ≡ None
    p1 = none_first (check_p1 v.def) _ (none_rest (check_f1 (facts_of (catalog_of trace) v)) _ none)

    p2 : not (selects_key v.def || selects_mark v.def) ≡ false
    p2 = none_where (not (selects_key v.def || selects_mark v.def)) P2 (none_first (check_p2 v.def) _ (none_rest (check_p1 v.def) _ (none_rest (check_f1 (facts_of (catalog_of trace) v)) _ none)))

    by : (o : Option (ℕ × TableDef)) → tracked v.def ≡ o → IsParted (catalog_of trace) v
    by None e = absurd (true≢false (sym (ap is_none e) ∙ none_where (is_none (tracked v.def)) P1 p1))
    by (Some t) e =
        let d : TableDef = def_at (defs_now (catalog_of trace)) t.0 in
        let is : t.1 ≡ d = tracked_is (catalog_of trace) v planned t e in
        let tracks : tracked v.def ≡ Some (t.0, d) = e ∙ ap (λ d. Some (t.0, d)) is in
        let some : is_some t.1.part_key ≡ true = find_passes (λ (t : ℕ × TableDef). is_some t.1.part_key) (table_defs v.def) t e in
        let key : (k : ℕ) × (t.1.part_key ≡ Some k) = found_key t t.1.part_key refl some in
        let keyed : d.part_key ≡ Some key.0 = ap (λ (d : TableDef). d.part_key) (sym is) ∙ key.1 in
        let col : ColRef = record { table = t.0; part = Col key.0 } in
        let tracks_key : tracked_key v.def ≡ Some col = ap (option_and_then (λ t. option_map (λ k. record { table = t.0; part = Col k }) t.1.part_key)) tracks ∙ ap (option_map (λ k. record { table = t.0; part = Col k })) keyed in
        let key_is : selects_key v.def ≡ selects_column v.def.query col = ap (λ o. option_case o false (selects_column v.def.query)) tracks_key in
        let mark_is : selects_mark v.def ≡ selects_column v.def.query (record { table = t.0; part = Mark }) = ap (λ o. option_case o false (λ t. selects_column v.def.query (record { table = t.0; part = Mark }))) tracks in
        one t.0 key.0 tracks keyed (selects_key v.def) refl key_is mark_is
      where
        one : (n k : ℕ) → tracked v.def ≡ Some (n, def_at (defs_now (catalog_of trace)) n) → (def_at (defs_now (catalog_of trace)) n).part_key ≡ Some k → (b : Bool) → selects_key v.def ≡ b
            → selects_key v.def ≡ selects_column v.def.query (record { table = n; part = Col k }) → selects_mark v.def ≡ selects_column v.def.query (record { table = n; part = Mark }) → IsParted (catalog_of trace) v
        one n k tracks keyed true f key_is mark_is =
            let at = column_at v.def.query (record { table = n; part = Col k }) (sym key_is ∙ f) in
            record { table = n; tracks = tracks; key = k; keyed = keyed; place = at.0; selected = inl at.1 }
        one n k tracks keyed false f key_is mark_is =
            let mark : selects_mark v.def ≡ true = not-false (selects_mark v.def) (sym (ap (λ b. not (b || selects_mark v.def)) f) ∙ p2) in
            let at = column_at v.def.query (record { table = n; part = Mark }) (sym mark_is ∙ mark) in
            record { table = n; tracks = tracks; key = k; keyed = keyed; place = at.0; selected = inr (f, at.1) }

filter_all : {A : Type 0} (p : A → Bool) → ((x : A) → p x ≡ true) → (xs : List A) → filter p xs ≡ xs
filter_all p h [] = refl
filter_all p h (x ∷ xs) = ap (λ b. cond b (x ∷ filter p xs) (filter p xs)) (h x) ∙ ap (λ rest. x ∷ rest) (filter_all p h xs)

still : (trace : List Event) (v : View) → IsPlanned (catalog_of trace) v → part_restriction (catalog_of trace) v ≡ None → stale_intervals (catalog_of trace) v ≡ []
    → content (catalog_of trace) v ≡ stored v.def.query (base_now (catalog_of trace))
still trace v planned none nothing =
    let c : Catalog = catalog_of trace in
    let q : StarQuery = v.def.query in
    let at : (p : ℕ) × (v.point ≡ Some p) = built_of v.point _ none in
    let p : ℕ = at.0 in
    let parted : IsParted c v = choice trace v planned none in
    let n : ℕ = parted.table in
    let all : List Interval = map (λ t. t.interval) (touches_of c n p c.scn) in
    let stale : union_of all ≡ [] =
    sym (ap (λ o. option_case o [] (λ t. union_of (map (λ touch. touch.interval) (touches_after c v t.0)))) parted.tracks ∙ ap (λ m. union_of (map (λ t. t.interval) (touches_of c n m c.scn))) (ap (λ o. unwrap_or o 0) at.1)) ∙ nothing in
    let free : (r : RowAt) → keeps (outside all) parted.key r ≡ true = λ r. ap not (sym (union-has (value_at r.values parted.key) all) ∙ ap (any_has (value_at r.values parted.key)) stale) in
    let part_key : (table_at (base_now c) n).def.part_key ≡ Some parted.key = ap (λ (d : TableDef). d.part_key) (sym (base_def (base_now c) n)) ∙ parted.keyed in
    let same : filter (keeps (outside all) parted.key) (rows_at (base_at c p) n) ≡ filter (keeps (outside all) parted.key) (rows_at (base_now c) n) =
    same_kept (outside all) n parted.key (base_at c p) (base_now c) (trace_outside trace n p (outside all) (avoids_touches trace n p)) part_key (fit_at (base_now c) n (trace_fits trace)) in
    let own : rows_at (base_at c p) n ≡ rows_at (base_now c) n = sym (filter_all (keeps (outside all) parted.key) free (rows_at (base_at c p) n)) ∙ same ∙ filter_all (keeps (outside all) parted.key) free (rows_at (base_now c) n) in
    content_is c v p at.1
    ∙ over_same q (rows_at (base_at c p)) (rows_at (base_now c)) (λ m e. by n p m (m == n) refl own (λ differ. others_still trace v n p (def_at (defs_now c) n) planned at.1 parted.tracks none m e differ))
  where
    by : (n p m : ℕ) (b : Bool) → (m == n) ≡ b → rows_at (base_at (catalog_of trace) p) n ≡ rows_at (base_now (catalog_of trace)) n → ((m == n) ≡ false → rows_at (base_at (catalog_of trace) p) m ≡ rows_at (base_now (catalog_of trace)) m)
        → rows_at (base_at (catalog_of trace) p) m ≡ rows_at (base_now (catalog_of trace)) m
    by n p m true e own other = subst (λ k. rows_at (base_at (catalog_of trace) p) k ≡ rows_at (base_now (catalog_of trace)) k) (sym (eqb-true m n e)) own
    by n p m false e own other = other e

reads : (c : Catalog) (v : View) (n : ℕ) → stale_part_rows c v n ≡ length (stale_rows c v n)
reads c v n =
    let t : Table = table_at (base_now c) n in
    sym (length-map (filter (λ r. has_number (stale_numbers c v n) (mark_of t r.values)) t.rows) (row_at t))
    ∙ ap (λ (rs : List RowAt). length rs) (sym (filter-map (λ (r : RowAt). has_number (stale_numbers c v n) r.mark) (row_at t) t.rows))

pub part_laws : PartLaws
part_laws = record { keyed = keyed; marked = marked; choice = choice; still = still; reads = reads }
