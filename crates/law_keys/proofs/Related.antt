-- What the indexes say of changes is what the definition asks of all parents and children after them.
use Rattle.std.proofs.Common.{◌≡◌, ◌∙◌, sym, ap, refl, arith, ℕ, zero, suc, ◌+◌, ◌≤◌, Bool, true, false, cond, not, ◌&&◌, ◌||◌, List, [], ◌∷◌, map, Option, None, Some, is_none, is_some, nat_lt, true≢false, lt-ltb}
use Rattle.std.proofs.lemmas.Bool.{and_from, and_parts}
use Rattle.std.specs.FinMap as fin
use Rattle.std.specs.List.{list_any}
use Rattle.wh_base.proofs.Sorting.{times}
use Rattle.wh_base.specs.Tables.{Base, Table, table_at, value_at}
use Rattle.wh_base.specs.Values.{same_value}
use Rattle.wh_base.specs.declared.tables.ForeignDef.{ForeignDef}
use Rattle.wh_base.specs.declared.values.Value.{Value}
use Rattle.def_effect.specs.Block.{column_values, is_orphaned}
use Rattle.def_meaning.specs.Meaning.{not_null}
use Rattle.wh_dml.specs.Placed.{ArePlaced, all_made}
use Rattle.wh_dml.specs.declared.changes.RowChange.{RowChange}
use Rattle.law_keys.proofs.Changed.{entries_with, last_made}
use Rattle.law_keys.proofs.Counts.{any_none, both_ways, none_any, weight, weight_one}
use Rattle.law_keys.proofs.Repeated.{no_nulls, same_is, same_itself}
use Rattle.law_keys.proofs.Shown.{values_seen}
use Rattle.law_keys.proofs.Told.{coming_value, counts_after, going_few, going_value}
use Rattle.law_keys.proofs.Valued.{places_counted, values_fit}
use Rattle.law_keys.specs.Fitting.{KeyFits, ValuesFit, count_in}
use Rattle.law_keys.specs.Laws.{ForeignLaws}
use Rattle.wh_keyindex.specs.Children.{Values, places_with}
use Rattle.wh_keys.specs.Indexes.{Places, coming, going, rows_with}
use Rattle.wh_table.specs.Stored.{Stored, last_scn, seen}

-- ---- some value of a list passes

-- a value that passes, and is there
record Found (p : Value → Bool) (xs : List Value) : Type 0 where
  value : Value
  passes : p value ≡ true
  there : 1 ≤ times (same_value value) xs

found_value : (p : Value → Bool) (xs : List Value) → list_any p xs ≡ true → Found p xs
found_value p [] h = absurd (true≢false (sym h))
found_value p (x ∷ xs) h = by (p x) refl h (found_value p xs)
  where
    by : (b : Bool) → p x ≡ b → (b || list_any p xs) ≡ true → (list_any p xs ≡ true → Found p xs) → Found p (x ∷ xs)
    by true e k later = let one = weight_one (same_value x x) (same_itself x) in record { value = x; passes = e; there = omega (arith, one) }
    by false e k later = let f = later k in record { value = f.value; passes = f.passes; there = omega (arith, f.there) }

any_value : (p : Value → Bool) (v : Value) (xs : List Value) → p v ≡ true → 1 ≤ times (same_value v) xs → list_any p xs ≡ true
any_value p v [] h some = absurd (omega (arith, some))
any_value p v (x ∷ xs) h some = by (same_value v x) refl some (any_value p v xs h)
  where
    or_later : (b : Bool) → list_any p xs ≡ true → (b || list_any p xs) ≡ true
    or_later true e = refl
    or_later false e = e

    by : (b : Bool) → same_value v x ≡ b → 1 ≤ cond b 1 0 + times (same_value v) xs → (1 ≤ times (same_value v) xs → list_any p xs ≡ true) → (p x || list_any p xs) ≡ true
    by true e k later = ap (λ b. b || list_any p xs) (ap p (sym (same_is v x e)) ∙ h)
    by false e k later = or_later (p x) (later (omega (arith, k)))

-- the same of entries, by their values
record FoundEntry (p : Value → Bool) (es : List (Value × ℕ)) : Type 0 where
  value : Value
  passes : p value ≡ true
  there : 1 ≤ entries_with value es

found_entry : (p : Value → Bool) (es : List (Value × ℕ)) → list_any (λ e. p e.0) es ≡ true → FoundEntry p es
found_entry p [] h = absurd (true≢false (sym h))
found_entry p (e ∷ es) h = by (p e.0) refl h (found_entry p es)
  where
    by : (b : Bool) → p e.0 ≡ b → (b || list_any (λ d. p d.0) es) ≡ true → (list_any (λ d. p d.0) es ≡ true → FoundEntry p es) → FoundEntry p (e ∷ es)
    by true f k later = let one = weight_one (same_value e.0 e.0) (same_itself e.0) in record { value = e.0; passes = f; there = omega (arith, one) }
    by false f k later = let d = later k in record { value = d.value; passes = d.passes; there = omega (arith, d.there) }

any_entry : (p : Value → Bool) (v : Value) (es : List (Value × ℕ)) → p v ≡ true → 1 ≤ entries_with v es → list_any (λ e. p e.0) es ≡ true
any_entry p v [] h some = absurd (omega (arith, some))
any_entry p v (e ∷ es) h some = by (same_value v e.0) refl some (any_entry p v es h)
  where
    or_later : (b : Bool) → list_any (λ d. p d.0) es ≡ true → (b || list_any (λ d. p d.0) es) ≡ true
    or_later true f = refl
    or_later false f = f

    by : (b : Bool) → same_value v e.0 ≡ b → 1 ≤ cond b 1 0 + entries_with v es → (1 ≤ entries_with v es → list_any (λ d. p d.0) es ≡ true) → (p e.0 || list_any (λ d. p d.0) es) ≡ true
    by true f k later = ap (λ b. b || list_any (λ d. p d.0) es) (ap p (sym (same_is v e.0 f)) ∙ h)
    by false f k later = or_later (p e.0) (later (omega (arith, k)))

-- ---- parents

-- none of these is the value
abbrev lacks : List Value → Value → Bool
lacks parents v = not (list_any (same_value v) parents)

-- a table has no row with the value
lacks_none : (scn : ℕ) (p : Stored) (column : ℕ) (v : Value) → last_scn p.versions ≤ scn → lacks (column_values (seen scn p) column) v ≡ true → count_in p column v ≡ 0
lacks_none scn p column v in_time h =
    let none = none_any (same_value v) (column_values (seen scn p) column) (not_true (list_any (same_value v) (column_values (seen scn p) column)) h) in
    sym (values_seen v column scn p in_time) ∙ none
  where
    not_true : (b : Bool) → not b ≡ true → b ≡ false
    not_true true e = sym e
    not_true false e = refl

none_lacks : (scn : ℕ) (p : Stored) (column : ℕ) (v : Value) → last_scn p.versions ≤ scn → count_in p column v ≡ 0 → lacks (column_values (seen scn p) column) v ≡ true
none_lacks scn p column v in_time none = ap not (any_none (same_value v) (column_values (seen scn p) column) (values_seen v column scn p in_time ∙ none))

-- the index lacks the value
absent_none : (m : Places) (v : Value) → is_none (fin.get m v) ≡ true → rows_with v m ≡ 0
absent_none m v h = by (fin.get m v) h
  where
    by : (o : Option ℕ) → is_none o ≡ true → weight (is_some o) ≡ 0
    by None e = refl
    by (Some p) e = cc

none_absent : (m : Places) (v : Value) → rows_with v m ≡ 0 → is_none (fin.get m v) ≡ true
none_absent m v h = by (fin.get m v) h
  where
    by : (o : Option ℕ) → weight (is_some o) ≡ 0 → is_none o ≡ true
    by None e = refl
    by (Some p) e = absurd (omega (arith, e))

-- a value that is in a column isn't NULL
listed_value : (t : Table) (column : ℕ) (v : Value) → 1 ≤ times (same_value v) (column_values t column) → not_null v ≡ true
listed_value t column v some = by (not_null v) refl
  where
    by : (b : Bool) → not_null v ≡ b → b ≡ true
    by true e = refl
    by false e = let none = no_nulls v (map (λ r. value_at r.values column) t.rows) e in absurd (omega (arith, none, some))

-- the foreign key as the definition asks it, with the table of the parents
orphaned_by : (base : Base) (t : Table) (f : ForeignDef) (parent : Table) → table_at base f.table ≡ parent → is_orphaned base t f ≡ list_any (lacks (column_values parent f.to)) (column_values t f.column)
orphaned_by base t f parent e = ap (λ u. list_any (lacks (column_values u f.to)) (column_values t f.column)) e

module _ (scn : ℕ) (s p : Stored) (f : ForeignDef) (cs : List RowChange) (m : Places) (in_time : last_scn s.versions ≤ scn) (parent_in_time : last_scn p.versions ≤ scn) (placed : ArePlaced scn s cs)
    (fit : KeyFits p f.to m) (held : list_any (lacks (column_values (seen scn p) f.to)) (column_values (seen scn s) f.column) ≡ false) where
  after_in_time : last_scn (all_made scn cs s).versions ≤ scn
  after_in_time = last_made scn s cs placed.next in_time

  -- a value without a parent wasn't there before
  not_there : (v : Value) → lacks (column_values (seen scn p) f.to) v ≡ true → count_in s f.column v ≡ 0
  not_there v h = by (count_in s f.column v) refl
    where
      by : (n : ℕ) → count_in s f.column v ≡ n → n ≡ 0
      by zero e = refl
      by (suc n) e =
          let shown = values_seen v f.column scn s in_time in
          absurd (true≢false (sym (any_value (lacks (column_values (seen scn p) f.to)) v (column_values (seen scn s) f.column) h (omega (arith, shown, e))) ∙ held))

  comes_without : list_any (lacks (column_values (seen scn p) f.to)) (column_values (seen scn (all_made scn cs s)) f.column) ≡ true → list_any (λ e. is_none (fin.get m e.0)) (coming f.column cs) ≡ true
  comes_without h =
      let d = found_value (lacks (column_values (seen scn p) f.to)) (column_values (seen scn (all_made scn cs s)) f.column) h in
      let keyed = listed_value (seen scn (all_made scn cs s)) f.column d.value d.there in
      let no_parent = lacks_none scn p f.to d.value parent_in_time d.passes in
      let tallied = fit.tallied d.value keyed in
      let before = not_there d.value d.passes in
      let after = counts_after d.value f.column scn s cs placed.next in
      let shown = values_seen d.value f.column scn (all_made scn cs s) after_in_time in
      any_entry (λ v. is_none (fin.get m v)) d.value (coming f.column cs) (none_absent m d.value (omega (arith, tallied, no_parent))) (omega (arith, d.there, before, after, shown))

  without_comes : list_any (λ e. is_none (fin.get m e.0)) (coming f.column cs) ≡ true → list_any (lacks (column_values (seen scn p) f.to)) (column_values (seen scn (all_made scn cs s)) f.column) ≡ true
  without_comes h =
      let d = found_entry (λ v. is_none (fin.get m v)) (coming f.column cs) h in
      let tallied = fit.tallied d.value (coming_value d.value f.column cs d.there) in
      let absent = absent_none m d.value d.passes in
      let after = counts_after d.value f.column scn s cs placed.next in
      let few = going_few d.value f.column scn s cs placed in
      let shown = values_seen d.value f.column scn (all_made scn cs s) after_in_time in
      any_value (lacks (column_values (seen scn p) f.to)) d.value (column_values (seen scn (all_made scn cs s)) f.column)
      (none_lacks scn p f.to d.value parent_in_time (omega (arith, tallied, absent)))
      (omega (arith, d.there, after, few, shown))

  parents_after : list_any (lacks (column_values (seen scn p) f.to)) (column_values (seen scn (all_made scn cs s)) f.column) ≡ list_any (λ e. is_none (fin.get m e.0)) (coming f.column cs)
  parents_after = both_ways _ _ comes_without without_comes

-- ---- children

above_none : (n : ℕ) → nat_lt 0 n ≡ true → 1 ≤ n
above_none zero e = absurd (true≢false (sym e))
above_none (suc n) e = omega arith

none_above : (n : ℕ) → 1 ≤ n → nat_lt 0 n ≡ true
none_above n h = lt-ltb 0 n h

module _ (scn : ℕ) (s c : Stored) (f : ForeignDef) (cs : List RowChange) (n : Places) (m : Values) (in_time : last_scn s.versions ≤ scn) (child_in_time : last_scn c.versions ≤ scn) (placed : ArePlaced scn s cs)
    (fit : KeyFits (all_made scn cs s) f.to n) (values : ValuesFit c f.column m) (held : list_any (lacks (column_values (seen scn s) f.to)) (column_values (seen scn c) f.column) ≡ false) where
  keys_in_time : last_scn (all_made scn cs s).versions ≤ scn
  keys_in_time = last_made scn s cs placed.next in_time

  -- a value that a child has was a key before
  was_key : (v : Value) → 1 ≤ times (same_value v) (column_values (seen scn c) f.column) → 1 ≤ count_in s f.to v
  was_key v some = by (count_in s f.to v) refl
    where
      by : (k : ℕ) → count_in s f.to v ≡ k → 1 ≤ k
      by zero e = absurd (true≢false (sym (any_value (lacks (column_values (seen scn s) f.to)) v (column_values (seen scn c) f.column) (none_lacks scn s f.to v in_time e) some) ∙ held))
      by (suc k) e = omega arith

  goes_with : list_any (lacks (column_values (seen scn (all_made scn cs s)) f.to)) (column_values (seen scn c) f.column) ≡ true
      → list_any (λ e. is_none (fin.get n e.0) && nat_lt 0 (places_with e.0 m)) (going f.to cs) ≡ true
  goes_with h =
      let d = found_value (lacks (column_values (seen scn (all_made scn cs s)) f.to)) (column_values (seen scn c) f.column) h in
      let keyed = listed_value (seen scn c) f.column d.value d.there in
      let no_parent = lacks_none scn (all_made scn cs s) f.to d.value keys_in_time d.passes in
      let tallied = fit.tallied d.value keyed in
      let before = was_key d.value d.there in
      let after = counts_after d.value f.to scn s cs placed.next in
      let counted = places_counted c f.column m d.value values in
      let shown = values_seen d.value f.column scn c child_in_time in
      any_entry (λ v. is_none (fin.get n v) && nat_lt 0 (places_with v m)) d.value (going f.to cs)
      (and_from (is_none (fin.get n d.value)) (nat_lt 0 (places_with d.value m)) (none_absent n d.value (omega (arith, tallied, no_parent))) (none_above (places_with d.value m) (omega (arith, counted, shown, d.there))))
      (omega (arith, before, after, no_parent))

  with_goes : list_any (λ e. is_none (fin.get n e.0) && nat_lt 0 (places_with e.0 m)) (going f.to cs) ≡ true
      → list_any (lacks (column_values (seen scn (all_made scn cs s)) f.to)) (column_values (seen scn c) f.column) ≡ true
  with_goes h =
      let d = found_entry (λ v. is_none (fin.get n v) && nat_lt 0 (places_with v m)) (going f.to cs) h in
      let both = and_parts (is_none (fin.get n d.value)) (nat_lt 0 (places_with d.value m)) d.passes in
      let tallied = fit.tallied d.value (going_value d.value f.to cs d.there) in
      let absent = absent_none n d.value both.0 in
      let some = above_none (places_with d.value m) both.1 in
      let counted = places_counted c f.column m d.value values in
      let shown = values_seen d.value f.column scn c child_in_time in
      any_value (lacks (column_values (seen scn (all_made scn cs s)) f.to)) d.value (column_values (seen scn c) f.column)
      (none_lacks scn (all_made scn cs s) f.to d.value keys_in_time (omega (arith, tallied, absent)))
      (omega (arith, some, counted, shown))

  children_after : list_any (lacks (column_values (seen scn (all_made scn cs s)) f.to)) (column_values (seen scn c) f.column)
      ≡ list_any (λ e. is_none (fin.get n e.0) && nat_lt 0 (places_with e.0 m)) (going f.to cs)
  children_after = both_ways _ _ goes_with with_goes

pub foreign_laws : ForeignLaws
foreign_laws = record {
  fits = values_fit;
  counted = λ s column m v fit there. places_counted s column m v fit;
  parents = λ scn s p f cs m before after s_stored p_stored in_time parent_in_time placed fit was is held.
      orphaned_by after (seen scn (all_made scn cs s)) f (seen scn p) is
      ∙ parents_after scn s p f cs m in_time parent_in_time placed fit (sym (orphaned_by before (seen scn s) f (seen scn p) was) ∙ held);
  children = λ scn s c f cs n m before after s_stored c_stored in_time child_in_time placed fit values was is held.
      orphaned_by after (seen scn c) f (seen scn (all_made scn cs s)) is
      ∙ children_after scn s c f cs n m in_time child_in_time placed fit values (sym (orphaned_by before (seen scn c) f (seen scn s) was) ∙ held);
}
