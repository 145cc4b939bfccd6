-- What the index of a key says of changes is what the definition asks of the whole table after them.
use Rattle.std.proofs.Common.{◌≡◌, ◌∙◌, sym, ap, refl, arith, ℕ, ◌+◌, ◌≤◌, Bool, true, false, cond, List, [], ◌∷◌, length, Option, None, Some, IsSomeAnd, is_some, option_map, slice_get}
use Rattle.std.specs.FinMap as fin
use Rattle.std.specs.List.{cons_option}
use Rattle.std.specs.Prelude.{map}
use Rattle.wh_base.proofs.Sorting.{times}
use Rattle.wh_base.specs.Lists.{option_case, repeated, where_true}
use Rattle.wh_base.specs.Tables.{column_name, value_at}
use Rattle.wh_base.specs.Values.{same_value}
use Rattle.wh_base.specs.declared.replies.Refusal.TheVariants.{DuplicateKey}
use Rattle.wh_base.specs.declared.values.Value.{Value}
use Rattle.def_effect.specs.Block.{column_values, key_refusal}
use Rattle.def_meaning.specs.Meaning.{not_null}
use Rattle.wh_dml.specs.Placed.{AreNext, ArePlaced, all_made}
use Rattle.wh_dml.specs.declared.changes.PlacedRow.{PlacedRow}
use Rattle.wh_dml.specs.declared.changes.RowChange.{RowChange}
use Rattle.law_keys.proofs.Changed.{IsBelow, counts_changed, def_made, entries_with, entry_of, few_go, last_made}
use Rattle.law_keys.proofs.Counts.{first_all}
use Rattle.law_keys.proofs.Keyed.{clash_put, found_put, found_without, one_row_at_most, rows_put, rows_without}
use Rattle.law_keys.proofs.Repeated.{no_nulls, none_repeated, same_is, some_repeated}
use Rattle.law_keys.proofs.Shown.{counted_now, values_seen}
use Rattle.law_keys.proofs.Standing.{coming_stand, kept, value_there}
use Rattle.law_keys.specs.Fitting.{KeyFits, count_in, has_value, value_in}
use Rattle.law_keys.specs.Laws.{KeyLaws}
use Rattle.wh_keys.specs.Indexes.{Places, coming, going, keys_changed, rows_with, without_keys}
use Rattle.wh_segment.specs.declared.version.Version.{Version}
use Rattle.wh_table.proofs.Counting.{each_from}
use Rattle.wh_table.proofs.Ordered.{Each}
use Rattle.wh_table.specs.Stored.{Stored, last_scn, seen}

-- ---- entries have values

-- the value of an entry isn't NULL
abbrev IsKeyed : Value × ℕ → Type 0
IsKeyed e = not_null e.0 ≡ true

pub one_keyed : (P : Value × ℕ → Type 0) (column : ℕ) (o : Option PlacedRow) (es : List (Value × ℕ)) → ((r : PlacedRow) → not_null (value_at r.values column) ≡ true → P (value_at r.values column, r.place)) → Each P es → Each P (cons_option (entry_of column o) es)
one_keyed P column None es h rest = rest
one_keyed P column (Some r) es h rest = by (not_null (value_at r.values column)) refl
  where
    by : (b : Bool) → not_null (value_at r.values column) ≡ b → Each P (cons_option (where_true b (value_at r.values column, r.place)) es)
    by true e = (h r e, rest)
    by false e = rest

going_keyed : (column : ℕ) (cs : List RowChange) → Each IsKeyed (going column cs)
going_keyed column [] = tt
going_keyed column (c ∷ cs) = one_keyed IsKeyed column c.old (going column cs) (λ r e. e) (going_keyed column cs)

coming_keyed : (column : ℕ) (cs : List RowChange) → Each IsKeyed (coming column cs)
coming_keyed column [] = tt
coming_keyed column (c ∷ cs) = one_keyed IsKeyed column c.new (coming column cs) (λ r e. e) (coming_keyed column cs)

keyed_with : (v : Value) (es : List (Value × ℕ)) → Each IsKeyed es → 1 ≤ entries_with v es → not_null v ≡ true
keyed_with v [] h some = absurd (omega (arith, some))
keyed_with v (e ∷ es) h some = by (same_value v e.0) refl some (keyed_with v es h.1)
  where
    by : (b : Bool) → same_value v e.0 ≡ b → 1 ≤ cond b 1 0 + entries_with v es → (1 ≤ entries_with v es → not_null v ≡ true) → not_null v ≡ true
    by true same k more = ap not_null (same_is v e.0 same) ∙ h.0
    by false same k more = more (omega (arith, k))

pub going_value : (v : Value) (column : ℕ) (cs : List RowChange) → 1 ≤ entries_with v (going column cs) → not_null v ≡ true
going_value v column cs some = keyed_with v (going column cs) (going_keyed column cs) some

pub coming_value : (v : Value) (column : ℕ) (cs : List RowChange) → 1 ≤ entries_with v (coming column cs) → not_null v ≡ true
coming_value v column cs some = keyed_with v (coming column cs) (coming_keyed column cs) some

-- ---- counts after the changes

pub counts_after : (v : Value) (column scn : ℕ) (s : Stored) (cs : List RowChange) → AreNext scn s cs
    → count_in (all_made scn cs s) column v + entries_with v (going column cs) ≡ count_in s column v + entries_with v (coming column cs)
counts_after v column scn s cs h =
    omega (arith, counts_changed v column scn s cs h, counted_now s column v, counted_now (all_made scn cs s) column v)

pub below_all : (scn : ℕ) (s : Stored) (cs : List RowChange) → ArePlaced scn s cs → Each (IsBelow (length s.versions)) cs
below_all scn s cs h = each_from (IsBelow (length s.versions)) cs h.apart

pub going_few : (v : Value) (column scn : ℕ) (s : Stored) (cs : List RowChange) → ArePlaced scn s cs → entries_with v (going column cs) ≤ count_in s column v
going_few v column scn s cs h =
    omega (
      arith,
      few_go v column scn (length s.versions) s cs h.next (below_all scn s cs h) (omega arith),
      first_all (has_value column v) s.versions,
      counted_now s column v,
    )

module _ (scn : ℕ) (s : Stored) (column : ℕ) (cs : List RowChange) (m : Places) (in_time : last_scn s.versions ≤ scn) (placed : ArePlaced scn s cs) (fit : KeyFits s column m) where
  -- the rows with a value are those that the index still has, and those that come
  rows_after : (v : Value) → not_null v ≡ true → count_in (all_made scn cs s) column v ≡ rows_with v (without_keys (going column cs) m) + entries_with v (coming column cs)
  rows_after v there =
      let tallied = fit.tallied v there in
      let few = going_few v column scn s cs placed in
      let after = counts_after v column scn s cs placed.next in
      let left = rows_without (going column cs) m v (omega (arith, tallied, few)) in
      omega (arith, tallied, after, left)

  seen_after : (v : Value) → times (same_value v) (column_values (seen scn (all_made scn cs s)) column) ≡ count_in (all_made scn cs s) column v
  seen_after v = values_seen v column scn (all_made scn cs s) (last_made scn s cs placed.next in_time)

  clashes : keys_changed column cs m ≡ None → key_refusal (seen scn (all_made scn cs s)) column ≡ Some (DuplicateKey s.def.name (column_name s.def column))
  clashes none =
      let c = clash_put (coming column cs) (without_keys (going column cs) m) none in
      let rows = rows_after c.value (coming_value c.value column cs c.comes) in
      let shown = seen_after c.value in
      let twice = some_repeated c.value [] (column_values (seen scn (all_made scn cs s)) column) (omega (arith, c.twice, rows, shown)) (omega (arith, c.twice, rows, shown)) in
      refused (repeated same_value (column_values (seen scn (all_made scn cs s)) column)) twice
      ∙ ap (λ d. Some (DuplicateKey d.name (column_name d column))) (def_made scn s cs)
    where
      refused : (o : Option Value) → is_some o ≡ true → option_map (λ _. DuplicateKey (all_made scn cs s).def.name (column_name (all_made scn cs s).def column)) o ≡ Some (DuplicateKey (all_made scn cs s).def.name (column_name (all_made scn cs s).def column))
      refused None e = cc
      refused (Some v) e = refl

  module _ (n : Places) (changed : keys_changed column cs m ≡ Some n) where
    tallied_after : (v : Value) → not_null v ≡ true → rows_with v n ≡ count_in (all_made scn cs s) column v
    tallied_after v there = rows_put (coming column cs) (without_keys (going column cs) m) n v changed ∙ sym (rows_after v there)

    once : (v : Value) → times (same_value v) (column_values (seen scn (all_made scn cs s)) column) ≤ 1
    once v = by (not_null v) refl
      where
        by : (b : Bool) → not_null v ≡ b → times (same_value v) (column_values (seen scn (all_made scn cs s)) column) ≤ 1
        by true there = omega (arith, seen_after v, tallied_after v there, one_row_at_most v n)
        by false null = omega (arith, no_nulls v (map (λ r. value_at r.values column) (seen scn (all_made scn cs s)).rows) null)

    uniques : key_refusal (seen scn (all_made scn cs s)) column ≡ None
    uniques =
        ap (option_map (λ _. DuplicateKey (all_made scn cs s).def.name (column_name (all_made scn cs s).def column)))
        (none_repeated [] (column_values (seen scn (all_made scn cs s)) column) (λ v. omega (arith, once v)))

    found_after : (v : Value) (p : ℕ) → fin.get n v ≡ Some p → value_there column (all_made scn cs s).versions p ≡ Some v
    found_after =
        found_put (λ v p. value_there column (all_made scn cs s).versions p ≡ Some v) (coming column cs) (without_keys (going column cs) m) n changed
        (coming_stand column scn (length s.versions) s cs placed.next (below_all scn s cs placed) (omega arith))
        (λ v p found. (let before = found_without (going column cs) m v p found in kept v column scn s cs p placed.next (there_from column s.versions p v (fit.sound v p before.0)) before.1))
      where
        there_from : (column : ℕ) (vs : List Version) (p : ℕ) (v : Value) → IsSomeAnd (slice_get vs p) (λ w. value_in column w ≡ Some v) → value_there column vs p ≡ Some v
        there_from column vs p v h = by (slice_get vs p) h
          where
            by : (o : Option Version) → IsSomeAnd o (λ w. value_in column w ≡ Some v) → option_case o None (value_in column) ≡ Some v
            by None k = absurd k
            by (Some w) k = k

    fits_after : KeyFits (all_made scn cs s) column n
    fits_after = record {
      sound = λ v p found. from_there (slice_get (all_made scn cs s).versions p) v (found_after v p found);
      tallied = tallied_after;
    }
      where
        from_there : (o : Option Version) (v : Value) → option_case o None (value_in column) ≡ Some v → IsSomeAnd o (λ w. value_in column w ≡ Some v)
        from_there None v e = cc
        from_there (Some w) v e = e

pub key_laws : KeyLaws
key_laws = record {
  clash = λ scn s column cs m stored in_time placed fit none. clashes scn s column cs m in_time placed fit none;
  unique = λ scn s column cs m n stored in_time placed fit changed. uniques scn s column cs m in_time placed fit n changed;
  fits = λ scn s column cs m n stored in_time placed fit changed. fits_after scn s column cs m in_time placed fit n changed;
}
