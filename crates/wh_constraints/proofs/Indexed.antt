-- All indexes with others of one table, and tables with a change of one.
use Rattle.std.proofs.Common.{◌≡◌, ◌∙◌, sym, ap, refl, arith, ℕ, zero, suc, ◌<◌, true, List, [], ◌∷◌, length, Option, None, Some, is_none, not-suc-le-zero, slice_get, unwrap_or}
use Rattle.std.proofs.lemmas.Option.{none-some, same_Some}
use Rattle.std.specs.FinMap as fin
use Rattle.std.specs.Prelude.{Err, Ok, Result}
use Rattle.wh_base.specs.Lists.{option_case, ◌>>=◌}
use Rattle.wh_base.specs.Tables.{def_at, empty_def, table_at}
use Rattle.wh_base.specs.Values.{value_cmp}
use Rattle.wh_base.specs.declared.tables.TableDef.{TableDef}
use Rattle.wh_base.specs.declared.values.Value.{Value}
use Rattle.wh_constraints.specs.Constraints.{key_index, key_number}
use Rattle.wh_dml.specs.declared.changes.RowChange.{RowChange}
use Rattle.wh_keys.specs.Indexes.{Indexes, Places}
use Rattle.wh_keys.specs.Made.{AnswersKeys, all_keys_changed, indexes_at, key_at, keys_made, no_indexes, with_indexes, with_keys_of}
use Rattle.wh_table.specs.Kept.{defs_of, with_change}
use Rattle.wh_table.specs.Stored.{Stored, base_seen, seen}

-- ---- options

-- ---- items of lists

pub get_within : {A : Type 0} (xs : List A) (k : ℕ) (x : A) → slice_get xs k ≡ Some x → k < length xs
get_within [] k x e = absurd (none-some x e)
get_within (y ∷ xs) zero x e = omega arith
get_within (y ∷ xs) (suc k) x e = omega (arith, get_within xs k x e)

-- the item at a place
pub record ItemAt {A : Type 0} (xs : List A) (k : ℕ) : Type 0 where
  pub item : A
  pub is : slice_get xs k ≡ Some item

pub item_at : {A : Type 0} (xs : List A) (k : ℕ) → k < length xs → ItemAt xs k
item_at [] k h = absurd (not-suc-le-zero h)
item_at (x ∷ xs) zero h = record { item = x; is = refl }
item_at (x ∷ xs) (suc k) h = let i = item_at xs k (omega (arith, h)) in record { item = i.item; is = i.is }

-- ---- all indexes

pub length_indexes : (n : ℕ) (i : Indexes) (all : List Indexes) → length (with_indexes n i all) ≡ length all
length_indexes n i [] = refl
length_indexes zero i (j ∷ all) = refl
length_indexes (suc n) i (j ∷ all) = ap suc (length_indexes n i all)

pub indexes_in : (n : ℕ) (i : Indexes) (all : List Indexes) → n < length all → slice_get (with_indexes n i all) n ≡ Some i
indexes_in n i [] h = absurd (not-suc-le-zero h)
indexes_in zero i (j ∷ all) h = refl
indexes_in (suc n) i (j ∷ all) h = indexes_in n i all (omega (arith, h))

pub indexes_beside : (n m : ℕ) (i : Indexes) (all : List Indexes) → (n ≡ m → ⊥) → slice_get (with_indexes n i all) m ≡ slice_get all m
indexes_beside n m i [] h = refl
indexes_beside zero zero i (j ∷ all) h = absurd (h refl)
indexes_beside zero (suc m) i (j ∷ all) h = refl
indexes_beside (suc n) zero i (j ∷ all) h = refl
indexes_beside (suc n) (suc m) i (j ∷ all) h = indexes_beside n m i all (λ e. h (ap suc e))

pub at_in : (n : ℕ) (i : Indexes) (all : List Indexes) → n < length all → indexes_at (with_indexes n i all) n ≡ i
at_in n i all h = ap (λ o. unwrap_or o no_indexes) (indexes_in n i all h)

pub at_beside : (n m : ℕ) (i : Indexes) (all : List Indexes) → (n ≡ m → ⊥) → indexes_at (with_indexes n i all) m ≡ indexes_at all m
at_beside n m i all h = ap (λ o. unwrap_or o no_indexes) (indexes_beside n m i all h)

-- ---- the keys changed

-- the indexes of the keys after the changes, and all indexes with them
pub record MadeKeys (n : ℕ) (columns : List ℕ) (cs : List RowChange) (all now : List Indexes) : Type 0 where
  pub places : List Places
  pub made : all_keys_changed columns cs (indexes_at all n).keys ≡ Ok places
  pub is : now ≡ with_keys_of n all places

pub made_keys : (n : ℕ) (columns : List ℕ) (cs : List RowChange) (all now : List Indexes) → keys_made n columns cs all ≡ Ok now → MadeKeys n columns cs all now
made_keys n columns cs all now h = by (all_keys_changed columns cs (indexes_at all n).keys) refl h
  where
    by : (r : Result (List Places) ℕ) → all_keys_changed columns cs (indexes_at all n).keys ≡ r → (r >>= (λ ms. Ok (with_keys_of n all ms))) ≡ Ok now → MadeKeys n columns cs all now
    by (Ok ms) e k = record { places = ms; made = e; is = same (with_keys_of n all ms) now k }
      where
        okay : List Indexes → Result (List Indexes) ℕ
        okay x = Ok x

        same : (x y : List Indexes) → okay x ≡ Ok y → y ≡ x
        same x y e = cc
    by (Err column) e k = absurd (refused column now k)
      where
        refused : (column : ℕ) (x : List Indexes) → Err column ≡ Ok x → ⊥
        refused column x e = cc

made_by : (n : ℕ) (columns : List ℕ) (cs : List RowChange) (all now : List Indexes) (clash : Option ℕ) → AnswersKeys (keys_made n columns cs all) clash now → clash ≡ None → MadeKeys n columns cs all now
made_by n columns cs all now None h e = made_keys n columns cs all now h
made_by n columns cs all now (Some column) h e = absurd (none-some column (sym e))

pub still_there : (n : ℕ) (columns : List ℕ) (cs : List RowChange) (all now : List Indexes) (clash : Option ℕ) → AnswersKeys (keys_made n columns cs all) clash now → clash ≡ None → n < length all
    → n < length now
still_there n columns cs all now clash h e within =
    let m = made_by n columns cs all now clash h e in
    let same = ap length m.is ∙ length_indexes n (record { keys = m.places; foreign = (indexes_at all n).foreign }) all in
    omega (arith, within, same)

pub same_foreign : (n : ℕ) (columns : List ℕ) (cs : List RowChange) (all now : List Indexes) (clash : Option ℕ) → AnswersKeys (keys_made n columns cs all) clash now → clash ≡ None → n < length all
    → (indexes_at all n).foreign ≡ (indexes_at now n).foreign
same_foreign n columns cs all now clash h e within =
    let m = made_by n columns cs all now clash h e in
    sym (ap (λ is. (indexes_at is n).foreign) m.is ∙ ap (λ i. i.foreign) (at_in n (record { keys = m.places; foreign = (indexes_at all n).foreign }) all within))

-- ---- a key that isn't there

no_number : (all : List Indexes) (n : ℕ) (v : Value) (o : Option ℕ) → o ≡ None → true ≡ is_none (fin.get (option_case o fin.empty (key_at (indexes_at all n).keys)) v)
no_number all n v None e = sym (ap is_none (fin.get-empty value_cmp v))
no_number all n v (Some k) e = absurd (none-some k (sym e))

pub number_missing : (defs : List TableDef) (all : List Indexes) (n column : ℕ) (v : Value) (d : TableDef) → slice_get defs n ≡ Some d → key_number d column ≡ None
    → true ≡ is_none (fin.get (key_index defs all n column) v)
number_missing defs all n column v d there none = no_number all n v (key_number (def_at defs n) column) (ap (λ o. key_number (unwrap_or o empty_def) column) there ∙ none)

pub table_missing : (defs : List TableDef) (all : List Indexes) (n column : ℕ) (v : Value) → slice_get defs n ≡ None → true ≡ is_none (fin.get (key_index defs all n column) v)
table_missing defs all n column v none = no_number all n v (key_number (def_at defs n) column) (ap (λ o. key_number (unwrap_or o empty_def) column) none)

pub ruleset absent = (number_missing, table_missing)

-- ---- tables with a change of one

pub changed_in : (n : ℕ) (change : Stored → Stored) (tables : List Stored) (s : Stored) → slice_get tables n ≡ Some s → slice_get (with_change n change tables) n ≡ Some (change s)
changed_in n change [] s e = absurd (none-some s e)
changed_in zero change (t ∷ tables) s e = ap (λ u. Some (change u)) (same_Some t s e)
changed_in (suc n) change (t ∷ tables) s e = changed_in n change tables s e

pub changed_beside : (n m : ℕ) (change : Stored → Stored) (tables : List Stored) → (n ≡ m → ⊥) → slice_get (with_change n change tables) m ≡ slice_get tables m
changed_beside n m change [] h = refl
changed_beside zero zero change (t ∷ tables) h = absurd (h refl)
changed_beside zero (suc m) change (t ∷ tables) h = refl
changed_beside (suc n) zero change (t ∷ tables) h = refl
changed_beside (suc n) (suc m) change (t ∷ tables) h = changed_beside n m change tables (λ e. h (ap suc e))

pub length_changed : (n : ℕ) (change : Stored → Stored) (tables : List Stored) → length (with_change n change tables) ≡ length tables
length_changed n change [] = refl
length_changed zero change (t ∷ tables) = refl
length_changed (suc n) change (t ∷ tables) = ap suc (length_changed n change tables)

pub defs_changed : (n : ℕ) (change : Stored → Stored) (tables : List Stored) → ((s : Stored) → (change s).def ≡ s.def) → defs_of (with_change n change tables) ≡ defs_of tables
defs_changed n change [] h = refl
defs_changed zero change (t ∷ tables) h = ap (λ d. d ∷ defs_of tables) (h t)
defs_changed (suc n) change (t ∷ tables) h = ap (λ ds. t.def ∷ ds) (defs_changed n change tables h)

pub def_there : (tables : List Stored) (n : ℕ) (s : Stored) → slice_get tables n ≡ Some s → def_at (defs_of tables) n ≡ s.def
def_there [] n s e = absurd (none-some s e)
def_there (t ∷ tables) zero s e = ap (λ u. u.def) (same_Some t s e)
def_there (t ∷ tables) (suc n) s e = def_there tables n s e

pub seen_there : (scn : ℕ) (tables : List Stored) (n : ℕ) (s : Stored) → slice_get tables n ≡ Some s → table_at (base_seen scn tables) n ≡ seen scn s
seen_there scn [] n s e = absurd (none-some s e)
seen_there scn (t ∷ tables) zero s e = ap (λ u. seen scn u) (same_Some t s e)
seen_there scn (t ∷ tables) (suc n) s e = seen_there scn tables n s e

pub ruleset changed = (still_there, same_foreign)
