-- The refusals that the indexes tell are those of the definition, and the indexes are right again where there is none.
use Rattle.std.proofs.Common.{◌≡◌, ◌∙◌, sym, ap, subst, refl, arith, ℕ, zero, suc, ◌<◌, ◌≤◌, ◌==◌, Bool, true, false, cond, not, ◌&&◌, ◌||◌, List, [], ◌∷◌, length, map, Option, None, Some, true≢false, slice_get, unwrap_or}
use Rattle.std.proofs.lemmas.Option.{none-some, same_Some}
use Rattle.std.proofs.lemmas.Bool.{eqb-true, not-true}
use Rattle.std.proofs.lemmas.Bool.Decides.{nat_tests}
use Rattle.std.specs.List.{All, enumerate_from, filter, list_any}
use Rattle.std.specs.Prelude.{Err, Ok, Result}
use Rattle.wh_base.specs.Lists.{first_of, first_some, where_true, ◌>>=◌}
use Rattle.wh_base.specs.Tables.{Base, Table, column_name, def_at, table_at}
use Rattle.wh_base.specs.Values.{same_value}
use Rattle.wh_base.specs.declared.replies.Refusal.{Refusal}
use Rattle.wh_base.specs.declared.replies.Refusal.TheVariants.{ChildExists, DuplicateKey}
use Rattle.wh_base.specs.declared.tables.ForeignDef.{ForeignDef}
use Rattle.wh_base.specs.declared.tables.TableDef.{TableDef}
use Rattle.def_effect.specs.Block.{child_refusal, column_values, enabled, is_orphaned, key_refusal, parent_refusal}
use Rattle.wh_constraints.proofs.ChildrenTold.{any_enabled, child_told, first_tables}
use Rattle.wh_constraints.proofs.Fitted.{Setting, back_at, each_by, fits_at, held_at, pick_each, settled_at, stored_at}
use Rattle.wh_constraints.proofs.Indexed.{at_beside, at_in, changed_beside, changed_in, def_there, defs_changed, get_within, item_at, length_changed, length_indexes, seen_there}
use Rattle.wh_constraints.proofs.KeyTold.{ForeignFit, KeysFit, KeysTold, foreign_told, keys_clash, keys_told}
use Rattle.wh_constraints.proofs.ParentsTold.{first_parents, parent_told}
use Rattle.wh_constraints.specs.Constraints.{AreRight, RefersBack, TableFits, Tells, child_left, children_refusal, key_index, keys_refusal, left_refusal, missing_refusal, parent_lost, parent_missing, parents_refusal, told_refusal}
use Rattle.wh_dml.specs.Placed.{all_made}
use Rattle.wh_dml.specs.declared.changes.RowChange.{RowChange}
use Rattle.law_keys.proofs.Changed.{def_made}
use Rattle.law_keys.specs.Laws.{ForeignLaws, KeyLaws}
use Rattle.wh_keyindex.specs.Children.{Values}
use Rattle.wh_keys.specs.Indexes.{Indexes, Places}
use Rattle.wh_keys.specs.Made.{all_keys_changed, all_values_changed, foreign_at, foreign_made, indexes_at, keys_made, no_indexes, with_keys_of}
use Rattle.wh_table.proofs.Counting.{all_from}
use Rattle.wh_table.proofs.Ordered.{Each}
use Rattle.wh_table.specs.Kept.{defs_of, with_change}
use Rattle.wh_table.specs.Stored.{IsStored, Stored, base_seen, last_scn, seen}

-- ---- tests

same_number : (n : ℕ) → (n == n) ≡ true
same_number n = grind (arith, nat_tests)

differs : (n k : ℕ) → (n == k) ≡ false → n ≡ k → ⊥
differs n k f e = true≢false (sym (same_number n) ∙ ap (λ m. n == m) e ∙ f)

both_true : (r b x y : Bool) → (r ≡ true → b ≡ true → x ≡ y) → (r && (b && x)) ≡ (r && (b && y))
both_true true true x y h = h refl refl
both_true true false x y h = refl
both_true false b x y h = refl

none_true : {A : Type 0} (b : Bool) (x : A) → where_true b x ≡ None → b ≡ false
none_true true x e = absurd (none-some x (sym e))
none_true false x e = refl

-- ---- none of a list

none_here : {A : Type 0} (o : Option A) (os : List (Option A)) → first_some (o ∷ os) ≡ None → o ≡ None
none_here None os e = refl
none_here (Some x) os e = absurd (none-some x (sym e))

none_later : {A : Type 0} (o : Option A) (os : List (Option A)) → first_some (o ∷ os) ≡ None → first_some os ≡ None
none_later None os e = e
none_later (Some x) os e = absurd (none-some x (sym e))

none_at : {A C B : Type 0} (h : A → Option B) (g : C → A) (xs : List C) (k : ℕ) (x : C) → first_of h (map g xs) ≡ None → slice_get xs k ≡ Some x → h (g x) ≡ None
none_at h g [] k x e there = absurd (none-some x there)
none_at h g (y ∷ xs) zero x e there = ap (λ z. h (g z)) (sym (same_Some y x there)) ∙ none_here (h (g y)) (map h (map g xs)) e
none_at h g (y ∷ xs) (suc k) x e there = none_at h g xs k x (none_later (h (g y)) (map h (map g xs)) e) there

none_picked : {A B : Type 0} (h : A → Option B) (q : A → Bool) (xs : List A) (k : ℕ) (x : A) → first_of h (filter q xs) ≡ None → slice_get xs k ≡ Some x → q x ≡ true → h x ≡ None
none_picked h q [] k x e there picked = absurd (none-some x there)
none_picked h q (y ∷ xs) k x e there picked = by (q y) refl e k there (λ j e there. none_picked h q xs j x e there picked)
  where
    by : (b : Bool) → q y ≡ b → first_of h (cond b (y ∷ filter q xs) (filter q xs)) ≡ None → (k : ℕ) → slice_get (y ∷ xs) k ≡ Some x
        → ((j : ℕ) → first_of h (filter q xs) ≡ None → slice_get xs j ≡ Some x → h x ≡ None) → h x ≡ None
    by true f e zero there later = ap h (sym (same_Some y x there)) ∙ none_here (h y) (map h (filter q xs)) e
    by true f e (suc k) there later = later k (none_later (h y) (map h (filter q xs)) e) there
    by false f e zero there later = absurd (true≢false (sym (ap q (same_Some y x there) ∙ picked) ∙ f))
    by false f e (suc k) there later = later k e there

false_picked : {A : Type 0} (p q : A → Bool) (xs : List A) (k : ℕ) (x : A) → list_any p (filter q xs) ≡ false → slice_get xs k ≡ Some x → q x ≡ true → p x ≡ false
false_picked p q [] k x e there picked = absurd (none-some x there)
false_picked p q (y ∷ xs) k x e there picked = by (q y) refl e k there (λ j e there. false_picked p q xs j x e there picked)
  where
    or_here : (a b : Bool) → (a || b) ≡ false → a ≡ false
    or_here true b e = e
    or_here false b e = refl

    or_later : (a b : Bool) → (a || b) ≡ false → b ≡ false
    or_later true b e = absurd (true≢false e)
    or_later false b e = e

    by : (b : Bool) → q y ≡ b → list_any p (cond b (y ∷ filter q xs) (filter q xs)) ≡ false → (k : ℕ) → slice_get (y ∷ xs) k ≡ Some x
        → ((j : ℕ) → list_any p (filter q xs) ≡ false → slice_get xs j ≡ Some x → p x ≡ false) → p x ≡ false
    by true f e zero there later = ap p (sym (same_Some y x there)) ∙ or_here (p y) (list_any p (filter q xs)) e
    by true f e (suc k) there later = later k (or_later (p y) (list_any p (filter q xs)) e) there
    by false f e zero there later = absurd (true≢false (sym (ap q (same_Some y x there) ∙ picked) ∙ f))
    by false f e (suc k) there later = later k e there

-- ---- the definition, at the table that changes

abbrev refusal_of : Base → ℕ → Table → Option Refusal
refusal_of base n t = first_some (first_of (key_refusal t) t.def.keys ∷ first_of (parent_refusal base t) (enabled t.def) ∷ first_of (child_refusal base n) base ∷ [])

-- whether a value of the foreign key has no equal in this parent
abbrev has_orphan : Table → ForeignDef → Table → Bool
has_orphan t f p = list_any (λ v. not (list_any (same_value v) (column_values p f.to))) (column_values t f.column)

table_fits : (s : Stored) (d : TableDef) (i : Indexes) (ks : List Places) (vs : List Values) → s.def ≡ d → KeysFit s d.keys ks → ForeignFit s d.foreign vs → i.keys ≡ ks → i.foreign ≡ vs → TableFits s i
table_fits s d i ks vs def keys foreign ki fi = record {
  keys = ap length ki ∙ keys.count ∙ ap (λ e. length e.keys) (sym def);
  foreign = ap length fi ∙ foreign.count ∙ ap (λ e. length e.foreign) (sym def);
  key_fits = λ k column m there at. keys.fits k column m (ap (λ e. slice_get e.keys k) (sym def) ∙ there) (ap (λ ms. slice_get ms k) (sym ki) ∙ at);
  foreign_fits = λ k f m there at. foreign.fits k f m (ap (λ e. slice_get e.foreign k) (sym def) ∙ there) (ap (λ ms. slice_get ms k) (sym fi) ∙ at);
}

-- the tables with the changes made, and the base state that they are
abbrev tables_after : ℕ → List Stored → ℕ → List RowChange → List Stored
tables_after scn tables n cs = with_change n (all_made scn cs) tables

abbrev base_after : ℕ → List Stored → ℕ → List RowChange → Base
base_after scn tables n cs = base_seen scn (with_change n (all_made scn cs) tables)

-- all indexes after the changes, with these of the keys
abbrev all_changed : List Stored → ℕ → List RowChange → List Indexes → List Places → List Indexes
all_changed tables n cs all ms = foreign_made n (def_at (defs_of tables) n).foreign cs (with_keys_of n all ms)

each_of : {A : Type 0} (P : A → Type 0) (xs : List A) → ((k : ℕ) (x : A) → slice_get xs k ≡ Some x → P x) → Each P xs
each_of P [] h = tt
each_of P (x ∷ xs) h = (h 0 x refl, each_of P xs (λ k y e. h (suc k) y e))

module _ (scn : ℕ) (tables : List Stored) (all : List Indexes) (n : ℕ) (s : Stored) (cs : List RowChange) (h : Setting scn tables all n s cs) where
  -- a table of those after the changes is the changed one, or one of those before
  same_one : (k : ℕ) (u : Stored) → slice_get (tables_after scn tables n cs) k ≡ Some u → n ≡ k → u ≡ all_made scn cs s
  same_one k u at e =
      same_Some u (all_made scn cs s) (sym at ∙ ap (slice_get (tables_after scn tables n cs)) (sym e) ∙ changed_in n (all_made scn cs) tables s h.there)

  other_one : (k : ℕ) (u : Stored) → slice_get (tables_after scn tables n cs) k ≡ Some u → (n ≡ k → ⊥) → slice_get tables k ≡ Some u
  other_one k u at apart = sym (changed_beside n k (all_made scn cs) tables apart) ∙ at

  defs_after : defs_of (tables_after scn tables n cs) ≡ defs_of tables
  defs_after = defs_changed n (all_made scn cs) tables (λ t. def_made scn t cs)

  seen_after : table_at (base_after scn tables n cs) n ≡ seen scn (all_made scn cs s)
  seen_after = seen_there scn (tables_after scn tables n cs) n (all_made scn cs s) (changed_in n (all_made scn cs) tables s h.there)

  same_def : (all_made scn cs s).def ≡ def_at (defs_of tables) n
  same_def = def_made scn s cs ∙ sym (def_there tables n s h.there)

  defined : keys_refusal scn tables n cs ≡ refusal_of (base_after scn tables n cs) n (seen scn (all_made scn cs s))
  defined = ap (refusal_of (base_after scn tables n cs) n) seen_after

  -- each foreign key of a table after the changes refers to an earlier table
  pub back_after : (k : ℕ) (u : Stored) (i : ℕ) (f : ForeignDef) → slice_get (tables_after scn tables n cs) k ≡ Some u → slice_get u.def.foreign i ≡ Some f → RefersBack (defs_of tables) k f
  back_after k u i f at there = by (n == k) refl
    where
      by : (b : Bool) → (n == k) ≡ b → RefersBack (defs_of tables) k f
      by true e =
          let same = eqb-true n k e in
          back_at scn tables all n s cs h k s i f (ap (slice_get tables) (sym same) ∙ h.there)
          (ap (λ d. slice_get d.foreign i) (sym (ap (λ t. t.def) (same_one k u at same) ∙ def_made scn s cs)) ∙ there)
      by false e = back_at scn tables all n s cs h k u i f (other_one k u at (differs n k e)) there

  keys_fit : KeysFit s s.def.keys (indexes_at all n).keys
  keys_fit = let t = fits_at scn tables all n s cs h n s h.there in record { count = t.keys; fits = λ k c m e f. t.key_fits k c m e f }

  foreign_fit : ForeignFit s s.def.foreign (indexes_at all n).foreign
  foreign_fit = let t = fits_at scn tables all n s cs h n s h.there in record { count = t.foreign; fits = λ k f m e g. t.foreign_fits k f m e g }

  within : n < length all
  within = let m = get_within tables n s h.there in omega (arith, m, h.right.indexed.count)

  module _ (keys : KeyLaws) (laws : ForeignLaws) (stored : IsStored s) (settled : last_scn s.versions ≤ scn) where
    clashes : (column : ℕ) → all_keys_changed s.def.keys cs (indexes_at all n).keys ≡ Err column → keys_refusal scn tables n cs ≡ told_refusal (defs_of tables) n cs (Err column)
    clashes column e =
        defined
        ∙ ap (λ d. first_some (first_of (key_refusal (seen scn (all_made scn cs s))) d.keys ∷ first_of (parent_refusal (base_after scn tables n cs) (seen scn (all_made scn cs s))) (enabled (all_made scn cs s).def)
        ∷ first_of (child_refusal (base_after scn tables n cs) n) (base_after scn tables n cs) ∷ [])) (def_made scn s cs)
        ∙ ap (λ o. first_some (o ∷ first_of (parent_refusal (base_after scn tables n cs) (seen scn (all_made scn cs s))) (enabled (all_made scn cs s).def)
        ∷ first_of (child_refusal (base_after scn tables n cs) n) (base_after scn tables n cs) ∷ []))
        (keys_clash keys scn s cs stored settled h.placed s.def.keys (indexes_at all n).keys column keys_fit e)
        ∙ ap (λ d. Some (DuplicateKey d.name (column_name d column))) (sym (def_there tables n s h.there))

    module _ (ms : List Places) (made : all_keys_changed s.def.keys cs (indexes_at all n).keys ≡ Ok ms) where
      told : KeysTold keys scn s cs stored settled h.placed s.def.keys ms
      told = keys_told keys scn s cs stored settled h.placed s.def.keys (indexes_at all n).keys ms keys_fit made

      beside : (m : ℕ) → (n ≡ m → ⊥) → indexes_at (with_keys_of n all ms) m ≡ indexes_at all m
      beside m apart = at_beside n m (record { keys = ms; foreign = (indexes_at all n).foreign }) all apart

      here : indexes_at (with_keys_of n all ms) n ≡ record { keys = ms; foreign = (indexes_at all n).foreign }
      here = at_in n (record { keys = ms; foreign = (indexes_at all n).foreign }) all within

      beside_both : (m : ℕ) → (n ≡ m → ⊥) → indexes_at (all_changed tables n cs all ms) m ≡ indexes_at all m
      beside_both m apart =
          at_beside n m (record { keys = (indexes_at (with_keys_of n all ms) n).keys; foreign = all_values_changed (def_at (defs_of tables) n).foreign cs (indexes_at (with_keys_of n all ms) n).foreign })
          (with_keys_of n all ms) apart
          ∙ beside m apart

      here_both : indexes_at (all_changed tables n cs all ms) n
          ≡ record { keys = (indexes_at (with_keys_of n all ms) n).keys; foreign = all_values_changed (def_at (defs_of tables) n).foreign cs (indexes_at (with_keys_of n all ms) n).foreign }
      here_both =
          let as_long = length_indexes n (record { keys = ms; foreign = (indexes_at all n).foreign }) all in
          at_in n (record { keys = (indexes_at (with_keys_of n all ms) n).keys; foreign = all_values_changed (def_at (defs_of tables) n).foreign cs (indexes_at (with_keys_of n all ms) n).foreign })
          (with_keys_of n all ms) (omega (arith, within, as_long))

      fits_again : TableFits (all_made scn cs s) (indexes_at (all_changed tables n cs all ms) n)
      fits_again =
          table_fits (all_made scn cs s) s.def (indexes_at (all_changed tables n cs all ms) n) ms (all_values_changed s.def.foreign cs (indexes_at all n).foreign)
          (def_made scn s cs) told.fit (foreign_told laws scn s cs h.placed s.def.foreign (indexes_at all n).foreign foreign_fit)
          (ap (λ i. i.keys) here_both ∙ ap (λ i. i.keys) here)
          (ap (λ i. i.foreign) here_both
          ∙ ap (λ i. all_values_changed (def_at (defs_of tables) n).foreign cs i.foreign) here
          ∙ ap (λ d. all_values_changed d.foreign cs (indexes_at all n).foreign) (def_there tables n s h.there))

      parents_are : first_of (parent_refusal (base_after scn tables n cs) (seen scn (all_made scn cs s))) (enabled (all_made scn cs s).def) ≡ parents_refusal (defs_of tables) (with_keys_of n all ms) n cs
      parents_are =
          first_parents (is_orphaned (base_after scn tables n cs) (seen scn (all_made scn cs s))) (parent_missing (defs_of tables) (with_keys_of n all ms) cs) (all_made scn cs s).def (all_made scn cs s).def.foreign
          (λ k f e enforced. parent_told laws scn tables all n s cs h (with_keys_of n all ms) beside k f (ap (λ d. slice_get d.foreign k) (sym (def_made scn s cs)) ∙ e) enforced)
          ∙ ap (λ d. first_of (missing_refusal (defs_of tables) (with_keys_of n all ms) cs d) d.foreign) same_def

      orphan_told : (k : ℕ) (u : Stored) (i : ℕ) (f : ForeignDef) → slice_get (tables_after scn tables n cs) k ≡ Some u → slice_get u.def.foreign i ≡ Some f → f.rely ≡ false → f.table ≡ n
          → is_orphaned (base_after scn tables n cs) (seen scn u) f
          ≡ parent_lost (key_index (defs_of tables) (all_changed tables n cs all ms) n f.to) (foreign_at (indexes_at (all_changed tables n cs all ms) k).foreign i) cs f
      orphan_told k u i f at there enforced to = by (n == k) refl
        where
          by : (b : Bool) → (n == k) ≡ b → is_orphaned (base_after scn tables n cs) (seen scn u) f
              ≡ parent_lost (key_index (defs_of tables) (all_changed tables n cs all ms) n f.to) (foreign_at (indexes_at (all_changed tables n cs all ms) k).foreign i) cs f
          by true e = let same = eqb-true n k e in let back = back_after k u i f at there in absurd (omega (arith, same, to, back.0))
          by false e =
              let apart = differs n k e in
              child_told laws scn tables all n s cs h (all_changed tables n cs all ms) beside_both fits_again k u i f (other_one k u at apart) apart there enforced to

      table_told : (k : ℕ) (u : Stored) → slice_get (tables_after scn tables n cs) k ≡ Some u
          → child_refusal (base_after scn tables n cs) n (seen scn u) ≡ left_refusal (defs_of tables) (all_changed tables n cs all ms) n cs (k, u.def)
      table_told k u at =
          ap (λ b. where_true b (ChildExists (table_at (base_after scn tables n cs) n).def.name u.def.name))
          (any_enabled (λ f. (f.table == n) && is_orphaned (base_after scn tables n cs) (seen scn u) f) (child_left (defs_of tables) (all_changed tables n cs all ms) n cs k) 0 u.def.foreign
          (λ i f j e is.
          (let same : i ≡ j = omega (arith, is) in
          both_true (not f.rely) (f.table == n) (is_orphaned (base_after scn tables n cs) (seen scn u) f)
          (parent_lost (key_index (defs_of tables) (all_changed tables n cs all ms) n f.to) (foreign_at (indexes_at (all_changed tables n cs all ms) k).foreign i) cs f)
          (λ r b. orphan_told k u i f at e (not-true f.rely r) (eqb-true f.table n b))
          ∙ ap (λ m. child_left (defs_of tables) (all_changed tables n cs all ms) n cs k (m, f)) same)))
          ∙ ap (λ name. where_true (list_any (child_left (defs_of tables) (all_changed tables n cs all ms) n cs k) (enumerate_from 0 u.def.foreign)) (ChildExists name u.def.name))
          (ap (λ t. t.def.name) seen_after ∙ ap (λ d. d.name) same_def)

      children_are : first_of (child_refusal (base_after scn tables n cs) n) (base_after scn tables n cs) ≡ children_refusal (defs_of tables) (all_changed tables n cs all ms) n cs
      children_are =
          first_tables scn (child_refusal (base_after scn tables n cs) n) (left_refusal (defs_of tables) (all_changed tables n cs all ms) n cs) 0 (tables_after scn tables n cs)
          (λ k u j e is. (let same : k ≡ j = omega (arith, is) in table_told k u e ∙ ap (λ m. left_refusal (defs_of tables) (all_changed tables n cs all ms) n cs (m, u.def)) same))
          ∙ ap (λ ds. first_of (left_refusal (defs_of tables) (all_changed tables n cs all ms) n cs) (enumerate_from 0 ds)) defs_after

      answers : keys_refusal scn tables n cs ≡ told_refusal (defs_of tables) n cs (Ok (with_keys_of n all ms))
      answers =
          defined
          ∙ ap (λ o. first_some (o ∷ first_of (parent_refusal (base_after scn tables n cs) (seen scn (all_made scn cs s))) (enabled (all_made scn cs s).def)
          ∷ first_of (child_refusal (base_after scn tables n cs) n) (base_after scn tables n cs) ∷ []))
          (ap (λ d. first_of (key_refusal (seen scn (all_made scn cs s))) d.keys) (def_made scn s cs) ∙ told.none)
          ∙ ap (λ o. first_some (o ∷ first_of (child_refusal (base_after scn tables n cs) n) (base_after scn tables n cs) ∷ [])) parents_are
          ∙ ap (λ o. first_some (parents_refusal (defs_of tables) (with_keys_of n all ms) n cs ∷ o ∷ [])) children_are

      -- ---- where nothing is refused

      fit_after : (k : ℕ) (u : Stored) → slice_get (tables_after scn tables n cs) k ≡ Some u → TableFits u (indexes_at (all_changed tables n cs all ms) k)
      fit_after k u at = by (n == k) refl
        where
          by : (b : Bool) → (n == k) ≡ b → TableFits u (indexes_at (all_changed tables n cs all ms) k)
          by true e =
              let same = eqb-true n k e in
              subst (λ j. TableFits u (indexes_at (all_changed tables n cs all ms) j)) same
              (subst (λ v. TableFits v (indexes_at (all_changed tables n cs all ms) n)) (sym (same_one k u at same)) fits_again)
          by false e = let apart = differs n k e in subst (TableFits u) (sym (beside_both k apart)) (fits_at scn tables all n s cs h k u (other_one k u at apart))

      module _ (none : keys_refusal scn tables n cs ≡ None) where
        no_parents : first_of (parent_refusal (base_after scn tables n cs) (seen scn (all_made scn cs s))) (enabled (all_made scn cs s).def) ≡ None
        no_parents =
            none_here (first_of (parent_refusal (base_after scn tables n cs) (seen scn (all_made scn cs s))) (enabled (all_made scn cs s).def))
            (first_of (child_refusal (base_after scn tables n cs) n) (base_after scn tables n cs) ∷ [])
            (none_later (first_of (key_refusal (seen scn (all_made scn cs s))) (all_made scn cs s).def.keys)
            (first_of (parent_refusal (base_after scn tables n cs) (seen scn (all_made scn cs s))) (enabled (all_made scn cs s).def)
            ∷ first_of (child_refusal (base_after scn tables n cs) n) (base_after scn tables n cs) ∷ [])
            (sym defined ∙ none))

        no_children : first_of (child_refusal (base_after scn tables n cs) n) (base_after scn tables n cs) ≡ None
        no_children =
            none_here (first_of (child_refusal (base_after scn tables n cs) n) (base_after scn tables n cs)) []
            (none_later (first_of (parent_refusal (base_after scn tables n cs) (seen scn (all_made scn cs s))) (enabled (all_made scn cs s).def))
            (first_of (child_refusal (base_after scn tables n cs) n) (base_after scn tables n cs) ∷ [])
            (none_later (first_of (key_refusal (seen scn (all_made scn cs s))) (all_made scn cs s).def.keys)
            (first_of (parent_refusal (base_after scn tables n cs) (seen scn (all_made scn cs s))) (enabled (all_made scn cs s).def)
            ∷ first_of (child_refusal (base_after scn tables n cs) n) (base_after scn tables n cs) ∷ [])
            (sym defined ∙ none)))

        own_held : (i : ℕ) (f : ForeignDef) → slice_get (all_made scn cs s).def.foreign i ≡ Some f → f.rely ≡ false → is_orphaned (base_after scn tables n cs) (seen scn (all_made scn cs s)) f ≡ false
        own_held i f there enforced =
            none_true (is_orphaned (base_after scn tables n cs) (seen scn (all_made scn cs s)) f) _
            (none_picked (parent_refusal (base_after scn tables n cs) (seen scn (all_made scn cs s))) (λ g. not g.rely) (all_made scn cs s).def.foreign i f no_parents there (ap not enforced))

        child_held : (k : ℕ) (u : Stored) (i : ℕ) (f : ForeignDef) → slice_get (tables_after scn tables n cs) k ≡ Some u → slice_get u.def.foreign i ≡ Some f → f.rely ≡ false → (f.table == n) ≡ true
            → is_orphaned (base_after scn tables n cs) (seen scn u) f ≡ false
        child_held k u i f at there enforced to =
            ap (λ b. b && is_orphaned (base_after scn tables n cs) (seen scn u) f) (sym to)
            ∙ false_picked (λ g. (g.table == n) && is_orphaned (base_after scn tables n cs) (seen scn u) g) (λ g. not g.rely) u.def.foreign i f
            (none_true (list_any (λ g. (g.table == n) && is_orphaned (base_after scn tables n cs) (seen scn u) g) (enabled u.def)) _
            (none_at (child_refusal (base_after scn tables n cs) n) (seen scn) (tables_after scn tables n cs) k u no_children at))
            there (ap not enforced)

        other_held : (k : ℕ) (u : Stored) (i : ℕ) (f : ForeignDef) → slice_get tables k ≡ Some u → slice_get u.def.foreign i ≡ Some f → f.rely ≡ false → (n ≡ f.table → ⊥)
            → is_orphaned (base_after scn tables n cs) (seen scn u) f ≡ false
        other_held k u i f at there enforced apart =
            let back = back_at scn tables all n s cs h k u i f at there in
            let few = get_within tables k u at in
            let p = item_at tables f.table (omega (arith, back.0, few)) in
            ap (has_orphan (seen scn u) f)
            (seen_there scn (tables_after scn tables n cs) f.table p.item (changed_beside n f.table (all_made scn cs) tables apart ∙ p.is) ∙ sym (seen_there scn tables f.table p.item p.is))
            ∙ held_at scn tables all n s cs h k u i f at there enforced

        held : (k : ℕ) (u : Stored) (i : ℕ) (f : ForeignDef) → slice_get (tables_after scn tables n cs) k ≡ Some u → slice_get u.def.foreign i ≡ Some f → f.rely ≡ false
            → is_orphaned (base_after scn tables n cs) (seen scn u) f ≡ false
        held k u i f at there enforced = by (n == k) refl (f.table == n) refl
          where
            by : (b : Bool) → (n == k) ≡ b → (c : Bool) → (f.table == n) ≡ c → is_orphaned (base_after scn tables n cs) (seen scn u) f ≡ false
            by true e c g =
                let same = same_one k u at (eqb-true n k e) in
                ap (λ t. is_orphaned (base_after scn tables n cs) (seen scn t) f) same ∙ own_held i f (ap (λ t. slice_get t.def.foreign i) (sym same) ∙ there) enforced
            by false e true g = child_held k u i f at there enforced g
            by false e false g = other_held k u i f (other_one k u at (differs n k e)) there enforced (λ same. differs f.table n g (sym same))

        right_after : AreRight scn (tables_after scn tables n cs) (all_changed tables n cs all ms)
        right_after = record {
          indexed = record {
            count =
                length_indexes n (record { keys = (indexes_at (with_keys_of n all ms) n).keys; foreign = all_values_changed (def_at (defs_of tables) n).foreign cs (indexes_at (with_keys_of n all ms) n).foreign })
                (with_keys_of n all ms)
                ∙ length_indexes n (record { keys = ms; foreign = (indexes_at all n).foreign }) all
                ∙ h.right.indexed.count
                ∙ sym (length_changed n (all_made scn cs) tables);
            fits = λ k u i at is. subst (TableFits u) (ap (λ o. unwrap_or o no_indexes) is) (fit_after k u at);
          };
          parents = all_from (λ t. All (λ g. is_orphaned (base_after scn tables n cs) t g ≡ false) (enabled t.def)) (base_after scn tables n cs)
              (each_by (λ t. All (λ g. is_orphaned (base_after scn tables n cs) t g ≡ false) (enabled t.def)) (seen scn) (tables_after scn tables n cs)
              (λ k u at. all_from (λ g. is_orphaned (base_after scn tables n cs) (seen scn u) g ≡ false) (enabled u.def)
              (pick_each (λ g. is_orphaned (base_after scn tables n cs) (seen scn u) g ≡ false) (λ g. not g.rely) u.def.foreign
              (λ i f there picked. held k u i f at there (not-true f.rely picked)))));
          earlier = λ k u at. all_from (RefersBack (defs_of (tables_after scn tables n cs)) k) u.def.foreign
              (each_of (RefersBack (defs_of (tables_after scn tables n cs)) k) u.def.foreign
              (λ i f there. subst (λ ds. RefersBack ds k f) (sym defs_after) (back_after k u i f at there)));
        }

-- ---- the whole

-- The refusal is that of the definition, and the indexes are right where there is none.
pub record Answered (scn : ℕ) (tables : List Stored) (n : ℕ) (cs : List RowChange) (code : Option Refusal) (now : List Indexes) : Type 0 where
  pub refusal : code ≡ keys_refusal scn tables n cs
  pub right : code ≡ None → AreRight scn (with_change n (all_made scn cs) tables) now

pub answered : (keys : KeyLaws) (laws : ForeignLaws) (scn : ℕ) (tables : List Stored) (all : List Indexes) (n : ℕ) (s : Stored) (cs : List RowChange) (h : Setting scn tables all n s cs)
    → (code : Option Refusal) (now : List Indexes) → Tells (defs_of tables) n cs (keys_made n (def_at (defs_of tables) n).keys cs all) code now → Answered scn tables n cs code now
answered keys laws scn tables all n s cs h code now told =
    by (all_keys_changed s.def.keys cs (indexes_at all n).keys) refl (subst (λ d. Tells (defs_of tables) n cs (keys_made n d.keys cs all) code now) (def_there tables n s h.there) told)
  where
    stored : IsStored s
    stored = stored_at scn tables all n s cs h n s h.there

    settled : last_scn s.versions ≤ scn
    settled = settled_at scn tables all n s cs h n s h.there

    by : (r : Result (List Places) ℕ) → all_keys_changed s.def.keys cs (indexes_at all n).keys ≡ r → Tells (defs_of tables) n cs (r >>= (λ ms. Ok (with_keys_of n all ms))) code now → Answered scn tables n cs code now
    by (Err column) e t = record {
      refusal = t.told ∙ sym (clashes scn tables all n s cs h keys laws stored settled column e);
      right = λ none. absurd (t.left none);
    }
    by (Ok ms) e t =
        let code_is = t.told ∙ sym (answers scn tables all n s cs h keys laws stored settled ms e) in
        record {
          refusal = code_is;
          right = λ none.
              subst (AreRight scn (tables_after scn tables n cs)) (sym (t.left none))
              (right_after scn tables all n s cs h keys laws stored settled ms e (sym code_is ∙ none));
        }
