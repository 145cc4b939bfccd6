-- The indexes of a table's keys and foreign keys after changes, and what the former tell.
use Rattle.std.proofs.Common.{◌≡◌, ◌∙◌, sym, ap, subst, refl, arith, ℕ, zero, suc, ◌≤◌, List, [], ◌∷◌, length, map, Option, None, Some, slice_get}
use Rattle.std.proofs.lemmas.Option.{none-some, same_Some}
use Rattle.std.specs.Prelude.{Err, Ok, Result}
use Rattle.wh_base.specs.Lists.{first_of, first_some}
use Rattle.wh_base.specs.Tables.{column_name}
use Rattle.wh_base.specs.declared.replies.Refusal.TheVariants.{DuplicateKey}
use Rattle.wh_base.specs.declared.tables.ForeignDef.{ForeignDef}
use Rattle.def_effect.specs.Block.{key_refusal}
use Rattle.wh_dml.specs.Placed.{ArePlaced, all_made}
use Rattle.wh_dml.specs.declared.changes.RowChange.{RowChange}
use Rattle.law_keys.specs.Fitting.{KeyFits, ValuesFit}
use Rattle.law_keys.specs.Laws.{ForeignLaws, KeyLaws}
use Rattle.wh_keyindex.specs.Children.{Values}
use Rattle.wh_keys.specs.Indexes.{Places, keys_changed, values_changed}
use Rattle.wh_keys.specs.Made.{all_keys_changed, all_values_changed, also_changed}
use Rattle.wh_table.specs.Stored.{IsStored, Stored, last_scn, seen}

-- ---- the first of a list

pub first_here : {A B : Type 0} (h : A → Option B) (x : A) (xs : List A) (y : B) → h x ≡ Some y → first_of h (x ∷ xs) ≡ Some y
first_here h x xs y e = ap (λ o. first_some (o ∷ map h xs)) e

pub first_later : {A B : Type 0} (h : A → Option B) (x : A) (xs : List A) → h x ≡ None → first_of h (x ∷ xs) ≡ first_of h xs
first_later h x xs e = ap (λ o. first_some (o ∷ map h xs)) e

-- ---- keys

-- each key of these columns has its index
pub record KeysFit (s : Stored) (columns : List ℕ) (ms : List Places) : Type 0 where
  pub count : length ms ≡ length columns
  pub fits : (k column : ℕ) (m : Places) → slice_get columns k ≡ Some column → slice_get ms k ≡ Some m → KeyFits s column m

first_fits : (s : Stored) (column : ℕ) (columns : List ℕ) (m : Places) (ms : List Places) → KeysFit s (column ∷ columns) (m ∷ ms) → KeyFits s column m
first_fits s column columns m ms h = h.fits 0 column m refl refl

rest_fit : (s : Stored) (column : ℕ) (columns : List ℕ) (m : Places) (ms : List Places) → KeysFit s (column ∷ columns) (m ∷ ms) → KeysFit s columns ms
rest_fit s column columns m ms h = record { count = omega (arith, h.count); fits = λ k c n e f. h.fits (suc k) c n e f }

more_fit : (s : Stored) (column : ℕ) (columns : List ℕ) (m : Places) (ms : List Places) → KeyFits s column m → KeysFit s columns ms → KeysFit s (column ∷ columns) (m ∷ ms)
more_fit s column columns m ms one h = record { count = ap suc h.count; fits = at }
  where
    at : (k c : ℕ) (n : Places) → slice_get (column ∷ columns) k ≡ Some c → slice_get (m ∷ ms) k ≡ Some n → KeyFits s c n
    at zero c n e f = subst (λ d. KeyFits s d n) (same_Some column c e) (subst (λ p. KeyFits s column p) (same_Some m n f) one)
    at (suc k) c n e f = h.fits k c n e f

-- what there is of a result
abbrev Made : Type 0
Made = Result (List Places) ℕ

abbrev okay : List Places → Made
okay ms = Ok ms

abbrev refused : ℕ → Made
refused column = Err column

ok_same : (ms ns : List Places) → okay ms ≡ okay ns → ms ≡ ns
ok_same ms ns e = cc

err_same : (c d : ℕ) → refused c ≡ refused d → c ≡ d
err_same c d e = cc

not_both : (c : ℕ) (ms : List Places) → refused c ≡ okay ms → ⊥
not_both c ms e = cc

module _ (laws : KeyLaws) (scn : ℕ) (s : Stored) (cs : List RowChange) (stored : IsStored s) (settled : last_scn s.versions ≤ scn) (placed : ArePlaced scn s cs) where
  pub keys_clash : (columns : List ℕ) (ms : List Places) (clash : ℕ) → KeysFit s columns ms → all_keys_changed columns cs ms ≡ refused clash
      → first_of (key_refusal (seen scn (all_made scn cs s))) columns ≡ Some (DuplicateKey s.def.name (column_name s.def clash))
  keys_clash [] ms clash h e = absurd (not_both clash [] (sym e))
  keys_clash (column ∷ columns) [] clash h e = absurd (omega (arith, h.count))
  keys_clash (column ∷ columns) (m ∷ ms) clash h e =
      by (keys_changed column cs m) refl (all_keys_changed columns cs ms) refl e (keys_clash columns ms clash (rest_fit s column columns m ms h))
    where
      fit : KeyFits s column m
      fit = first_fits s column columns m ms h

      by : (o : Option Places) → keys_changed column cs m ≡ o → (more : Made) → all_keys_changed columns cs ms ≡ more → also_changed column o more ≡ refused clash
          → (all_keys_changed columns cs ms ≡ refused clash → first_of (key_refusal (seen scn (all_made scn cs s))) columns ≡ Some (DuplicateKey s.def.name (column_name s.def clash)))
          → first_of (key_refusal (seen scn (all_made scn cs s))) (column ∷ columns) ≡ Some (DuplicateKey s.def.name (column_name s.def clash))
      by None is more f k later =
          first_here (key_refusal (seen scn (all_made scn cs s))) column columns (DuplicateKey s.def.name (column_name s.def clash))
          (laws.clash scn s column cs m stored settled placed fit is ∙ ap (λ c. Some (DuplicateKey s.def.name (column_name s.def c))) (err_same column clash k))
      by (Some n) is (Err other) f k later =
          first_later (key_refusal (seen scn (all_made scn cs s))) column columns (laws.unique scn s column cs m n stored settled placed fit is)
          ∙ later (f ∙ k)
      by (Some n) is (Ok ns) f k later = absurd (not_both clash (n ∷ ns) (sym k))

  -- no two rows have one key, and each key has its index again
  pub record KeysTold (columns : List ℕ) (ns : List Places) : Type 0 where
    pub none : first_of (key_refusal (seen scn (all_made scn cs s))) columns ≡ None
    pub fit : KeysFit (all_made scn cs s) columns ns

  pub keys_told : (columns : List ℕ) (ms ns : List Places) → KeysFit s columns ms → all_keys_changed columns cs ms ≡ okay ns → KeysTold columns ns
  keys_told [] ms ns h e = record { none = refl; fit = record { count = ap length (sym (ok_same [] ns e)); fits = λ k c n f g. absurd (none-some c f) } }
  keys_told (column ∷ columns) [] ns h e = absurd (omega (arith, h.count))
  keys_told (column ∷ columns) (m ∷ ms) ns h e =
      by (keys_changed column cs m) refl (all_keys_changed columns cs ms) refl e (λ rest f. keys_told columns ms rest (rest_fit s column columns m ms h) f)
    where
      old : KeyFits s column m
      old = first_fits s column columns m ms h

      by : (o : Option Places) → keys_changed column cs m ≡ o → (more : Made) → all_keys_changed columns cs ms ≡ more → also_changed column o more ≡ okay ns
          → ((rest : List Places) → all_keys_changed columns cs ms ≡ okay rest → KeysTold columns rest) → KeysTold (column ∷ columns) ns
      by None is more f k told = absurd (not_both column ns k)
      by (Some n) is (Err other) f k told = absurd (not_both other ns k)
      by (Some n) is (Ok rest) f k told =
          let later = told rest f in
          record {
            none = first_later (key_refusal (seen scn (all_made scn cs s))) column columns (laws.unique scn s column cs m n stored settled placed old is) ∙ later.none;
            fit = subst (KeysFit (all_made scn cs s) (column ∷ columns)) (ok_same (n ∷ rest) ns k)
                (more_fit (all_made scn cs s) column columns n rest (laws.fits scn s column cs m n stored settled placed old is) later.fit);
          }

-- ---- foreign keys

-- each foreign key has its index
pub record ForeignFit (s : Stored) (fs : List ForeignDef) (ms : List Values) : Type 0 where
  pub count : length ms ≡ length fs
  pub fits : (k : ℕ) (f : ForeignDef) (m : Values) → slice_get fs k ≡ Some f → slice_get ms k ≡ Some m → ValuesFit s f.column m

pub foreign_told : (laws : ForeignLaws) (scn : ℕ) (s : Stored) (cs : List RowChange) → ArePlaced scn s cs → (fs : List ForeignDef) (ms : List Values) → ForeignFit s fs ms
    → ForeignFit (all_made scn cs s) fs (all_values_changed fs cs ms)
foreign_told laws scn s cs placed [] [] h = record { count = refl; fits = λ k f m e g. absurd (none-some f e) }
foreign_told laws scn s cs placed [] (m ∷ ms) h = absurd (omega (arith, h.count))
foreign_told laws scn s cs placed (f ∷ fs) [] h = absurd (omega (arith, h.count))
foreign_told laws scn s cs placed (f ∷ fs) (m ∷ ms) h =
    let later = foreign_told laws scn s cs placed fs ms (record { count = omega (arith, h.count); fits = λ k g n e i. h.fits (suc k) g n e i }) in
    record { count = ap suc later.count; fits = at later.fits }
  where
    one : ValuesFit (all_made scn cs s) f.column (values_changed f.column cs m)
    one = laws.fits scn s f.column cs m placed (h.fits 0 f m refl refl)

    at : ((k : ℕ) (g : ForeignDef) (n : Values) → slice_get fs k ≡ Some g → slice_get (all_values_changed fs cs ms) k ≡ Some n → ValuesFit (all_made scn cs s) g.column n)
        → (k : ℕ) (g : ForeignDef) (n : Values) → slice_get (f ∷ fs) k ≡ Some g → slice_get (all_values_changed (f ∷ fs) cs (m ∷ ms)) k ≡ Some n → ValuesFit (all_made scn cs s) g.column n
    at later zero g n e i =
        subst (λ d. ValuesFit (all_made scn cs s) d.column n) (same_Some f g e)
        (subst (λ v. ValuesFit (all_made scn cs s) f.column v) (same_Some (values_changed f.column cs m) n i) one)
    at later (suc k) g n e i = later k g n e i
