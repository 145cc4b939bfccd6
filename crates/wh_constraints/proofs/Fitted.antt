-- What holds of tables with their indexes, for each table and each of its keys and foreign keys.
use Rattle.std.proofs.Common.{◌≡◌, ◌∙◌, sym, ap, subst, refl, arith, ℕ, zero, suc, ◌+◌, ◌<◌, ◌≤◌, ◌==◌, Bool, true, false, cond, not, ◌||◌, List, [], ◌∷◌, length, map, None, Some, lt-ltb, true≢false, slice_get, unwrap_or}
use Rattle.std.proofs.lemmas.Option.{none-some, same_Some}
use Rattle.std.proofs.lemmas.Bool.{eqb-true}
use Rattle.std.specs.FinMap as fin
use Rattle.std.specs.List.{All, filter, position, position_or_len}
use Rattle.wh_base.specs.Lists.{has_number, option_case}
use Rattle.wh_base.specs.Tables.{def_at, is_key}
use Rattle.wh_base.specs.declared.tables.ForeignDef.{ForeignDef}
use Rattle.wh_base.specs.declared.tables.TableDef.{TableDef}
use Rattle.def_effect.specs.Block.{enabled, is_orphaned}
use Rattle.wh_constraints.proofs.Indexed.{get_within, item_at}
use Rattle.wh_constraints.specs.Constraints.{AreIndexed, AreRight, RefersBack, TableFits, key_index, key_number}
use Rattle.wh_dml.specs.Placed.{ArePlaced}
use Rattle.wh_dml.specs.declared.changes.RowChange.{RowChange}
use Rattle.law_keys.specs.Fitting.{KeyFits, ValuesFit}
use Rattle.wh_keys.specs.Indexes.{Indexes}
use Rattle.wh_keys.specs.Made.{foreign_at, indexes_at, key_at, no_indexes}
use Rattle.wh_table.proofs.Counting.{each_from, each_get}
use Rattle.wh_table.proofs.Ordered.{Each}
use Rattle.wh_table.specs.Kept.{defs_of}
use Rattle.wh_table.specs.Stored.{IsStored, Stored, base_seen, last_scn, seen}

-- ---- a key among others

pub record KeyPlace (column : ℕ) (ks : List ℕ) : Type 0 where
  pub number : ℕ
  pub is : position (λ k. k == column) ks ≡ Some number
  pub there : slice_get ks number ≡ Some column

-- the place of the first one is within the list, and it stands there
record Standing (column : ℕ) (ks : List ℕ) : Type 0 where
  within : position_or_len (λ k. k == column) ks < length ks
  stands : slice_get ks (position_or_len (λ k. k == column) ks) ≡ Some column

standing : (column : ℕ) (ks : List ℕ) → has_number ks column ≡ true → Standing column ks
standing column [] h = absurd (true≢false (sym h))
standing column (k ∷ ks) h = by (k == column) refl h (standing column ks)
  where
    next : ℕ
    next = position_or_len (λ k. k == column) ks

    by : (b : Bool) → (k == column) ≡ b → (b || has_number ks column) ≡ true → (has_number ks column ≡ true → Standing column ks) → Standing column (k ∷ ks)
    by true e g later =
        let here : position_or_len (λ k. k == column) (k ∷ ks) ≡ 0 = ap (λ b. cond (not b) (1 + next) 0) e in
        record { within = omega (arith, here); stands = ap (slice_get (k ∷ ks)) here ∙ ap (λ n. Some n) (eqb-true k column e) }
    by false e g later =
        let rest = later g in
        let here : position_or_len (λ k. k == column) (k ∷ ks) ≡ suc next = ap (λ b. cond (not b) (1 + next) 0) e ∙ omega arith in
        record { within = omega (arith, here, rest.within); stands = ap (slice_get (k ∷ ks)) here ∙ rest.stands }

pub key_place : (column : ℕ) (ks : List ℕ) → has_number ks column ≡ true → KeyPlace column ks
key_place column ks h =
    let s = standing column ks h in
    record {
      number = position_or_len (λ k. k == column) ks;
      is = ap (λ b. cond b (Some (position_or_len (λ k. k == column) ks)) None) (lt-ltb (position_or_len (λ k. k == column) ks) (length ks) s.within);
      there = s.stands;
    }

-- ---- one table

pub keys_in : (p : Stored) (i : Indexes) (column : ℕ) → TableFits p i → is_key p.def column ≡ true → KeyFits p column (option_case (key_number p.def column) fin.empty (key_at i.keys))
keys_in p i column h key =
    let k = key_place column p.def.keys key in
    let within = get_within p.def.keys k.number column k.there in
    let m = item_at i.keys k.number (omega (arith, within, h.keys)) in
    subst (KeyFits p column) (sym (ap (λ o. option_case o fin.empty (key_at i.keys)) k.is ∙ ap (λ o. unwrap_or o fin.empty) m.is)) (h.key_fits k.number column m.item k.there m.is)

pub foreign_in : (p : Stored) (i : Indexes) (k : ℕ) (f : ForeignDef) → TableFits p i → slice_get p.def.foreign k ≡ Some f → ValuesFit p f.column (foreign_at i.foreign k)
foreign_in p i k f h there =
    let within = get_within p.def.foreign k f there in
    let m = item_at i.foreign k (omega (arith, within, h.foreign)) in
    subst (ValuesFit p f.column) (sym (ap (λ o. unwrap_or o fin.empty) m.is)) (h.foreign_fits k f m.item there m.is)

-- ---- all tables

pub indexes_there : (tables : List Stored) (all : List Indexes) (j : ℕ) (p : Stored) → AreIndexed tables all → slice_get tables j ≡ Some p → slice_get all j ≡ Some (indexes_at all j)
indexes_there tables all j p h there =
    let i = item_at all j (let within = get_within tables j p there in omega (arith, within, h.count)) in
    i.is ∙ ap (λ x. Some x) (sym (ap (λ o. unwrap_or o no_indexes) i.is))

pub fits_there : (tables : List Stored) (all : List Indexes) (j : ℕ) (p : Stored) → AreIndexed tables all → slice_get tables j ≡ Some p → TableFits p (indexes_at all j)
fits_there tables all j p h there = h.fits j p (indexes_at all j) there (indexes_there tables all j p h there)

-- the index of a key, where all indexes have these of its table
pub key_fits_there : (defs : List TableDef) (all : List Indexes) (j : ℕ) (p : Stored) (i : Indexes) (column : ℕ) → def_at defs j ≡ p.def → indexes_at all j ≡ i → TableFits p i → is_key p.def column ≡ true
    → KeyFits p column (key_index defs all j column)
key_fits_there defs all j p i column def same h key =
    subst (KeyFits p column)
    (sym (ap (λ d. option_case (key_number d column) fin.empty (key_at (indexes_at all j).keys)) def ∙ ap (λ x. option_case (key_number p.def column) fin.empty (key_at x.keys)) same))
    (keys_in p i column h key)

-- ---- lists that a test picks of

pub each_picked : {A : Type 0} (P : A → Type 0) (q : A → Bool) (xs : List A) (k : ℕ) (x : A) → Each P (filter q xs) → slice_get xs k ≡ Some x → q x ≡ true → P x
each_picked P q [] k x h there e = absurd (none-some x there)
each_picked P q (y ∷ xs) k x h there e = by (q y) refl h k there (λ j g. each_picked P q xs j x g)
  where
    by : (b : Bool) → q y ≡ b → Each P (cond b (y ∷ filter q xs) (filter q xs)) → (k : ℕ) → slice_get (y ∷ xs) k ≡ Some x → ((j : ℕ) → Each P (filter q xs) → slice_get xs j ≡ Some x → q x ≡ true → P x) → P x
    by true f g zero there later = subst P (same_Some y x there) g.0
    by true f g (suc k) there later = later k g.1 there e
    by false f g zero there later = absurd (true≢false (sym (ap q (same_Some y x there) ∙ e) ∙ f))
    by false f g (suc k) there later = later k g there e

pub pick_each : {A : Type 0} (P : A → Type 0) (q : A → Bool) (xs : List A) → ((k : ℕ) (x : A) → slice_get xs k ≡ Some x → q x ≡ true → P x) → Each P (filter q xs)
pick_each P q [] h = tt
pick_each P q (y ∷ xs) h = by (q y) refl (pick_each P q xs (λ k x e. h (suc k) x e))
  where
    by : (b : Bool) → q y ≡ b → Each P (filter q xs) → Each P (cond b (y ∷ filter q xs) (filter q xs))
    by true e rest = (h 0 y refl e, rest)
    by false e rest = rest

pub each_by : {A B : Type 0} (P : B → Type 0) (f : A → B) (xs : List A) → ((k : ℕ) (x : A) → slice_get xs k ≡ Some x → P (f x)) → Each P (map f xs)
each_by P f [] h = tt
each_by P f (x ∷ xs) h = (h 0 x refl, each_by P f xs (λ k y e. h (suc k) y e))

pub each_at : {A B : Type 0} (P : B → Type 0) (f : A → B) (xs : List A) (k : ℕ) (x : A) → Each P (map f xs) → slice_get xs k ≡ Some x → P (f x)
each_at P f [] k x h e = absurd (none-some x e)
each_at P f (y ∷ xs) zero x h e = subst (λ z. P (f z)) (same_Some y x e) h.0
each_at P f (y ∷ xs) (suc k) x h e = each_at P f xs k x h.1 e

-- ---- changes of one of the tables

-- These changes fit one of the tables, and all indexes are theirs.
pub record Setting (scn : ℕ) (tables : List Stored) (all : List Indexes) (n : ℕ) (s : Stored) (cs : List RowChange) : Type 0 where
  pub stored : Each IsStored tables
  pub settled : Each (λ t. last_scn t.versions ≤ scn) tables
  pub there : slice_get tables n ≡ Some s
  pub placed : ArePlaced scn s cs
  pub right : AreRight scn tables all

module _ (scn : ℕ) (tables : List Stored) (all : List Indexes) (n : ℕ) (s : Stored) (cs : List RowChange) (h : Setting scn tables all n s cs) where
  pub stored_at : (j : ℕ) (p : Stored) → slice_get tables j ≡ Some p → IsStored p
  stored_at j p e = each_get IsStored tables j p e h.stored

  pub settled_at : (j : ℕ) (p : Stored) → slice_get tables j ≡ Some p → last_scn p.versions ≤ scn
  settled_at j p e = each_get (λ t. last_scn t.versions ≤ scn) tables j p e h.settled

  pub fits_at : (j : ℕ) (p : Stored) → slice_get tables j ≡ Some p → TableFits p (indexes_at all j)
  fits_at j p e = fits_there tables all j p h.right.indexed e

  -- an enabled foreign key held
  pub held_at : (j : ℕ) (p : Stored) (k : ℕ) (f : ForeignDef) → slice_get tables j ≡ Some p → slice_get p.def.foreign k ≡ Some f → f.rely ≡ false → is_orphaned (base_seen scn tables) (seen scn p) f ≡ false
  held_at j p k f e there enforced =
      each_picked (λ g. is_orphaned (base_seen scn tables) (seen scn p) g ≡ false) (λ g. not g.rely) p.def.foreign k f
      (each_from (λ g. is_orphaned (base_seen scn tables) (seen scn p) g ≡ false) (enabled p.def)
      (each_at (λ t. All (λ g. is_orphaned (base_seen scn tables) t g ≡ false) (enabled t.def)) (seen scn) tables j p
      (each_from (λ t. All (λ g. is_orphaned (base_seen scn tables) t g ≡ false) (enabled t.def)) (base_seen scn tables) h.right.parents) e))
      there (ap not enforced)

  -- a foreign key refers to a key of an earlier table
  pub back_at : (j : ℕ) (p : Stored) (k : ℕ) (f : ForeignDef) → slice_get tables j ≡ Some p → slice_get p.def.foreign k ≡ Some f → RefersBack (defs_of tables) j f
  back_at j p k f e there = each_get (RefersBack (defs_of tables) j) p.def.foreign k f there (each_from (RefersBack (defs_of tables) j) p.def.foreign (h.right.earlier j p e))
