-- What the indexes tell of the children of keys that go.
use Rattle.std.proofs.Common.{◌≡◌, ◌∙◌, sym, ap, subst, refl, arith, ℕ, suc, ◌+◌, Bool, true, false, cond, not, ◌&&◌, ◌||◌, List, [], ◌∷◌, map, Option, Some, slice_get}
use Rattle.std.specs.List.{enumerate_from, filter, list_any}
use Rattle.wh_base.specs.Lists.{first_of, first_some}
use Rattle.wh_base.specs.Tables.{Table, def_at, is_key, table_at}
use Rattle.wh_base.specs.declared.replies.Refusal.{Refusal}
use Rattle.wh_base.specs.declared.tables.ForeignDef.{ForeignDef}
use Rattle.wh_base.specs.declared.tables.TableDef.{TableDef}
use Rattle.def_effect.specs.Block.{is_orphaned}
use Rattle.wh_constraints.proofs.Fitted.{Setting, back_at, fits_at, foreign_in, held_at, key_fits_there, settled_at, stored_at}
use Rattle.wh_constraints.proofs.Indexed.{changed_in, def_there, seen_there}
use Rattle.wh_constraints.proofs.ParentsTold.{first_rest}
use Rattle.wh_constraints.specs.Constraints.{TableFits, key_index, parent_lost}
use Rattle.wh_dml.specs.Placed.{all_made}
use Rattle.wh_dml.specs.declared.changes.RowChange.{RowChange}
use Rattle.law_keys.proofs.Changed.{def_made}
use Rattle.law_keys.specs.Fitting.{ValuesFit}
use Rattle.law_keys.specs.Laws.{ForeignLaws}
use Rattle.wh_keys.specs.Indexes.{Indexes}
use Rattle.wh_keys.specs.Made.{foreign_at, indexes_at}
use Rattle.wh_table.specs.Kept.{defs_of, with_change}
use Rattle.wh_table.specs.Stored.{Stored, base_seen, seen}

module _ (laws : ForeignLaws) (scn : ℕ) (tables : List Stored) (all : List Indexes) (n : ℕ) (s : Stored) (cs : List RowChange) (h : Setting scn tables all n s cs)
    (now : List Indexes) (beside : (m : ℕ) → (n ≡ m → ⊥) → indexes_at now m ≡ indexes_at all m) (fits : TableFits (all_made scn cs s) (indexes_at now n)) where
  -- one foreign key of another table that held
  pub child_told : (j : ℕ) (u : Stored) (k : ℕ) (f : ForeignDef) → slice_get tables j ≡ Some u → (n ≡ j → ⊥) → slice_get u.def.foreign k ≡ Some f → f.rely ≡ false → f.table ≡ n
      → is_orphaned (base_seen scn (with_change n (all_made scn cs) tables)) (seen scn u) f ≡ parent_lost (key_index (defs_of tables) now n f.to) (foreign_at (indexes_at now j).foreign k) cs f
  child_told j u k f at apart there enforced to =
      let back = back_at scn tables all n s cs h j u k f at there in
      let def = def_there tables n s h.there in
      let key : is_key (all_made scn cs s).def f.to ≡ true = ap (λ d. is_key d f.to) (def_made scn s cs ∙ sym def) ∙ subst (λ t. is_key (def_at (defs_of tables) t) f.to ≡ true) to back.1 in
      let index : ValuesFit u f.column (foreign_at (indexes_at now j).foreign k) =
      subst (λ i. ValuesFit u f.column (foreign_at i.foreign k)) (sym (beside j apart)) (foreign_in u (indexes_at all j) k f (fits_at scn tables all n s cs h j u at) there) in
      laws.children scn s u f cs (key_index (defs_of tables) now n f.to) (foreign_at (indexes_at now j).foreign k) (base_seen scn tables) (base_seen scn (with_change n (all_made scn cs) tables))
      (stored_at scn tables all n s cs h n s h.there) (stored_at scn tables all n s cs h j u at)
      (settled_at scn tables all n s cs h n s h.there) (settled_at scn tables all n s cs h j u at)
      h.placed
      (key_fits_there (defs_of tables) now n (all_made scn cs s) (indexes_at now n) f.to (def ∙ sym (def_made scn s cs)) refl fits key)
      index
      (ap (table_at (base_seen scn tables)) to ∙ seen_there scn tables n s h.there)
      (ap (table_at (base_seen scn (with_change n (all_made scn cs) tables))) to
      ∙ seen_there scn (with_change n (all_made scn cs) tables) n (all_made scn cs s) (changed_in n (all_made scn cs) tables s h.there))
      (held_at scn tables all n s cs h j u k f at there enforced)

-- ---- all foreign keys of a table, and all tables

pub any_enabled : (test : ForeignDef → Bool) (left : ℕ × ForeignDef → Bool) (i : ℕ) (fs : List ForeignDef)
    → ((k : ℕ) (f : ForeignDef) (j : ℕ) → slice_get fs k ≡ Some f → j ≡ i + k → (not f.rely && test f) ≡ left (j, f))
    → list_any test (filter (λ f. not f.rely) fs) ≡ list_any left (enumerate_from i fs)
any_enabled test left i [] h = refl
any_enabled test left i (f ∷ fs) h =
    by f.rely (h 0 f i refl (omega arith)) (any_enabled test left (i + 1) fs (λ k g j e is. h (suc k) g j e (omega (arith, is))))
  where
    by : (b : Bool) → (not b && test f) ≡ left (i, f) → list_any test (filter (λ f. not f.rely) fs) ≡ list_any left (enumerate_from (i + 1) fs)
        → list_any test (cond (not b) (f ∷ filter (λ f. not f.rely) fs) (filter (λ f. not f.rely) fs)) ≡ (left (i, f) || list_any left (enumerate_from (i + 1) fs))
    by true one rest = rest ∙ ap (λ b. b || list_any left (enumerate_from (i + 1) fs)) one
    by false one rest = ap (λ b. test f || b) rest ∙ ap (λ b. b || list_any left (enumerate_from (i + 1) fs)) one

pub first_tables : (scn : ℕ) (g : Table → Option Refusal) (left : ℕ × TableDef → Option Refusal) (i : ℕ) (us : List Stored)
    → ((k : ℕ) (u : Stored) (j : ℕ) → slice_get us k ≡ Some u → j ≡ i + k → g (seen scn u) ≡ left (j, u.def))
    → first_of g (base_seen scn us) ≡ first_of left (enumerate_from i (defs_of us))
first_tables scn g left i [] h = refl
first_tables scn g left i (u ∷ us) h =
    ap (λ o. first_some (o ∷ map g (base_seen scn us))) (h 0 u i refl (omega arith))
    ∙ first_rest (left (i, u.def)) (map g (base_seen scn us)) (map left (enumerate_from (i + 1) (defs_of us)))
    (first_tables scn g left (i + 1) us (λ k v j e is. h (suc k) v j e (omega (arith, is))))
