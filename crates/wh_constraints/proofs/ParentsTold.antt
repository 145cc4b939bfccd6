-- What the indexes tell of the parents of rows that come.
use Rattle.std.proofs.Common.{◌≡◌, ◌∙◌, sym, ap, refl, arith, ℕ, suc, ◌<◌, Bool, true, false, cond, not, ◌&&◌, List, [], ◌∷◌, map, Option, None, Some, slice_get}
use Rattle.std.specs.List.{filter}
use Rattle.wh_base.specs.Lists.{first_of, first_some, where_true}
use Rattle.wh_base.specs.Tables.{column_name, is_key}
use Rattle.wh_base.specs.declared.replies.Refusal.TheVariants.{ParentMissing}
use Rattle.wh_base.specs.declared.tables.ForeignDef.{ForeignDef}
use Rattle.wh_base.specs.declared.tables.TableDef.{TableDef}
use Rattle.def_effect.specs.Block.{is_orphaned}
use Rattle.wh_constraints.proofs.Fitted.{Setting, back_at, fits_at, held_at, key_fits_there, settled_at, stored_at}
use Rattle.wh_constraints.proofs.Indexed.{changed_beside, def_there, get_within, item_at, seen_there}
use Rattle.wh_constraints.specs.Constraints.{key_index, parent_missing}
use Rattle.wh_dml.specs.Placed.{all_made}
use Rattle.wh_dml.specs.declared.changes.RowChange.{RowChange}
use Rattle.law_keys.specs.Laws.{ForeignLaws}
use Rattle.wh_keys.specs.Indexes.{Indexes}
use Rattle.wh_keys.specs.Made.{indexes_at}
use Rattle.wh_table.specs.Kept.{defs_of, with_change}
use Rattle.wh_table.specs.Stored.{Stored, base_seen, seen}

pub first_rest : {A : Type 0} (o : Option A) (xs ys : List (Option A)) → first_some xs ≡ first_some ys → first_some (o ∷ xs) ≡ first_some (o ∷ ys)
first_rest None xs ys e = e
first_rest (Some x) xs ys e = refl

pub below_differs : (m n : ℕ) → m < n → n ≡ m → ⊥
below_differs m n less e = omega (arith, less, e)

module _ (laws : ForeignLaws) (scn : ℕ) (tables : List Stored) (all : List Indexes) (n : ℕ) (s : Stored) (cs : List RowChange) (h : Setting scn tables all n s cs)
    (now : List Indexes) (beside : (m : ℕ) → (n ≡ m → ⊥) → indexes_at now m ≡ indexes_at all m) where
  -- one foreign key that held
  pub parent_told : (k : ℕ) (f : ForeignDef) → slice_get s.def.foreign k ≡ Some f → f.rely ≡ false
      → is_orphaned (base_seen scn (with_change n (all_made scn cs) tables)) (seen scn (all_made scn cs s)) f ≡ parent_missing (defs_of tables) now cs f
  parent_told k f there enforced =
      let back = back_at scn tables all n s cs h n s k f h.there there in
      let apart : n ≡ f.table → ⊥ = below_differs f.table n back.0 in
      let within = get_within tables n s h.there in
      let p = item_at tables f.table (omega (arith, back.0, within)) in
      let def = def_there tables f.table p.item p.is in
      laws.parents scn s p.item f cs (key_index (defs_of tables) now f.table f.to) (base_seen scn tables) (base_seen scn (with_change n (all_made scn cs) tables))
      (stored_at scn tables all n s cs h n s h.there) (stored_at scn tables all n s cs h f.table p.item p.is)
      (settled_at scn tables all n s cs h n s h.there) (settled_at scn tables all n s cs h f.table p.item p.is)
      h.placed
      (key_fits_there (defs_of tables) now f.table p.item (indexes_at all f.table) f.to def (beside f.table apart) (fits_at scn tables all n s cs h f.table p.item p.is) (ap (λ d. is_key d f.to) (sym def) ∙ back.1))
      (seen_there scn tables f.table p.item p.is)
      (seen_there scn (with_change n (all_made scn cs) tables) f.table p.item (changed_beside n f.table (all_made scn cs) tables apart ∙ p.is))
      (held_at scn tables all n s cs h n s k f h.there there enforced)

-- all of them
pub first_parents : (test missing : ForeignDef → Bool) (d : TableDef) (fs : List ForeignDef)
    → ((k : ℕ) (f : ForeignDef) → slice_get fs k ≡ Some f → f.rely ≡ false → test f ≡ missing f)
    → first_of (λ f. where_true (test f) (ParentMissing d.name (column_name d f.column))) (filter (λ f. not f.rely) fs)
    ≡ first_of (λ f. where_true (not f.rely && missing f) (ParentMissing d.name (column_name d f.column))) fs
first_parents test missing d [] h = refl
first_parents test missing d (f ∷ fs) h = by f.rely refl (first_parents test missing d fs (λ k g e. h (suc k) g e))
  where
    by : (b : Bool) → f.rely ≡ b
        → first_some (map (λ f. where_true (test f) (ParentMissing d.name (column_name d f.column))) (filter (λ f. not f.rely) fs))
        ≡ first_some (map (λ f. where_true (not f.rely && missing f) (ParentMissing d.name (column_name d f.column))) fs)
        → first_some (map (λ f. where_true (test f) (ParentMissing d.name (column_name d f.column))) (cond (not b) (f ∷ filter (λ f. not f.rely) fs) (filter (λ f. not f.rely) fs)))
        ≡ first_some (where_true (not b && missing f) (ParentMissing d.name (column_name d f.column)) ∷ map (λ f. where_true (not f.rely && missing f) (ParentMissing d.name (column_name d f.column))) fs)
    by true e rest = rest
    by false e rest =
        ap (λ b. first_some (where_true b (ParentMissing d.name (column_name d f.column)) ∷ map (λ f. where_true (test f) (ParentMissing d.name (column_name d f.column))) (filter (λ f. not f.rely) fs))) (h 0 f refl e)
        ∙ first_rest (where_true (missing f) (ParentMissing d.name (column_name d f.column))) (map (λ f. where_true (test f) (ParentMissing d.name (column_name d f.column))) (filter (λ f. not f.rely) fs))
        (map (λ f. where_true (not f.rely && missing f) (ParentMissing d.name (column_name d f.column))) fs) rest
