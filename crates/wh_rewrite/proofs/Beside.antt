-- The tables of a view, each with its definition, from a place on.
use Rattle.std.proofs.Common.{◌≡◌, ◌∙◌, ap, refl, sym, arith, false, true, Bool, ℕ, ◌<◌, ◌≤◌, ◌+◌, ◌&&◌, List, [], ◌∷◌, drop, get_or, length, nat_le, slice_index_or, zip}
use Rattle.std.specs.List.{list_all}
use Rattle.std.proofs.lemmas.List.{drop_more, length-drop}
use Rattle.wh_base.specs.declared.tables.TableDef.{TableDef}
use Rattle.wh_image.specs.Standing.{changed_at}
use Rattle.wh_rewrite.specs.Served.{is_still}
use Rattle.wh_table.specs.Stored.{Stored}

-- a test of pairs, where the second list is empty
all_of_none : {A B : Type 0} (f : A × B → Bool) (xs : List A) (ys : List B) → length ys ≡ 0 → list_all f (zip xs ys) ≡ true
all_of_none f [] ys h = refl
all_of_none f (x ∷ xs) [] h = refl
all_of_none f (x ∷ xs) (y ∷ ys) h = absurd (omega (arith, h))

-- no pair is left past the end of the second list
pub none_left : (tables : List Stored) (point : ℕ) (ns : List ℕ) (ds : List TableDef) (at : ℕ) → length ds ≤ at → list_all (is_still tables point) (zip (drop at ns) (drop at ds)) ≡ true
none_left tables point ns ds at past = all_of_none (is_still tables point) (drop at ns) (drop at ds) (rw (length-drop at ds) (omega (arith, past)))

-- the pair at a place, and those behind it
pair_at : (tables : List Stored) (point : ℕ) (ns : List ℕ) (ds : List TableDef) (at : ℕ) → at < length ns → at < length ds
    → list_all (is_still tables point) (zip (drop at ns) (drop at ds))
    ≡ (nat_le (changed_at tables (slice_index_or ns at 0)) point && list_all (is_still tables point) (zip (drop (at + 1) ns) (drop (at + 1) ds)))
pair_at tables point ns [] at within beside = absurd (omega (arith, beside))
pair_at tables point ns (d ∷ ds) at within beside =
    let a : drop at ns ≡ get_or ns at 0 ∷ drop (at + 1) ns = drop_more ns at 0 within in
    let b : drop at (d ∷ ds) ≡ get_or (d ∷ ds) at d ∷ drop (at + 1) (d ∷ ds) = drop_more (d ∷ ds) at d beside in
    λ i. list_all (is_still tables point) (zip (a i) (b i))

-- a pair that passes leaves the outcome to those behind it
pub passed_at : (tables : List Stored) (point : ℕ) (ns : List ℕ) (ds : List TableDef) (at : ℕ) (whole : Bool) → at < length ns → at < length ds
    → nat_le (changed_at tables (slice_index_or ns at 0)) point ≡ true → list_all (is_still tables point) (zip (drop at ns) (drop at ds)) ≡ whole
    → list_all (is_still tables point) (zip (drop (at + 1) ns) (drop (at + 1) ds)) ≡ whole
passed_at tables point ns ds at whole within beside still same =
    let later : Bool = list_all (is_still tables point) (zip (drop (at + 1) ns) (drop (at + 1) ds)) in
    ap (λ b. b && later) (sym still) ∙ sym (pair_at tables point ns ds at within beside) ∙ same

-- a pair that fails decides the outcome
pub failed_at : (tables : List Stored) (point : ℕ) (ns : List ℕ) (ds : List TableDef) (at : ℕ) (whole : Bool) → at < length ns → at < length ds
    → nat_le (changed_at tables (slice_index_or ns at 0)) point ≡ false → list_all (is_still tables point) (zip (drop at ns) (drop at ds)) ≡ whole → false ≡ whole
failed_at tables point ns ds at whole within beside moved same =
    let later : Bool = list_all (is_still tables point) (zip (drop (at + 1) ns) (drop (at + 1) ds)) in
    ap (λ b. b && later) (sym moved) ∙ sym (pair_at tables point ns ds at within beside) ∙ same

pub ruleset beside = (none_left, passed_at, failed_at)
