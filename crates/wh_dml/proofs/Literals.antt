-- The literals of an INSERT, checked one by one.
use Rattle.std.proofs.Common.{◌≡◌, ◌∙◌, sym, ap, refl, arith, ℕ, ◌≢◌, true, false, List, [], ◌∷◌, length, map, Option, Some, None, ◌==◌}
use Rattle.std.specs.Prelude.{codes, slice_get}
use Rattle.std.proofs.lemmas.Bool.Decides.{nat_tests}
use Rattle.std.proofs.lemmas.List.{length-map}
use Rattle.def_effect.specs.Block.{given_row_refusal, value_misfits}
use Rattle.wh_base.specs.Lists.{first_some, where_true}
use Rattle.wh_base.specs.Values.{given_value}
use Rattle.wh_base.specs.declared.replies.Refusal.{Refusal}
use Rattle.wh_base.specs.declared.replies.Refusal.TheVariants.{ValueDoesNotFit}
use Rattle.wh_base.specs.declared.tables.ColumnDef.{ColumnDef}
use Rattle.wh_base.specs.declared.tables.TableDef.{TableDef}
use Rattle.wh_base.specs.declared.values.Literal.{Literal}
use Rattle.wh_dml.specs.Asking.{is_misfit, kinds_refusal}

-- ---- one literal

pub no_column : (d : TableDef) (n : ℕ) (l : Option Literal) → None ≡ slice_get d.columns n → None ≡ value_misfits d n (given_value l)
no_column d n l h = rw (sym h) refl

misfit_at : (d : TableDef) (n : ℕ) (c : ColumnDef) (l : Option Literal) → Some c ≡ slice_get d.columns n → value_misfits d n (given_value l) ≡ where_true (is_misfit c.kind l) (ValueDoesNotFit d.name c.name)
misfit_at d n c l h = rw (sym h) refl

pub column_misfits : (d : TableDef) (n : ℕ) (c : ColumnDef) (l : Option Literal) → Some c ≡ slice_get d.columns n → is_misfit c.kind l ≡ true → Some (ValueDoesNotFit d.name c.name) ≡ value_misfits d n (given_value l)
column_misfits d n c l h e = sym (misfit_at d n c l h ∙ ap (λ b. where_true b (ValueDoesNotFit d.name c.name)) e)

pub column_fits : (d : TableDef) (n : ℕ) (c : ColumnDef) (l : Option Literal) → Some c ≡ slice_get d.columns n → is_misfit c.kind l ≡ false → None ≡ value_misfits d n (given_value l)
column_fits d n c l h e = sym (misfit_at d n c l h ∙ ap (λ b. where_true b (ValueDoesNotFit d.name c.name)) e)

pub ruleset kinds = (no_column, column_misfits, column_fits)

-- ---- a row

both_same : (n : ℕ) → (n == n) ≡ true
both_same n = grind (arith, nat_tests)

other : (m n : ℕ) → m ≢ n → (m == n) ≡ false
other m n h = grind (arith, nat_tests, h)

only : (o : Option Refusal) → first_some (None ∷ o ∷ []) ≡ o
only None = refl
only (Some r) = refl

pub row_kinds : (d : TableDef) (places : List ℕ) (ls : List (Option Literal)) → length places ≡ length ls → given_row_refusal d places (map given_value ls) ≡ kinds_refusal d places ls
row_kinds d places ls same =
    let count : length places ≡ length (map given_value ls) = same ∙ sym (length-map ls given_value) in
    let right : (length places == length (map given_value ls)) ≡ true = rw count (both_same (length (map given_value ls))) in
    rw right (only (kinds_refusal d places ls))

pub row_of_wrong_number : (d : TableDef) (places : List ℕ) (ls : List (Option Literal)) → length places ≢ length ls → given_row_refusal d places (map given_value ls) ≡ Some (ValueDoesNotFit d.name (codes "-"))
row_of_wrong_number d places ls differ =
    let wrong : (length places == length (map given_value ls)) ≡ false = other (length places) (length (map given_value ls)) (λ e. differ (e ∙ length-map ls given_value)) in
    rw wrong refl

pub ruleset rows = (row_kinds, row_of_wrong_number)
