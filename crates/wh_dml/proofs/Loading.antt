-- The rows of a LOAD are refused in the second step whether their numbers are capped or not, and where none is refused none was capped.
use Rattle.std.proofs.Common.{◌≡◌, ◌∙◌, sym, ap, refl, true, not, ◌&&◌, ℕ, ◌+◌, List, [], ◌∷◌, map, Option, None, Some}
use Rattle.std.specs.List.{enumerate_from}
use Rattle.std.specs.Prelude.{zip}
use Rattle.def_effect.specs.Block.{changed_row_refusal, column_refusal, has_no_partition, inserted_change, loaded_row, moves_row, new_row_refusal}
use Rattle.wh_base.specs.Lists.{first_of, first_some, where_true}
use Rattle.wh_base.specs.Tables.{Table}
use Rattle.wh_base.specs.declared.replies.Refusal.{Refusal}
use Rattle.wh_base.specs.declared.replies.Refusal.TheVariants.{NoPartition, RowMovement}
use Rattle.wh_base.specs.declared.tables.Change.{Change}
use Rattle.wh_base.specs.declared.values.Value.{Value}
use Rattle.wh_load.proofs.Capping.{line_exact, line_same}
use Rattle.wh_load.specs.Capped.{capped_row}
use Rattle.wh_load.specs.Sized.{is_sized_def}
use Rattle.wh_dml.proofs.Sourcing.{first_none}

-- ---- one row

-- a new row, where its columns say this
abbrev new_refusal : Table → List Value → Option Refusal → Option Refusal
new_refusal t vs o = first_some (o ∷ where_true (has_no_partition t vs) (NoPartition t.def.name) ∷ where_true (moves_row t None vs && not t.def.movement) (RowMovement t.def.name) ∷ [])

abbrev columns_refusal : Table → List Value → Option Refusal
columns_refusal t vs = first_of (column_refusal t.def) (zip t.def.columns vs)

row_refused : (t : Table) (fields : List (List ℕ)) → is_sized_def t.def ≡ true → new_row_refusal t None (loaded_row t.def fields) ≡ new_row_refusal t None (capped_row t.def fields)
row_refused t fields sized = by (columns_refusal t (loaded_row t.def fields)) refl
  where
    same : columns_refusal t (capped_row t.def fields) ≡ columns_refusal t (loaded_row t.def fields)
    same = line_same t.def t.def.columns fields sized

    by : (o : Option Refusal) → columns_refusal t (loaded_row t.def fields) ≡ o → new_row_refusal t None (loaded_row t.def fields) ≡ new_row_refusal t None (capped_row t.def fields)
    by (Some r) e = ap (new_refusal t (loaded_row t.def fields)) e ∙ sym (ap (new_refusal t (capped_row t.def fields)) (same ∙ e))
    by None e = ap (new_row_refusal t None) (sym (line_exact t.def t.def.columns fields sized e))

row_exact : (t : Table) (fields : List (List ℕ)) → is_sized_def t.def ≡ true → new_row_refusal t None (loaded_row t.def fields) ≡ None → loaded_row t.def fields ≡ capped_row t.def fields
row_exact t fields sized none =
    sym (line_exact t.def t.def.columns fields sized (first_none (columns_refusal t (loaded_row t.def fields))
    (where_true (has_no_partition t (loaded_row t.def fields)) (NoPartition t.def.name) ∷ where_true (moves_row t None (loaded_row t.def fields) && not t.def.movement) (RowMovement t.def.name) ∷ []) none).0)

-- ---- all rows

-- the changes that insert rows from this rowid on
abbrev new_rows : ℕ → List (List Value) → List Change
new_rows k rows = map inserted_change (enumerate_from k rows)

both : (o p : Option Refusal) (os ps : List (Option Refusal)) → o ≡ p → first_some os ≡ first_some ps → first_some (o ∷ os) ≡ first_some (p ∷ ps)
both o None os ps e h = ap (λ q. first_some (q ∷ os)) e ∙ h
both o (Some r) os ps e h = ap (λ q. first_some (q ∷ os)) e

pub rows_refused : (t : Table) (k : ℕ) (rows : List (List (List ℕ))) → is_sized_def t.def ≡ true
    → first_of (changed_row_refusal t) (new_rows k (map (loaded_row t.def) rows)) ≡ first_of (changed_row_refusal t) (new_rows k (map (capped_row t.def) rows))
rows_refused t k [] sized = refl
rows_refused t k (r ∷ rows) sized =
    both (new_row_refusal t None (loaded_row t.def r)) (new_row_refusal t None (capped_row t.def r)) (map (changed_row_refusal t) (new_rows (k + 1) (map (loaded_row t.def) rows)))
    (map (changed_row_refusal t) (new_rows (k + 1) (map (capped_row t.def) rows))) (row_refused t r sized) (rows_refused t (k + 1) rows sized)

pub rows_exact : (t : Table) (k : ℕ) (rows : List (List (List ℕ))) → is_sized_def t.def ≡ true → first_of (changed_row_refusal t) (new_rows k (map (loaded_row t.def) rows)) ≡ None
    → new_rows k (map (loaded_row t.def) rows) ≡ new_rows k (map (capped_row t.def) rows)
rows_exact t k [] sized none = refl
rows_exact t k (r ∷ rows) sized none =
    let parts = first_none (new_row_refusal t None (loaded_row t.def r)) (map (changed_row_refusal t) (new_rows (k + 1) (map (loaded_row t.def) rows))) none in
    (λ i. inserted_change (k, row_exact t r sized parts.0 i) ∷ rows_exact t (k + 1) rows sized parts.1 i)
