-- The values of new rows, checked column by column.
use Rattle.std.proofs.Common.{◌≡◌, ◌∙◌, sym, refl, ℕ, ◌≤◌, Bool, true, false, not, cond, List, [], ◌∷◌, length, map, drop, Option, Some, None, ◌&&◌}
use Rattle.std.specs.Prelude.{zip}
use Rattle.std.proofs.lemmas.List.{drop_all}
use Rattle.def_effect.specs.Block.{column_refusal, fits_kind}
use Rattle.wh_base.specs.Lists.{first_of, first_some, where_true}
use Rattle.wh_base.specs.Values.{is_null}
use Rattle.wh_base.specs.declared.replies.Refusal.{Refusal}
use Rattle.wh_base.specs.declared.replies.Refusal.TheVariants.{NullNotAllowed, ValueDoesNotFit}
use Rattle.wh_base.specs.declared.tables.ColumnDef.{ColumnDef}
use Rattle.wh_base.specs.declared.tables.TableDef.{TableDef}
use Rattle.wh_base.specs.declared.values.Value.{Value}
use Rattle.wh_check.specs.Rows.{row_refusal, sizes_refusal}

sizes_along : (d : TableDef) (cs : List ColumnDef) (vs : List Value) → first_of (column_refusal d) (zip cs vs) ≡ sizes_refusal d.name cs vs
sizes_along d [] vs = refl
sizes_along d (c ∷ cs) [] = refl
sizes_along d (c ∷ cs) (v ∷ vs) = by (fits_kind c.kind v) (c.not_null && is_null v) (sizes_along d cs vs)
  where
    only : (o : Option Refusal) → first_some (o ∷ []) ≡ o
    only None = refl
    only (Some r) = refl

    by : (fits null : Bool) → first_of (column_refusal d) (zip cs vs) ≡ sizes_refusal d.name cs vs
        → first_some (first_some (where_true (not fits) (ValueDoesNotFit d.name c.name) ∷ where_true null (NullNotAllowed d.name c.name) ∷ []) ∷ map (column_refusal d) (zip cs vs))
        ≡ first_some (cond (not fits) (Some (ValueDoesNotFit d.name c.name)) (where_true null (NullNotAllowed d.name c.name)) ∷ sizes_refusal d.name cs vs ∷ [])
    by false null h = refl
    by true true h = refl
    by true false h = h ∙ sym (only (sizes_refusal d.name cs vs))

pub row_sizes : (d : TableDef) (vs : List Value) → row_refusal d vs ≡ sizes_refusal d.name d.columns vs
row_sizes d vs = sizes_along d d.columns vs

no_values : (table : List ℕ) (cs : List ColumnDef) → sizes_refusal table cs [] ≡ None
no_values table [] = refl
no_values table (c ∷ cs) = refl

pub no_more_values : (table : List ℕ) (cs : List ColumnDef) (vs : List Value) (at : ℕ) → length vs ≤ at → sizes_refusal table (drop at cs) (drop at vs) ≡ None
no_more_values table cs vs at h = rw (drop_all at vs h) (no_values table (drop at cs))

pub ruleset ends = (no_more_values)

pub ruleset rows = (row_sizes)
