-- The second step: each new row.
use Rattle.std.specs.Prelude.{List, None, Option, Some, [], cond, not, zip, ℕ, ◌&&◌, ◌∷◌}
use Rattle.def_effect.specs.Block.{column_refusal, fits_kind}
use Rattle.wh_base.specs.Lists.{first_of, first_some, where_true}
use Rattle.wh_base.specs.Values.{is_null}
use Rattle.wh_base.specs.declared.replies.Refusal.{Refusal}
use Rattle.wh_base.specs.declared.replies.Refusal.TheVariants.{NullNotAllowed, ValueDoesNotFit}
use Rattle.wh_base.specs.declared.tables.ColumnDef.{ColumnDef}
use Rattle.wh_base.specs.declared.tables.TableDef.{TableDef}
use Rattle.wh_base.specs.declared.values.Value.{Value}

-- the first value that its column may not hold
abbrev pub row_refusal : TableDef → List Value → Option Refusal
row_refusal d vs = first_of (column_refusal d) (zip d.columns vs)

-- ---- the same column by column

-- a value that is of the wrong kind or size for its column, or NULL in a column that is NOT NULL
abbrev pub size_refusal : List ℕ → ColumnDef → Value → Option Refusal
size_refusal table c v =
    cond (not (fits_kind c.kind v)) (Some (ValueDoesNotFit table c.name)) (where_true (c.not_null && is_null v) (NullNotAllowed table c.name))

abbrev pub sizes_refusal : List ℕ → List ColumnDef → List Value → Option Refusal
sizes_refusal table [] vs = None
sizes_refusal table (c ∷ cs) [] = None
sizes_refusal table (c ∷ cs) (v ∷ vs) = first_some (size_refusal table c v ∷ sizes_refusal table cs vs ∷ [])
