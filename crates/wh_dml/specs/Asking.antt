-- The first step of an INSERT: what it asks of tables with these definitions.
use Rattle.std.specs.List.{position_from}
use Rattle.std.specs.Prelude.{Bool, List, None, Ok, Option, Result, [], filter_map, find, is_none, length, map, not, option_map, position, slice_get, unwrap_or, zip, ℕ, ◌==◌, ◌∷◌}
use Rattle.def_effect.specs.Block.{given_row_refusal, repeated_column, value_misfits}
use Rattle.def_resolve.specs.Kinds.{agrees, sort_of_kind, value_sort}
use Rattle.wh_base.specs.Lists.{count_from, first_of, first_some, option_case, or_refuse, same_text, unless, ◌>>=◌}
use Rattle.wh_base.specs.Tables.{def_at}
use Rattle.wh_base.specs.Values.{given_value}
use Rattle.wh_base.specs.declared.replies.Refusal.{Refusal}
use Rattle.wh_base.specs.declared.replies.Refusal.TheVariants.{NoSuchColumn, NoSuchObject}
use Rattle.wh_base.specs.declared.statements.InsertRows.{InsertRows}
use Rattle.wh_base.specs.declared.tables.ColumnDef.{ColumnDef}
use Rattle.wh_base.specs.declared.tables.Kind.{Kind}
use Rattle.wh_base.specs.declared.tables.TableDef.{TableDef}
use Rattle.wh_base.specs.declared.values.Literal.{Literal}
use Rattle.wh_base.specs.declared.values.Value.{Value}
use Rattle.wh_base.specs.declared.values.Value.TheVariants.{Null}
use Rattle.wh_dml.specs.declared.asks.Asked.{Asked}

-- ---- names

-- the place of the column of this name, counted from 0
unfoldable pub place_in : List ColumnDef → List ℕ → Option ℕ
place_in columns name = position (λ c. same_text c.name name) columns

-- the number of the table of this name, counted from 0
unfoldable pub number_in : List TableDef → List ℕ → Option ℕ
number_in defs name = position (λ d. same_text d.name name) defs

-- the first name that is no column
abbrev pub unknown_in : TableDef → List (List ℕ) → Option Refusal
unknown_in d names = option_map NoSuchColumn (find (λ n. is_none (place_in d.columns n)) names)

-- the places of the columns that are listed; without a list all, in declared order
abbrev pub places_in : TableDef → Option (List (List ℕ)) → List ℕ
places_in d names = option_case names (count_from 0 (length d.columns)) (λ ns. filter_map (place_in d.columns) ns)

-- ---- kinds

-- the literal is of another kind than what the column holds
abbrev pub is_misfit : Kind → Option Literal → Bool
is_misfit k l = not (agrees (sort_of_kind k) (value_sort (given_value l)))

-- the first literal of a row that is of another kind than its column; the columns are those at these places
abbrev pub kinds_refusal : TableDef → List ℕ → List (Option Literal) → Option Refusal
kinds_refusal d places row = first_of (λ p. value_misfits d p.0 p.1) (zip places (map given_value row))

abbrev pub given_rows : InsertRows → List (List Value)
given_rows s = map (map given_value) s.rows

-- the first refusal of an INSERT into a table with this definition, where its values are for the columns at these places
abbrev pub insert_refusal : TableDef → List ℕ → InsertRows → Option Refusal
insert_refusal d places s =
    first_some (unknown_in d (unwrap_or s.columns []) ∷ repeated_column (unwrap_or s.columns []) ∷ first_of (given_row_refusal d places) (given_rows s) ∷ [])

-- ---- values

-- for each column which of the values of a row is its, if one is
abbrev pub sources : TableDef → List ℕ → List (Option ℕ)
sources d places = map (λ c. position_from (λ p. p == c) 0 places) (count_from 0 (length d.columns))

-- the value that a row has for a column
abbrev pub sourced : List (Option Literal) → Option ℕ → Value
sourced row source = option_case source Null (λ n. given_value (unwrap_or (slice_get row n) None))

-- the values of a row in declared order
abbrev pub sourced_row : List (Option ℕ) → List (Option Literal) → List Value
sourced_row from row = map (sourced row) from

-- ---- the whole step

-- the rows of an INSERT into a table with this definition, in declared order, or its first refusal
abbrev pub rows_asked : TableDef → InsertRows → Result (List (List Value)) Refusal
rows_asked d s =
    let places = places_in d s.columns in
    unless (insert_refusal d places s) (map (sourced_row (sources d places)) s.rows)

-- the table with this number, and the rows that are asked of it
abbrev pub asked_of : List TableDef → InsertRows → ℕ → Result Asked Refusal
asked_of defs s n = rows_asked (def_at defs n) s >>= (λ rows. Ok (record { table = n; rows = rows }))

abbrev pub asked_from : List TableDef → InsertRows → Result Asked Refusal
asked_from defs s = or_refuse (number_in defs s.table) (NoSuchObject s.table) >>= asked_of defs s
