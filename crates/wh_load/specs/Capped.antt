-- The rows that code makes of a LOAD. A number of a LOAD may have any number of digits, and no column holds one of more
-- than 15: 10^38 stands for each greater size, so that a row with such a number is refused as it would be with the number.
use Rattle.std.specs.Prelude.{List, Result, map, min, neg_ℤ, negsuc, pos, suc, unwrap_or, zip, ℕ, ℤ, ◌^◌}
use Rattle.def_effect.specs.Block.{field_misfits, field_value, load_row_refusal, loaded_row}
use Rattle.wh_base.specs.Lists.{first_of, unless}
use Rattle.wh_base.specs.declared.replies.Refusal.{Refusal}
use Rattle.wh_base.specs.declared.tables.ColumnDef.{ColumnDef}
use Rattle.wh_base.specs.declared.tables.TableDef.{TableDef}
use Rattle.wh_base.specs.declared.values.Value.{Value}
use Rattle.wh_base.specs.declared.values.Value.TheVariants.{Null, Num}

-- ---- values

-- the greatest size of a number that is read
abbrev pub largest : ℕ
largest = 10 ^ 38

abbrev pub capped_size : ℕ → ℕ
capped_size n = min n largest

-- the number, or the largest one with its sign where its size is greater
abbrev pub capped_number : ℤ → ℤ
capped_number (pos n) = pos (capped_size n)
capped_number (negsuc n) = neg_ℤ (pos (capped_size (suc n)))

abbrev pub capped : Value → Value
capped (Num n) = Num (capped_number n)
capped v = v

-- ---- rows

-- the values of a row
abbrev pub capped_row : TableDef → List (List ℕ) → List Value
capped_row d fields = map capped (loaded_row d fields)

-- the value of a field in a column
abbrev pub loaded_value : ColumnDef × List ℕ → Value
loaded_value p = unwrap_or (field_value p.0.kind p.1) Null

-- the values of fields in these columns, or the refusal of the first that is of another kind than its column
abbrev pub line_loaded : TableDef → List ColumnDef → List (List ℕ) → Result (List Value) Refusal
line_loaded d columns fields = unless (first_of (field_misfits d) (zip columns fields)) (map capped (map loaded_value (zip columns fields)))

-- the values of a row, or its first refusal
abbrev pub row_loaded : TableDef → List (List ℕ) → Result (List Value) Refusal
row_loaded d fields = unless (load_row_refusal d fields) (capped_row d fields)

-- the values of all rows, or the first refusal
abbrev pub rows_loaded : TableDef → List (List (List ℕ)) → Result (List (List Value)) Refusal
rows_loaded d rows = unless (first_of (load_row_refusal d) rows) (map (capped_row d) rows)
