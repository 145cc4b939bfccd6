-- What the index of a key and the index of a foreign key say of a table of row versions as it is now.
use Rattle.std.specs.FinMap as map
use Rattle.std.specs.List.{filter}
use Rattle.std.specs.Option.{IsSomeAnd}
use Rattle.std.specs.Prelude.{◌≡◌, Bool, List, None, Option, Some, cond, false, length, option_and_then, slice_get, true, ℕ}
use Rattle.wh_base.specs.Lists.{option_case, where_true}
use Rattle.wh_base.specs.Tables.{value_at}
use Rattle.wh_base.specs.Values.{same_value}
use Rattle.wh_base.specs.declared.values.Value.{Value}
use Rattle.def_meaning.specs.Meaning.{not_null}
use Rattle.wh_keyindex.specs.Children.{Values}
use Rattle.wh_keys.specs.Indexes.{Places, rows_with}
use Rattle.wh_segment.specs.Versions.{is_live}
use Rattle.wh_segment.specs.declared.version.Version.{Version}
use Rattle.wh_table.specs.Stored.{Stored}

-- the value of a column, where it isn't NULL
abbrev pub value_of_row : ℕ → List Value → Option Value
value_of_row column vs = where_true (not_null (value_at vs column)) (value_at vs column)

-- the same of a version that lives now
abbrev pub value_in : ℕ → Version → Option Value
value_in column v = cond (is_live v) (option_and_then (value_of_row column) v.values) None

-- the version has this value in a column now
abbrev pub has_value : ℕ → Value → Version → Bool
has_value column value v = option_case (value_in column v) false (same_value value)

-- how many rows have the value in a column now
abbrev pub count_in : Stored → ℕ → Value → ℕ
count_in s column value = length (filter (has_value column value) s.versions)

-- The index has each value of the column with the place of its row, and no value has two rows.
pub record KeyFits (s : Stored) (column : ℕ) (m : Places) : Type 0 where
  pub sound : (value : Value) (place : ℕ) → map.get m value ≡ Some place → IsSomeAnd (slice_get s.versions place) (λ v. value_in column v ≡ Some value)
  pub tallied : (value : Value) → not_null value ≡ true → rows_with value m ≡ count_in s column value

-- The index has the value of the column at each place.
pub record ValuesFit (s : Stored) (column : ℕ) (m : Values) : Type 0 where
  pub exact : (place : ℕ) → map.get m place ≡ option_case (slice_get s.versions place) None (value_in column)
