-- The indexes of tables, and what changes of rows make of them.
use Rattle.std.specs.FinMap as map
use Rattle.std.specs.List.{filter_map, fold}
use Rattle.std.specs.Prelude.{List, None, Option, Some, [], cond, is_some, ℕ, ◌∷◌}
use Rattle.wh_base.specs.Lists.{option_case, where_true}
use Rattle.wh_base.specs.Tables.{value_at}
use Rattle.wh_base.specs.Values.{value_cmp}
use Rattle.wh_base.specs.declared.values.Value.{Value}
use Rattle.def_meaning.specs.Meaning.{not_null}
use Rattle.wh_dml.specs.declared.changes.PlacedRow.{PlacedRow}
use Rattle.wh_dml.specs.declared.changes.RowChange.{RowChange}
use Rattle.wh_keyindex.specs.Children.{Values}

-- the place of the row with each value of a key
abbrev pub Places : Type 0
Places = map.FinMap value_cmp ℕ

-- the indexes of a table: of its keys, and of its foreign keys the value of each place, both in the order of declaration
pub record Indexes : Type 0 where
  pub keys : List Places
  pub foreign : List Values

-- ---- what changes of rows make of them

-- the value of a column in a row with the row's place, and none where it is NULL
abbrev pub entry_in : ℕ → PlacedRow → Option (Value × ℕ)
entry_in column r = where_true (not_null (value_at r.values column)) (value_at r.values column, r.place)

-- the entries of the rows that go, and of those that come
abbrev pub going : ℕ → List RowChange → List (Value × ℕ)
going column cs = filter_map (λ c. option_case c.old None (entry_in column)) cs

abbrev pub coming : ℕ → List RowChange → List (Value × ℕ)
coming column cs = filter_map (λ c. option_case c.new None (entry_in column)) cs

-- the index of a key without these keys
abbrev pub without_keys : List (Value × ℕ) → Places → Places
without_keys es m = fold (λ n e. map.remove n e.0) m es

-- the index with these keys one after another; None where one is there already
abbrev pub with_keys : List (Value × ℕ) → Places → Option Places
with_keys [] m = Some m
with_keys (e ∷ es) m = cond (is_some (map.get m e.0)) None (with_keys es (map.insert m e.0 e.1))

-- the index of the key in a column after the changes: first what goes, then what comes
abbrev pub keys_changed : ℕ → List RowChange → Places → Option Places
keys_changed column cs m = with_keys (coming column cs) (without_keys (going column cs) m)

-- the index of the foreign key in a column after the changes
abbrev pub values_changed : ℕ → List RowChange → Values → Values
values_changed column cs m = fold (λ n e. map.insert n e.1 e.0) (fold (λ n e. map.remove n e.1) m (going column cs)) (coming column cs)

-- how many rows have the value in the key of this index
abbrev pub rows_with : Value → Places → ℕ
rows_with v m = cond (is_some (map.get m v)) 1 0
