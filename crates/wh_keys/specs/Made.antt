-- What changes of rows make of all indexes of a table, and of those of all tables.
use Rattle.std.specs.FinMap as map
use Rattle.std.specs.List.{fold, zip}
use Rattle.std.specs.Prelude.{◌≡◌, Err, List, None, Ok, Option, Result, Some, [], cond, is_some, map as each, option_map, slice_get, suc, unwrap_or, zero, ℕ, ◌∷◌}
use Rattle.wh_base.specs.Lists.{◌>>=◌}
use Rattle.wh_base.specs.declared.tables.ForeignDef.{ForeignDef}
use Rattle.wh_base.specs.declared.tables.TableDef.{TableDef}
use Rattle.wh_base.specs.declared.values.Value.{Value}
use Rattle.wh_dml.specs.declared.changes.RowChange.{RowChange}
use Rattle.wh_keyindex.specs.Children.{Values}
use Rattle.wh_keys.specs.Indexes.{Indexes, Places, keys_changed, values_changed}

-- ---- the index of one key

-- the index without the key of a row, and with it: None where it is there already
abbrev pub without_entry : Option (Value × ℕ) → Places → Places
without_entry None m = m
without_entry (Some e) m = map.remove m e.0

abbrev pub with_entry : Option (Value × ℕ) → Places → Option Places
with_entry None m = Some m
with_entry (Some e) m = cond (is_some (map.get m e.0)) None (Some (map.insert m e.0 e.1))

-- ---- the index of one foreign key

-- the index without the places of these rows, and with them
abbrev pub without_places : List (Value × ℕ) → Values → Values
without_places es m = fold (λ n e. map.remove n e.1) m es

abbrev pub with_places : List (Value × ℕ) → Values → Values
with_places es m = fold (λ n e. map.insert n e.1 e.0) m es

-- the same of one row, where it has a value
abbrev pub without_place : Option (Value × ℕ) → Values → Values
without_place None m = m
without_place (Some e) m = map.remove m e.1

abbrev pub with_place : Option (Value × ℕ) → Values → Values
with_place None m = m
with_place (Some e) m = map.insert m e.1 e.0

-- ---- lists of indexes

-- the list with what f makes of the item at a place, None where it makes none; and the same where it always makes one
abbrev pub changed_at : {A : Type 0} → ℕ → (A → Option A) → List A → Option (List A)
changed_at n f [] = None
changed_at zero f (x ∷ xs) = option_map (λ y. y ∷ xs) (f x)
changed_at (suc n) f (x ∷ xs) = option_map (λ ys. x ∷ ys) (changed_at n f xs)

abbrev pub with_change : {A : Type 0} → ℕ → (A → A) → List A → List A
with_change n f [] = []
with_change zero f (x ∷ xs) = f x ∷ xs
with_change (suc n) f (x ∷ xs) = x ∷ with_change n f xs

-- ---- one table

-- the indexes of a table without rows
abbrev pub empty_indexes : TableDef → Indexes
empty_indexes d = record { keys = each (λ _. map.empty) d.keys; foreign = each (λ _. map.empty) d.foreign }

-- one index more, if there is one, before the others
abbrev pub also_changed : ℕ → Option Places → Result (List Places) ℕ → Result (List Places) ℕ
also_changed column None more = Err column
also_changed column (Some m) (Err other) = Err other
also_changed column (Some m) (Ok ms) = Ok (m ∷ ms)

-- the indexes of the keys in these columns after the changes, or the first column in which two rows would have one value
abbrev pub all_keys_changed : List ℕ → List RowChange → List Places → Result (List Places) ℕ
all_keys_changed [] cs ms = Ok []
all_keys_changed (column ∷ columns) cs [] = Ok []
all_keys_changed (column ∷ columns) cs (m ∷ ms) = also_changed column (keys_changed column cs m) (all_keys_changed columns cs ms)

-- the indexes of the foreign keys after the changes
abbrev pub all_values_changed : List ForeignDef → List RowChange → List Values → List Values
all_values_changed foreign cs ms = each (λ p. values_changed p.0.column cs p.1) (zip foreign ms)

-- ---- all tables

abbrev pub no_indexes : Indexes
no_indexes = record { keys = []; foreign = [] }

-- the indexes of the table with this number
abbrev pub indexes_at : List Indexes → ℕ → Indexes
indexes_at all table = unwrap_or (slice_get all table) no_indexes

-- all indexes with others of the table with this number
abbrev pub with_indexes : ℕ → Indexes → List Indexes → List Indexes
with_indexes table indexes [] = []
with_indexes zero indexes (i ∷ all) = indexes ∷ all
with_indexes (suc table) indexes (i ∷ all) = i ∷ with_indexes table indexes all

-- all indexes with others of the keys of a table, and of its foreign keys
abbrev pub with_keys_of : ℕ → List Indexes → List Places → List Indexes
with_keys_of table all ms = with_indexes table (record { keys = ms; foreign = (indexes_at all table).foreign }) all

abbrev pub with_foreign_of : ℕ → List Indexes → List Values → List Indexes
with_foreign_of table all ms = with_indexes table (record { keys = (indexes_at all table).keys; foreign = ms }) all

-- all indexes after changes of a table in the indexes of its keys, or the first column in which two rows would have one value
abbrev pub keys_made : ℕ → List ℕ → List RowChange → List Indexes → Result (List Indexes) ℕ
keys_made table columns cs all = all_keys_changed columns cs (indexes_at all table).keys >>= (λ ms. Ok (with_keys_of table all ms))

-- all indexes after changes of a table in the indexes of its foreign keys
abbrev pub foreign_made : ℕ → List ForeignDef → List RowChange → List Indexes → List Indexes
foreign_made table foreign cs all = with_foreign_of table all (all_values_changed foreign cs (indexes_at all table).foreign)

-- the index of a key of a table, and that of a foreign key, by their numbers; past the last it is empty
abbrev pub key_at : List Places → ℕ → Places
key_at keys key = unwrap_or (slice_get keys key) map.empty

abbrev pub foreign_at : List Values → ℕ → Values
foreign_at foreign number = unwrap_or (slice_get foreign number) map.empty

-- The answer to changes of keys: the column of a key that would be there twice, or none and then the changes are made.
abbrev pub AnswersKeys : {M : Type 0} → Result M ℕ → Option ℕ → M → Type 0
AnswersKeys made (Some column) now = made ≡ Err column
AnswersKeys made None now = made ≡ Ok now
