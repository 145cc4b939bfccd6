-- Indexes as a block changes them, and how they are stored.
use Rattle.std.specs.Coded.{Coded, code_by, coded_list, coded_ℕ, coded×}
use Rattle.std.specs.FinMap as map
use Rattle.std.specs.Prelude.{List, refl, ℕ}
use Rattle.wh_base.specs.contracts.values.Value.{the_row}
use Rattle.wh_base.specs.declared.values.Value.{Value}
use Rattle.wh_keyindex.specs.Children.{Values}
use Rattle.wh_keys.specs.Indexes.{Indexes, Places}
use Rattle.wh_keys.specs.Undoing.{Changing, all_before, all_now}

-- the value of a row in a column, and the row's place
abbrev pub Entered : Type 0
Entered = Value × ℕ

-- each is stored as the pair of its fields
abbrev pub changing_code : {M : Type 0} → Coded M → Coded (Changing M)
changing_code {M} m = code_by (M × M) (coded× m m) (λ c. (c.now, c.before)) (λ p. record { now = p.0; before = p.1 }) (λ _. refl)

abbrev pub places_code : Coded Places
places_code = map.code the_row.coded coded_ℕ

abbrev pub values_code : Coded Values
values_code = map.code coded_ℕ the_row.coded

abbrev pub indexes_code : Coded Indexes
indexes_code =
    code_by (List Places × List Values) (coded× (coded_list places_code) (coded_list values_code))
    (λ i. (i.keys, i.foreign)) (λ p. record { keys = p.0; foreign = p.1 }) (λ _. refl)

-- the index of a key, that of a foreign key, those of a table, and those of all tables
abbrev pub HeldPlaces : Type 0
HeldPlaces = Changing Places

abbrev pub held_places_code : Coded HeldPlaces
held_places_code = changing_code places_code

abbrev pub HeldValues : Type 0
HeldValues = Changing Values

abbrev pub held_values_code : Coded HeldValues
held_values_code = changing_code values_code

abbrev pub HeldIndexes : Type 0
HeldIndexes = Changing Indexes

abbrev pub held_indexes_code : Coded HeldIndexes
held_indexes_code = changing_code indexes_code

-- those of a table by those of its keys and foreign keys
abbrev pub held_of : List HeldPlaces → List HeldValues → HeldIndexes
held_of ks fs = record { now = record { keys = all_now ks; foreign = all_now fs }; before = record { keys = all_before ks; foreign = all_before fs } }

abbrev pub Held : Type 0
Held = Changing (List Indexes)

abbrev pub held_code : Coded Held
held_code = changing_code (coded_list indexes_code)
