-- What a block makes of a base state, or its first refusal. A statement goes in three steps: what it asks of the rows
-- (names, kinds, numbers of values), then each changed row (size, NULL, partition), then the whole table as it leaves
-- it (keys, foreign keys, limits). Each statement sees what those before it made; the first refusal undoes the block.
use Rattle.std.specs.List.{enumerate_from, list_all, list_any}
use Rattle.std.specs.Prelude.{Bool, Err, List, None, Ok, Option, Result, Some, [], codes, cond, false, filter, filter_map, find, flat_map, is_none, length, map, nat_abs, nat_le, nat_lt, neg_ℤ, not, option_map, pos, suc, unwrap_or, zip, ℕ, ℤ, ◌&&◌, ◌++◌, ◌+◌, ◌==◌, ◌^◌, ◌||◌, ◌∷◌}
use Rattle.wh_base.specs.DayTexts.{day_of}
use Rattle.wh_base.specs.Days.{is_day}
use Rattle.wh_base.specs.Lists.{count_from, distinct, first_of, first_some, option_case, or_refuse, repeated, same_text, unless, where_true, ◌>>=◌}
use Rattle.wh_base.specs.Tables.{Base, Row, Table, TableChange, column_name, column_number, defs_of, is_insert, mark_of, part_of_key, row_key, table_after, table_at, table_number, value_at, with_table}
use Rattle.wh_base.specs.Values.{added_value, digits_number, given_value, is_null, same_value}
use Rattle.wh_base.specs.declared.columns.ColPart.TheVariants.{Col}
use Rattle.wh_base.specs.declared.columns.ColRef.{ColRef}
use Rattle.wh_base.specs.declared.queries.ColName.{ColName}
use Rattle.wh_base.specs.declared.queries.RawCondition.{RawCondition}
use Rattle.wh_base.specs.declared.replies.Refusal.{Refusal}
use Rattle.wh_base.specs.declared.replies.Refusal.TheVariants.{ChildExists, DuplicateKey, NameTaken, NoPartition, NoSuchColumn, NoSuchObject, NullNotAllowed, ParentMissing, RowMovement, SelectInBlock, TableFull, ValueDoesNotFit, VersionsFull}
use Rattle.wh_base.specs.declared.statements.DeleteRows.{DeleteRows}
use Rattle.wh_base.specs.declared.statements.InsertRows.{InsertRows}
use Rattle.wh_base.specs.declared.statements.LoadRows.{LoadRows}
use Rattle.wh_base.specs.declared.statements.NewValue.{NewValue}
use Rattle.wh_base.specs.declared.statements.NewValue.TheVariants.{Given, Moved}
use Rattle.wh_base.specs.declared.statements.SetColumn.{SetColumn}
use Rattle.wh_base.specs.declared.statements.Statement.{Statement}
use Rattle.wh_base.specs.declared.statements.ChangeStatement.TheVariants.{Delete, Insert, Load, Update}
use Rattle.wh_base.specs.declared.statements.Statement.TheVariants as about
use Rattle.wh_base.specs.declared.statements.UpdateRows.{UpdateRows}
use Rattle.wh_base.specs.declared.tables.Change.{Change}
use Rattle.wh_base.specs.declared.tables.ColumnDef.{ColumnDef}
use Rattle.wh_base.specs.declared.tables.ForeignDef.{ForeignDef}
use Rattle.wh_base.specs.declared.tables.Kind.{Kind}
use Rattle.wh_base.specs.declared.tables.TableDef.{TableDef}
use Rattle.wh_base.specs.declared.values.Value.{Value}
use Rattle.wh_base.specs.declared.values.Value.TheVariants.{Day, Null, Num, Text}
use Rattle.def_meaning.specs.Joined.{conditions_true, edge_true, part_value}
use Rattle.def_meaning.specs.Meaning.{not_null}
use Rattle.def_resolve.specs.Kinds.{IsText, Sort, agrees, literal_sort, part_sort, printed_part, value_sort}
use Rattle.def_resolve.specs.Names.{Source, column_named, condition_names, name_refusal}
use Rattle.def_resolve.specs.Resolve.{join_of_condition, resolved_condition}
use Rattle.wh_base.specs.declared.queries.RawCondition.TheVariants as raw
use Rattle.wh_base.specs.declared.tables.Kind.TheVariants as kind

-- ---- the first step: the changes that a statement asks for

-- what a statement asks: its table, its changes in the order in which they are made, and how many rows it scanned
pub record Asks : Type 0 where
  pub table : ℕ
  pub changes : List Change
  pub scanned : ℕ

-- the number of a table, or MV-02
abbrev pub the_table : Base → List ℕ → Result ℕ Refusal
the_table base name = or_refuse (table_number (defs_of base) name) (NoSuchObject name)

-- MV-03 for the first name that is no column, and MV-01 for the first that repeats
abbrev pub unknown_column : TableDef → List (List ℕ) → Option Refusal
unknown_column d names = option_map NoSuchColumn (find (λ n. is_none (column_number d n)) names)

abbrev pub repeated_column : List (List ℕ) → Option Refusal
repeated_column names = option_map NameTaken (repeated same_text names)

-- the places of the columns that an INSERT names; without a list all, in declared order
abbrev pub named_places : TableDef → Option (List (List ℕ)) → List ℕ
named_places d names = option_case names (count_from 0 (length d.columns)) (λ ns. filter_map (column_number d) ns)

-- MV-04 for a value of another kind than its column
abbrev pub value_misfits : TableDef → ℕ → Value → Option Refusal
value_misfits d c v = where_true (not (agrees (part_sort d (Col c)) (value_sort v))) (ValueDoesNotFit d.name (column_name d c))

-- MV-04 for a row with another number of values than columns; `-` stands for the column
abbrev pub wrong_number : {A B : Type 0} → TableDef → List A → List B → Option Refusal
wrong_number d xs ys = where_true (not (length xs == length ys)) (ValueDoesNotFit d.name (codes "-"))

-- MV-04 for a row of an INSERT: a wrong number of values, then the first value of the wrong kind
abbrev pub given_row_refusal : TableDef → List ℕ → List Value → Option Refusal
given_row_refusal d places vs =
    first_some (wrong_number d places vs ∷ first_of (λ p. value_misfits d p.0 p.1) (zip places vs) ∷ [])

-- the value that is given for a column, NULL where none is
abbrev pub placed_value : List (ℕ × Value) → ℕ → Value
placed_value given c = option_case (find (λ p. p.0 == c) given) Null (λ p. p.1)

-- the values of a new row in declared order
abbrev pub full_row : TableDef → List (ℕ × Value) → List Value
full_row d given = map (placed_value given) (count_from 0 (length d.columns))

-- the change that inserts these values under this rowid
abbrev pub inserted_change : ℕ × List Value → Change
inserted_change p = record { rowid = p.0; old = None; new = Some p.1 }

-- new rows get the next rowids, in the order of the text
abbrev pub insert_changes : Table → List (List Value) → List Change
insert_changes t rows = map inserted_change (enumerate_from (suc t.given) rows)

-- an INSERT: MV-02, then MV-03 for all its columns, then MV-01, then MV-04 row by row
abbrev pub insert_asks : Base → InsertRows → Result Asks Refusal
insert_asks base s = do
  n ← the_table base s.table
  let t = table_at base n in
      let names = unwrap_or s.columns [] in
      let places = named_places t.def s.columns in
      let rows = map (map given_value) s.rows in
      unless (first_some (unknown_column t.def names ∷ repeated_column names ∷ first_of (given_row_refusal t.def places) rows ∷ []))
      (record { table = n; changes = insert_changes t (map (λ r. full_row t.def (zip places r)) rows); scanned = 0 })

-- ---- LOAD

-- a number as a LOAD has it: an optional `-`, and digits
abbrev pub field_number : List ℕ → Option ℤ
field_number [] = None
field_number (b ∷ bs) = cond (b == 45) (option_map (λ n. neg_ℤ (pos n)) (digits_number bs)) (option_map pos (digits_number (b ∷ bs)))

-- the value of a field that isn't empty; None where it is of the wrong kind
abbrev pub field_of_kind : Kind → List ℕ → Option Value
field_of_kind (kind.Number n) field = option_map Num (field_number field)
field_of_kind (kind.Text n) field = Some (Text field)
field_of_kind kind.Date field = option_map Day (day_of field)

-- the value of a field for a column of this kind: an empty one is NULL; None where it is of the wrong kind
abbrev pub field_value : Kind → List ℕ → Option Value
field_value k [] = Some Null
field_value k (b ∷ bs) = field_of_kind k (b ∷ bs)

-- MV-04 for a field of the wrong kind
abbrev pub field_misfits : TableDef → ColumnDef × List ℕ → Option Refusal
field_misfits d p = where_true (is_none (field_value p.0.kind p.1)) (ValueDoesNotFit d.name p.0.name)

-- MV-04 for a line of a LOAD: a wrong number of fields, then the first field of the wrong kind
abbrev pub load_row_refusal : TableDef → List (List ℕ) → Option Refusal
load_row_refusal d fields = first_some (wrong_number d d.columns fields ∷ first_of (field_misfits d) (zip d.columns fields) ∷ [])

-- the values of a line
abbrev pub loaded_row : TableDef → List (List ℕ) → List Value
loaded_row d fields = map (λ p. unwrap_or (field_value p.0.kind p.1) Null) (zip d.columns fields)

-- a LOAD: MV-02, then MV-04 line by line
abbrev pub load_asks : Base → LoadRows → Result Asks Refusal
load_asks base s = do
  n ← the_table base s.table
  let t = table_at base n in
      unless (first_of (load_row_refusal t.def) s.rows)
      (record { table = n; changes = insert_changes t (map (loaded_row t.def) s.rows); scanned = 0 })

-- ---- UPDATE and DELETE

-- the one table of the statement, as a query would have it in FROM
abbrev pub only_source : ℕ → TableDef → List Source
only_source n d = record { label = d.name; table = n; def = d } ∷ []

-- the column of a condition in the one table
abbrev pub own_column : ℕ → TableDef → ColName → ColRef
own_column n d c = column_named (only_source n d) c

-- MV-03 for the first column of the conditions that is unknown
abbrev pub conditions_unknown : ℕ → TableDef → List RawCondition → Option Refusal
conditions_unknown n d cs = first_of (name_refusal (only_source n d)) (flat_map condition_names cs)

-- MV-04 for a column that is compared with something of another kind
abbrev pub sorts_refusal : TableDef → ColRef → List Sort → Option Refusal
sorts_refusal d c sorts = where_true (list_any (λ s. not (agrees (part_sort d c.part) s)) sorts) (ValueDoesNotFit d.name (printed_part d c.part))

-- MV-04 of a condition. A literal may be as long as it likes: it is only compared
abbrev pub own_kinds_refusal : TableDef → (ColName → ColRef) → RawCondition → Option Refusal
own_kinds_refusal d column (raw.Compare c op l) = sorts_refusal d (column c) (literal_sort l ∷ [])
own_kinds_refusal d column (raw.Between c l m) = sorts_refusal d (column c) (literal_sort l ∷ literal_sort m ∷ [])
own_kinds_refusal d column (raw.Equal a b) = sorts_refusal d (column a) (part_sort d (column b).part ∷ [])
own_kinds_refusal d column (raw.OneOf c ls) = sorts_refusal d (column c) (map literal_sort ls)
own_kinds_refusal d column (raw.IsNull c) = None
own_kinds_refusal d column (raw.NotNull c) = None

-- the value of a column in a row with these values. Such conditions have plain columns alone, so neither the rowid nor
-- the number of the partition counts
abbrev pub own_value : List Value → ColRef → Value
own_value vs c = part_value (record { rowid = 0; mark = 0; values = vs }) c.part

-- the conditions are true of a row with these values; an equality of two columns compares two values of the row
abbrev pub row_meets : ℕ → TableDef → List RawCondition → List Value → Bool
row_meets n d cs vs =
    let column : (ColName → ColRef) = own_column n d in
    conditions_true (own_value vs) (flat_map (resolved_condition column) cs)
    && list_all (edge_true (own_value vs)) (flat_map (join_of_condition column) cs)

-- the rows that the conditions pick, by ascending rowid
abbrev pub rows_met : ℕ → Table → List RawCondition → List Row
rows_met n t cs = filter (λ r. row_meets n t.def cs r.values) t.rows

-- the column whose old value a new value takes
abbrev pub new_value_names : NewValue → List (List ℕ)
new_value_names (Given l) = []
new_value_names (Moved c n) = c ∷ []

-- the columns that an item of SET names, in the order of the text
abbrev pub set_names : SetColumn → List (List ℕ)
set_names s = s.column ∷ new_value_names s.value

-- the place of a column that is known
abbrev pub place_of : TableDef → List ℕ → ℕ
place_of d name = unwrap_or (column_number d name) 0

-- the column holds what a number may be added to: numbers, or days
abbrev pub is_counted_column : TableDef → ℕ → Bool
is_counted_column d c = not (agrees (part_sort d (Col c)) IsText)

-- the two columns are of one kind
abbrev pub are_one_kind : TableDef → ℕ → ℕ → Bool
are_one_kind d b c = agrees (part_sort d (Col b)) (part_sort d (Col c))

-- MV-04 for the new value of a column: a literal of the wrong kind, or `+` or `-` of a text column or of one of another kind
-- than the column set; the column set prints
abbrev pub new_value_refusal : TableDef → ℕ → NewValue → Option Refusal
new_value_refusal d c (Given l) = value_misfits d c (given_value l)
new_value_refusal d c (Moved from n) =
    where_true (not (is_counted_column d (place_of d from) && are_one_kind d (place_of d from) c)) (ValueDoesNotFit d.name (column_name d c))

abbrev pub set_refusal : TableDef → SetColumn → Option Refusal
set_refusal d s = new_value_refusal d (place_of d s.column) s.value

-- the new value, by the row's old values: a literal, or an old value with a number added, which is so many days for a day; NULL
-- where the old value is
abbrev pub new_value : TableDef → List Value → NewValue → Value
new_value d old (Given l) = given_value l
new_value d old (Moved from n) = added_value (value_at old (place_of d from)) n

-- the place of the column set, and its new value
abbrev pub set_value : TableDef → List Value → SetColumn → ℕ × Value
set_value d old s = (place_of d s.column, new_value d old s.value)

-- the value that is set for a column, else its old one
abbrev pub set_or_old : List (ℕ × Value) → ℕ × Value → Value
set_or_old new p = option_case (find (λ q. q.0 == p.0) new) p.1 (λ q. q.1)

-- the values of a row after a SET list, each by the row's old values
abbrev pub updated_row : TableDef → List SetColumn → List Value → List Value
updated_row d sets old = map (set_or_old (map (set_value d old) sets)) (enumerate_from 0 old)

abbrev pub updated_change : TableDef → List SetColumn → Row → Change
updated_change d sets r = record { rowid = r.rowid; old = Some r.values; new = Some (updated_row d sets r.values) }

abbrev pub deleted_change : Row → Change
deleted_change r = record { rowid = r.rowid; old = Some r.values; new = None }

-- an UPDATE: MV-02, MV-03 for its SET list and then its conditions, MV-01 for a column set twice, MV-04 for the SET list and
-- then the conditions. It scans all rows of its table; a change of values to the same values is a change too
abbrev pub update_asks : Base → UpdateRows → Result Asks Refusal
update_asks base s = do
  n ← the_table base s.table
  let t = table_at base n in
      unless (first_some (
      unknown_column t.def (flat_map set_names s.sets)
      ∷ conditions_unknown n t.def s.conditions
      ∷ repeated_column (map (λ x. x.column) s.sets)
      ∷ first_of (set_refusal t.def) s.sets
      ∷ first_of (own_kinds_refusal t.def (own_column n t.def)) s.conditions
      ∷ []))
      (record { table = n; changes = map (updated_change t.def s.sets) (rows_met n t s.conditions); scanned = length t.rows })

-- a DELETE: MV-02, MV-03 and MV-04 for its conditions. It scans all rows of its table
abbrev pub delete_asks : Base → DeleteRows → Result Asks Refusal
delete_asks base s = do
  n ← the_table base s.table
  let t = table_at base n in
      unless (first_some (conditions_unknown n t.def s.conditions ∷ first_of (own_kinds_refusal t.def (own_column n t.def)) s.conditions ∷ []))
      (record { table = n; changes = map deleted_change (rows_met n t s.conditions); scanned = length t.rows })

-- what a statement of a block asks; a SELECT there is MV-19, and no other statement stands in a block
abbrev pub statement_asks : Base → Statement → Result Asks Refusal
statement_asks base (about.Change (Insert s)) = insert_asks base s
statement_asks base (about.Change (Load s)) = load_asks base s
statement_asks base (about.Change (Update s)) = update_asks base s
statement_asks base (about.Change (Delete s)) = delete_asks base s
statement_asks base _ = Err SelectInBlock

-- ---- the second step: each changed row

-- no text column holds such a byte
abbrev pub byte_is_barred : ℕ → Bool
byte_is_barred b = nat_lt b 32 || (b == 127)

-- the column may hold the value: a number within its digits, a text within its bytes and without a barred byte, a day, or NULL
abbrev pub fits_kind : Kind → Value → Bool
fits_kind (kind.Number p) (Num n) = nat_lt (nat_abs n) (10 ^ p)
fits_kind (kind.Text n) (Text t) = nat_le (length t) n && not (list_any byte_is_barred t)
fits_kind kind.Date (Day n) = is_day n
fits_kind k v = is_null v

-- MV-04 for a value that the column may not hold, then MV-05 for NULL in a NOT NULL column
abbrev pub column_refusal : TableDef → ColumnDef × Value → Option Refusal
column_refusal d p =
    first_some (
    where_true (not (fits_kind p.0.kind p.1)) (ValueDoesNotFit d.name p.0.name)
    ∷ where_true (p.0.not_null && is_null p.1) (NullNotAllowed d.name p.0.name)
    ∷ [])

-- the table is partitioned, and no partition has the row's key in its interval
abbrev pub has_no_partition : Table → List Value → Bool
has_no_partition t vs = option_case (row_key t vs) false (λ key. is_none (part_of_key t key))

-- the row's old values were in another partition than its new ones are
abbrev pub moves_row : Table → Option (List Value) → List Value → Bool
moves_row t old new = option_case old false (λ vs. not (mark_of t vs == mark_of t new))

-- a row as a change leaves it: its columns from the left, then MV-09, then MV-10 where the table has no row movement
abbrev pub new_row_refusal : Table → Option (List Value) → List Value → Option Refusal
new_row_refusal t old new =
    first_some (
    first_of (column_refusal t.def) (zip t.def.columns new)
    ∷ where_true (has_no_partition t new) (NoPartition t.def.name)
    ∷ where_true (moves_row t old new && not t.def.movement) (RowMovement t.def.name)
    ∷ [])

-- the refusal of one change; a deleted row has none
abbrev pub changed_row_refusal : Table → Change → Option Refusal
changed_row_refusal t c = option_case c.new None (new_row_refusal t c.old)

-- ---- the third step: the whole statement, over its final rows

-- the values of a column in all rows, without the NULLs
abbrev pub column_values : Table → ℕ → List Value
column_values t c = filter not_null (map (λ r. value_at r.values c) t.rows)

-- MV-06 for two equal values in a key
abbrev pub key_refusal : Table → ℕ → Option Refusal
key_refusal t k = option_map (λ _. DuplicateKey t.def.name (column_name t.def k)) (repeated same_value (column_values t k))

-- a value of the foreign key that no row of the parent has in the column referred to; a NULL needs no parent
abbrev pub is_orphaned : Base → Table → ForeignDef → Bool
is_orphaned base t f =
    let parents = column_values (table_at base f.table) f.to in
    list_any (λ v. not (list_any (same_value v) parents)) (column_values t f.column)

-- the foreign keys that are enforced: all but those that are RELY
abbrev pub enabled : TableDef → List ForeignDef
enabled d = filter (λ f. not f.rely) d.foreign

-- MV-07 for a foreign key of the table without its parent
abbrev pub parent_refusal : Base → Table → ForeignDef → Option Refusal
parent_refusal base t f = where_true (is_orphaned base t f) (ParentMissing t.def.name (column_name t.def f.column))

-- MV-08 for a child table whose enabled foreign key to this table lost a parent
abbrev pub child_refusal : Base → ℕ → Table → Option Refusal
child_refusal base n child =
    where_true (list_any (λ f. (f.table == n) && is_orphaned base child f) (enabled child.def)) (ChildExists (table_at base n).def.name child.def.name)

-- the live rows of a table, and the row versions that are kept of all tables
abbrev pub max_rows : ℕ
max_rows = 262144

abbrev pub max_versions : ℕ
max_versions = 1048576

-- the row of this table and rowid is there
abbrev pub is_live : Base → ℕ × ℕ → Bool
is_live base p = list_any (λ r. r.rowid == p.1) (table_at base p.0).rows

-- the table and rowid of a row that was inserted or updated
abbrev pub written_row : TableChange → Option (ℕ × ℕ)
written_row c = option_map (λ _. (c.table, c.change.rowid)) c.change.new

abbrev pub same_place : ℕ × ℕ → ℕ × ℕ → Bool
same_place a b = (a.0 == b.0) && (a.1 == b.1)

-- how many live rows these changes inserted or updated, each counted once
abbrev pub new_versions : Base → List TableChange → ℕ
new_versions base changes = length (filter (is_live base) (distinct same_place (filter_map written_row changes)))

-- the whole table as the statement leaves it: MV-06 by key, MV-07 by foreign key, MV-08 by child table, MV-14, MV-15.
-- `kept` is how many row versions were kept before the block
abbrev pub final_refusal : Base → ℕ → ℕ → List TableChange → Option Refusal
final_refusal base n kept changes =
    let t = table_at base n in
    first_some (
    first_of (key_refusal t) t.def.keys
    ∷ first_of (parent_refusal base t) (enabled t.def)
    ∷ first_of (child_refusal base n) base
    ∷ where_true (nat_lt max_rows (length t.rows)) (TableFull t.def.name)
    ∷ where_true (nat_lt max_versions (kept + new_versions base changes)) (VersionsFull t.def.name)
    ∷ [])

-- ---- rows that move

-- the change gives the row a key of another partition, and the table has row movement
abbrev pub is_moved : Table → Change → Bool
is_moved t c = t.def.movement && option_case c.new false (moves_row t c.old)

-- such a row is removed, and its new values are appended under the next rowid
abbrev pub moved_changes : Change → ℕ → List Change
moved_changes c rowid = record { rowid = c.rowid; old = c.old; new = None } ∷ record { rowid = rowid; old = None; new = c.new } ∷ []

-- the changes that are made of those asked, where so many rowids of the table were given before
abbrev pub made_changes : Table → ℕ → List Change → List Change
made_changes t given [] = []
made_changes t given (c ∷ cs) =
    cond (is_moved t c) (moved_changes c (suc given) ++ made_changes t (suc given) cs)
    (c ∷ made_changes t (cond (is_insert c) (suc given) given) cs)

-- ---- the block

-- how far a block has come: the base state, the changes in the order made, how many rows it scanned, and how many it
-- changed, where the two changes of a moved row count once
pub record Progress : Type 0 where
  pub base : Base
  pub changes : List TableChange
  pub scanned : ℕ
  pub rows : ℕ

-- the refusal of a block: the number of its statement, the code, and how many rows it scanned up to then
pub record Stopped : Type 0 where
  pub at : ℕ
  pub code : Refusal
  pub scanned : ℕ

-- the block goes on, or stops at this statement where it is refused
abbrev pub stop_at : ℕ → ℕ → Option Refusal → Progress → Result Progress Stopped
stop_at at scanned (Some code) done = Err (record { at = at; code = code; scanned = scanned })
stop_at at scanned None done = Ok done

-- the block with a statement's changes made, or stopped: checked row by row over the table before, then as a whole after
abbrev pub make_changes : ℕ → ℕ → Progress → Asks → Result Progress Stopped
make_changes kept at p a =
    let t = table_at p.base a.table in
    let made = made_changes t t.given a.changes in
    let base = with_table p.base a.table (table_after t made) in
    let changes = p.changes ++ map (λ c. record { table = a.table; change = c }) made in
    let scanned = p.scanned + a.scanned in
    stop_at at scanned (first_some (first_of (changed_row_refusal t) a.changes ∷ final_refusal base a.table kept changes ∷ []))
    (record { base = base; changes = changes; scanned = scanned; rows = p.rows + length a.changes })

-- a statement whose first step is refused has scanned nothing
abbrev pub run_asked : ℕ → ℕ → Progress → Result Asks Refusal → Result Progress Stopped
run_asked kept at p (Err code) = Err (record { at = at; code = code; scanned = p.scanned })
run_asked kept at p (Ok a) = make_changes kept at p a

abbrev pub run_statement : ℕ → ℕ → Progress → Statement → Result Progress Stopped
run_statement kept at p s = run_asked kept at p (statement_asks p.base s)

-- the statements one after another from this number on, each over what those before it left
abbrev pub run_statements : ℕ → ℕ → Progress → List Statement → Result Progress Stopped
run_statements kept at p [] = Ok p
run_statements kept at p (s ∷ ss) = run_statement kept at p s >>= (λ q. run_statements kept (suc at) q ss)

-- the effect of a block on a base state with so many kept row versions: the new base state, the changes and how many rows
-- it scanned, or its first refusal
abbrev pub effect : Base → ℕ → List Statement → Result Progress Stopped
effect base kept statements = run_statements kept 1 (record { base = base; changes = []; scanned = 0; rows = 0 }) statements
