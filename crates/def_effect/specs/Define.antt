-- CREATE TABLE: the table that it makes, or its first refusal. Lists are asked element by element in the order of the text.
use Rattle.std.specs.List.{list_any}
use Rattle.std.specs.Ordering.{is_lt}
use Rattle.std.specs.Prelude.{Bool, List, None, Option, Result, Some, [], false, filter_map, find, flat_map, is_none, is_some, length, map, nat_abs, nat_le, nat_lt, negsuc, not, option_and_then, option_map, pos, position, suc, true, unwrap_or, ℕ, ℤ, ◌&&◌, ◌++◌, ◌||◌, ◌∷◌}
use Rattle.wh_base.specs.Lists.{first_of, first_some, has_text, last, option_case, same_text, unless, where_true}
use Rattle.wh_base.specs.Tables.{Base, Table, column_number, def_at, defs_of, is_key, table_number}
use Rattle.wh_base.specs.Values.{literal_value, value_cmp}
use Rattle.wh_base.specs.declared.columns.ColPart.TheVariants.{Col}
use Rattle.wh_base.specs.declared.replies.Counted.TheVariants.{Columns, Partitions, Tables}
use Rattle.wh_base.specs.declared.replies.Refusal.{Refusal}
use Rattle.wh_base.specs.declared.replies.Refusal.TheVariants.{NameTaken, NoSuchColumn, NoSuchObject, NotAKey, PartitionBound, TooManyObjects, ValueDoesNotFit}
use Rattle.wh_base.specs.declared.statements.ColumnMark.{ColumnMark}
use Rattle.wh_base.specs.declared.statements.NewColumn.{NewColumn}
use Rattle.wh_base.specs.declared.statements.NewForeign.{NewForeign}
use Rattle.wh_base.specs.declared.statements.NewKey.{NewKey}
use Rattle.wh_base.specs.declared.statements.NewRange.{NewRange}
use Rattle.wh_base.specs.declared.statements.NewTable.{NewTable}
use Rattle.wh_base.specs.declared.statements.Partitioning.{Partitioning}
use Rattle.wh_base.specs.declared.statements.RawKind.{RawKind}
use Rattle.wh_base.specs.declared.statements.RawKind.TheVariants.{Bytes, Days, Digits}
use Rattle.wh_base.specs.declared.statements.Reference.{Reference}
use Rattle.wh_base.specs.declared.statements.TablePart.{TablePart}
use Rattle.wh_base.specs.declared.tables.ColumnDef.{ColumnDef}
use Rattle.wh_base.specs.declared.tables.ForeignDef.{ForeignDef}
use Rattle.wh_base.specs.declared.tables.Kind.{Kind}
use Rattle.wh_base.specs.declared.tables.Part.{Part}
use Rattle.wh_base.specs.declared.tables.TableDef.{TableDef}
use Rattle.wh_base.specs.declared.values.Value.{Value}
use Rattle.def_effect.specs.Block.{fits_kind}
use Rattle.def_meaning.specs.Meaning.{not_null}
use Rattle.def_resolve.specs.Earlier.{first_in_turn}
use Rattle.def_resolve.specs.Kinds.{IsAny, Sort, agrees, part_sort, sort_of_kind}
use Rattle.wh_base.specs.declared.statements.TablePart.TheVariants as parts
use Rattle.wh_base.specs.declared.statements.ColumnMark.TheVariants as mark
use Rattle.wh_base.specs.declared.tables.Kind.TheVariants as kind

-- the columns of the table, in declared order
abbrev pub column_parts : TablePart → List NewColumn
column_parts (parts.Column c) = c ∷ []
column_parts (parts.Key k) = []
column_parts (parts.Foreign f) = []

abbrev pub new_columns : NewTable → List NewColumn
new_columns s = flat_map column_parts s.parts

-- ---- keys and foreign keys in the order of declaration: where they stand at a column, and where they stand by themselves

abbrev pub mark_key : List ℕ → ColumnMark → List NewKey
mark_key column mark.NotNull = []
mark_key column mark.PrimaryKey = record { column = column; primary = true } ∷ []
mark_key column mark.Unique = record { column = column; primary = false } ∷ []
mark_key column (mark.References r) = []

abbrev pub part_keys : TablePart → List NewKey
part_keys (parts.Column c) = flat_map (mark_key c.name) c.marks
part_keys (parts.Key k) = k ∷ []
part_keys (parts.Foreign f) = []

abbrev pub mark_foreign : List ℕ → ColumnMark → List NewForeign
mark_foreign column mark.NotNull = []
mark_foreign column mark.PrimaryKey = []
mark_foreign column mark.Unique = []
mark_foreign column (mark.References r) = record { column = column; reference = r } ∷ []

abbrev pub part_foreign : TablePart → List NewForeign
part_foreign (parts.Column c) = flat_map (mark_foreign c.name) c.marks
part_foreign (parts.Key k) = []
part_foreign (parts.Foreign f) = f ∷ []

abbrev pub new_keys : NewTable → List NewKey
new_keys s = flat_map part_keys s.parts

abbrev pub new_foreign : NewTable → List NewForeign
new_foreign s = flat_map part_foreign s.parts

-- ---- columns

-- NOT NULL is written
abbrev pub is_not_null_mark : ColumnMark → Bool
is_not_null_mark mark.NotNull = true
is_not_null_mark m = false

-- the size is from 1 to the most that there may be
abbrev pub is_in_size : ℤ → ℕ → Bool
is_in_size (pos n) most = nat_le 1 n && nat_le n most
is_in_size (negsuc n) most = false

-- the size of a column is in range: 1 to 15 digits, 1 to 64 bytes
abbrev pub size_holds : RawKind → Bool
size_holds (Digits n) = option_case n true (λ p. is_in_size p 15)
size_holds (Bytes n) = is_in_size n 64
size_holds Days = true

-- the kind of a column; NUMBER without digits has 15
abbrev pub new_kind : RawKind → Kind
new_kind (Digits n) = kind.Number (option_case n 15 nat_abs)
new_kind (Bytes n) = kind.Text (nat_abs n)
new_kind Days = kind.Date

-- the column is the primary key, and it is the partition key
abbrev pub is_primary : NewTable → NewColumn → Bool
is_primary s c = list_any (λ k. k.primary && same_text k.column c.name) (new_keys s)

abbrev pub is_partition_key : NewTable → NewColumn → Bool
is_partition_key s c = option_case s.partitioning false (λ p. same_text p.column c.name)

-- the column is NOT NULL: that is written, or it is the primary key or the partition key
abbrev pub declared_not_null : NewTable → NewColumn → Bool
declared_not_null s c = list_any is_not_null_mark c.marks || (is_primary s c || is_partition_key s c)

abbrev pub new_column : NewTable → NewColumn → ColumnDef
new_column s c = record { name = c.name; kind = new_kind c.kind; not_null = declared_not_null s c }

-- ---- refusals

-- the column of this name
abbrev pub column_called : List NewColumn → List ℕ → Option NewColumn
column_called columns name = find (λ c. same_text c.name name) columns

abbrev pub is_no_column : List NewColumn → List ℕ → Bool
is_no_column columns name = is_none (column_called columns name)

-- a column: MV-01 where an earlier one has its name, then MV-04 for a size out of range
abbrev pub new_column_refusal : List ℕ → List NewColumn → NewColumn → Option Refusal
new_column_refusal table earlier c =
    first_some (
    where_true (is_some (column_called earlier c.name)) (NameTaken c.name)
    ∷ where_true (not (size_holds c.kind)) (ValueDoesNotFit table c.name)
    ∷ [])

-- two keys that can't stand together: both are primary, or both are on one column
abbrev pub keys_clash : NewKey → NewKey → Bool
keys_clash j k = (j.primary && k.primary) || same_text j.column k.column

-- a key: MV-03 for an unknown column, then MV-01 where it clashes with an earlier one
abbrev pub new_key_refusal : List NewColumn → List NewKey → NewKey → Option Refusal
new_key_refusal columns earlier k =
    first_some (
    where_true (is_no_column columns k.column) (NoSuchColumn k.column)
    ∷ where_true (list_any (λ j. keys_clash j k) earlier) (NameTaken k.column)
    ∷ [])

-- the column of the parent that is referred to: its primary key where none is named; None where the parent has none such
abbrev pub referred : TableDef → Reference → Option ℕ
referred parent r = option_case r.column parent.primary (column_number parent)

-- the column is a key of this kind
abbrev pub is_key_of_sort : TableDef → ℕ → Sort → Bool
is_key_of_sort parent c sort = is_key parent c && agrees (part_sort parent (Col c)) sort

-- what is referred to in the parent is a key of this kind
abbrev pub refers_to_key : TableDef → Reference → Sort → Bool
refers_to_key parent r sort = option_case (referred parent r) false (λ c. is_key_of_sort parent c sort)

-- the kind of a column of the new table
abbrev pub new_column_sort : List NewColumn → List ℕ → Sort
new_column_sort columns name = option_case (column_called columns name) IsAny (λ c. sort_of_kind (new_kind c.kind))

-- the table that is referred to
abbrev pub parent_def : List TableDef → Reference → Option TableDef
parent_def defs r = find (λ d. same_text d.name r.table) defs

-- a foreign key: MV-03 for its column, MV-02 for its parent, MV-27 where what it refers to is no key of its kind. It can't
-- refer to its own table, which isn't there yet
abbrev pub foreign_refusal : List TableDef → List ℕ → List NewColumn → NewForeign → Option Refusal
foreign_refusal defs table columns f =
    let sort = new_column_sort columns f.column in
    let parent = parent_def defs f.reference in
    first_some (
    where_true (is_no_column columns f.column) (NoSuchColumn f.column)
    ∷ where_true (is_none parent) (NoSuchObject f.reference.table)
    ∷ where_true (not (option_case parent false (λ d. refers_to_key d f.reference sort))) (NotAKey table f.column)
    ∷ [])

-- ---- bounds of partitions

-- the upper bound of a partition; None is MAXVALUE
abbrev pub new_bound : NewRange → Option Value
new_bound r = option_map literal_value r.below

-- a bound is a value that the column may hold, and not NULL
abbrev pub bound_fits : Kind → Option Value → Bool
bound_fits k below = option_case below true (λ v. not_null v && fits_kind k v)

-- the second bound is above the first; MAXVALUE is above every value, and nothing is above it
abbrev pub is_above : Option Value → Option Value → Bool
is_above None below = false
is_above (Some v) None = true
is_above (Some v) (Some w) = is_lt (value_cmp v w)

-- the bound is above the last of those before it
abbrev pub is_above_last : List (Option Value) → Option Value → Bool
is_above_last bounds below = option_case (last bounds) true (λ b. is_above b below)

-- a partition behind those with these bounds, where the key is this column: MV-04 with the column for a bound that it may
-- not hold, then MV-11 for a bound that isn't above the last one
abbrev pub bound_refusal : List ℕ → List ℕ → Kind → List (Option Value) → NewRange → Option Refusal
bound_refusal table column k bounds r =
    first_some (
    where_true (not (bound_fits k (new_bound r))) (ValueDoesNotFit table column)
    ∷ where_true (not (is_above_last bounds (new_bound r))) (PartitionBound table r.name)
    ∷ [])

-- a partition of a new table: MV-01 where an earlier one has its name, and then its bound
abbrev pub new_range_refusal : List ℕ → List ℕ → Kind → List NewRange → NewRange → Option Refusal
new_range_refusal table column k earlier r =
    first_some (
    where_true (list_any (λ e. same_text e.name r.name) earlier) (NameTaken r.name)
    ∷ bound_refusal table column k (map new_bound earlier) r
    ∷ [])

-- the kind of the column that the table is partitioned by
abbrev pub kind_of_new : List NewColumn → List ℕ → Kind
kind_of_new columns name = option_case (column_called columns name) (kind.Number 15) (λ c. new_kind c.kind)

-- PARTITION BY: MV-03 for its column, then the partitions
abbrev pub partitioning_refusal : List ℕ → List NewColumn → Partitioning → Option Refusal
partitioning_refusal table columns p =
    first_some (
    where_true (is_no_column columns p.column) (NoSuchColumn p.column)
    ∷ first_in_turn (new_range_refusal table p.column (kind_of_new columns p.column)) p.ranges
    ∷ [])

-- ---- the whole statement

-- the most tables, views and dimensions of each kind, columns of a table, partitions of a table
abbrev pub max_objects : ℕ
max_objects = 64

abbrev pub max_columns : ℕ
max_columns = 16

abbrev pub max_parts : ℕ
max_parts = 256

-- the partitions of the table, in order
abbrev pub new_ranges : NewTable → List NewRange
new_ranges s = option_case s.partitioning [] (λ p. p.ranges)

-- the first refusal: MV-01 for the table's name among `taken`, the names of all tables, views and dimensions; MV-16 for
-- tables, columns and partitions; then the columns, the keys, the foreign keys, the partition key and the partitions
abbrev pub define_refusal : List (List ℕ) → List TableDef → NewTable → Option Refusal
define_refusal taken defs s =
    let columns = new_columns s in
    first_some (
    where_true (has_text taken s.name) (NameTaken s.name)
    ∷ where_true (nat_le max_objects (length defs)) (TooManyObjects Tables)
    ∷ where_true (nat_lt max_columns (length columns)) (TooManyObjects Columns)
    ∷ where_true (nat_lt max_parts (length (new_ranges s))) (TooManyObjects Partitions)
    ∷ first_in_turn (new_column_refusal s.name) columns
    ∷ first_in_turn (new_key_refusal columns) (new_keys s)
    ∷ first_of (foreign_refusal defs s.name columns) (new_foreign s)
    ∷ option_and_then (partitioning_refusal s.name columns) s.partitioning
    ∷ [])

-- ---- the table that is made

-- the place of a column in the new table
abbrev pub new_place : NewTable → List ℕ → Option ℕ
new_place s name = position (λ c. same_text c.name name) (new_columns s)

-- a foreign key of the new table to a column of the table with this number
abbrev pub foreign_to : List TableDef → NewTable → NewForeign → ℕ → Option ForeignDef
foreign_to defs s f n =
    option_map (λ to. record { column = unwrap_or (new_place s f.column) 0; table = n; to = to; rely = f.reference.rely }) (referred (def_at defs n) f.reference)

abbrev pub foreign_def : List TableDef → NewTable → NewForeign → Option ForeignDef
foreign_def defs s f = option_and_then (foreign_to defs s f) (table_number defs f.reference.table)

-- the definition of the new table: its columns, keys and foreign keys in declared order
abbrev pub table_def : List TableDef → NewTable → TableDef
table_def defs s =
    record {
      name = s.name;
      columns = map (new_column s) (new_columns s);
      keys = filter_map (λ k. new_place s k.column) (new_keys s);
      primary = option_and_then (λ k. new_place s k.column) (find (λ k. k.primary) (new_keys s));
      foreign = filter_map (foreign_def defs s) (new_foreign s);
      part_key = option_and_then (λ p. new_place s p.column) s.partitioning;
      movement = s.movement;
    }

-- partitions are numbered as they are made, from 1
abbrev pub numbered_parts : ℕ → List NewRange → List Part
numbered_parts n [] = []
numbered_parts n (r ∷ rs) = record { name = r.name; number = n; below = new_bound r } ∷ numbered_parts (suc n) rs

-- the new table, with no rows
abbrev pub defined : List TableDef → NewTable → Table
defined defs s = record { def = table_def defs s; rows = []; given = 0; parts = numbered_parts 1 (new_ranges s); made = length (new_ranges s) }

-- the base state with the new table at its end, or the first refusal
abbrev pub define_table : List (List ℕ) → Base → NewTable → Result Base Refusal
define_table taken base s = unless (define_refusal taken (defs_of base) s) (base ++ defined (defs_of base) s ∷ [])
