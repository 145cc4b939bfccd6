-- The table that a statement makes, with its partitions, and the steps in which its first refusal is found.
use Rattle.std.specs.List.{list_any}
use Rattle.std.specs.Prelude.{List, Option, Result, [], false, filter_map, find, length, map, nat_le, nat_lt, option_and_then, option_map, unwrap_or, ℕ, ◌&&◌, ◌||◌, ◌∷◌}
use Rattle.def_effect.specs.Define.{define_refusal, foreign_refusal, is_not_null_mark, max_columns, max_objects, max_parts, new_column_refusal, new_key_refusal, new_kind, new_ranges, numbered_parts, partitioning_refusal, referred, table_def}
use Rattle.def_resolve.specs.Earlier.{first_in_turn}
use Rattle.wh_base.specs.Lists.{first_of, first_some, option_case, same_text, unless, where_true}
use Rattle.wh_base.specs.Tables.{def_at, table_number}
use Rattle.wh_base.specs.declared.replies.Counted.{Counted}
use Rattle.wh_base.specs.declared.replies.Counted.TheVariants.{Columns, Partitions, Tables}
use Rattle.wh_base.specs.declared.replies.Refusal.{Refusal}
use Rattle.wh_base.specs.declared.replies.Refusal.TheVariants.{TooManyObjects}
use Rattle.wh_base.specs.declared.statements.NewColumn.{NewColumn}
use Rattle.wh_base.specs.declared.statements.NewForeign.{NewForeign}
use Rattle.wh_base.specs.declared.statements.NewKey.{NewKey}
use Rattle.wh_base.specs.declared.statements.NewTable.{NewTable}
use Rattle.wh_base.specs.declared.statements.Partitioning.{Partitioning}
use Rattle.wh_base.specs.declared.tables.ColumnDef.{ColumnDef}
use Rattle.wh_base.specs.declared.tables.ForeignDef.{ForeignDef}
use Rattle.wh_base.specs.declared.tables.Part.{Part}
use Rattle.wh_base.specs.declared.tables.TableDef.{TableDef}
use Rattle.wh_define.specs.Places.{place_in}
use Rattle.wh_define.specs.declared.define.Defined.{Defined}

-- a foreign key of a table with these columns, to a column of the table with this number
abbrev pub foreign_onto : List TableDef → List NewColumn → NewForeign → ℕ → Option ForeignDef
foreign_onto defs columns f n =
    option_map (λ to. record { column = unwrap_or (place_in columns f.column) 0; table = n; to = to; rely = f.reference.rely }) (referred (def_at defs n) f.reference)

abbrev pub foreign_from : List TableDef → List NewColumn → NewForeign → Option ForeignDef
foreign_from defs columns f = option_and_then (foreign_onto defs columns f) (table_number defs f.reference.table)

-- a column of a table with these keys and this PARTITION BY
abbrev pub column_from : List NewKey → Option Partitioning → NewColumn → ColumnDef
column_from keys by c =
    record {
      name = c.name;
      kind = new_kind c.kind;
      not_null = list_any is_not_null_mark c.marks || (list_any (λ k. k.primary && same_text k.column c.name) keys || option_case by false (λ p. same_text p.column c.name));
    }

-- the definition of the table with these columns, keys and foreign keys
abbrev pub table_from : List TableDef → NewTable → List NewColumn → List NewKey → List NewForeign → TableDef
table_from defs s columns keys foreign =
    record {
      name = s.name;
      columns = map (column_from keys s.partitioning) columns;
      keys = filter_map (λ k. place_in columns k.column) keys;
      primary = option_and_then (λ k. place_in columns k.column) (find (λ k. k.primary) keys);
      foreign = filter_map (foreign_from defs columns) foreign;
      part_key = option_and_then (λ p. place_in columns p.column) s.partitioning;
      movement = s.movement;
    }

-- ---- the first refusal, step by step

-- what there is too many of: so many tables are there, and so many columns and partitions are written
abbrev pub counted : ℕ → ℕ → ℕ → Option Counted
counted tables columns parts =
    first_some (
    where_true (nat_le max_objects tables) Tables
    ∷ where_true (nat_lt max_columns columns) Columns
    ∷ where_true (nat_lt max_parts parts) Partitions
    ∷ [])

-- of the columns, the keys and the foreign keys
abbrev pub lists_refusal : List TableDef → List ℕ → List NewColumn → List NewKey → List NewForeign → Option Refusal
lists_refusal defs table columns keys foreign =
    first_some (
    first_in_turn (new_column_refusal table) columns
    ∷ first_in_turn (new_key_refusal columns) keys
    ∷ first_of (foreign_refusal defs table columns) foreign
    ∷ [])

-- the partitions, or the refusal of PARTITION BY
abbrev pub parts_from : NewTable → List NewColumn → Result (List Part) Refusal
parts_from s columns = unless (option_and_then (partitioning_refusal s.name columns) s.partitioning) (numbered_parts 1 (new_ranges s))

-- the table with its partitions, or its first refusal, where no other thing has its name
abbrev pub defined_from : List TableDef → NewTable → List NewColumn → List NewKey → List NewForeign → Result Defined Refusal
defined_from defs s columns keys foreign =
    unless (first_some (
    option_map TooManyObjects (counted (length defs) (length columns) (length (new_ranges s)))
    ∷ lists_refusal defs s.name columns keys foreign
    ∷ option_and_then (partitioning_refusal s.name columns) s.partitioning
    ∷ []))
    (record { def = table_from defs s columns keys foreign; parts = numbered_parts 1 (new_ranges s) })

-- ---- the whole statement

-- the table with its partitions, or the first refusal, among other things of these names
abbrev pub defined_or_refused : List (List ℕ) → List TableDef → NewTable → Result Defined Refusal
defined_or_refused taken defs s = unless (define_refusal taken defs s) (record { def = table_def defs s; parts = numbered_parts 1 (new_ranges s) })
