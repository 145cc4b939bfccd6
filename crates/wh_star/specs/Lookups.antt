-- What is kept for look-ups, and what they find in it.
use Rattle.indexmap.specs.IndexMap.{insert_entry}
use Rattle.std.specs.List.{filter, filter_map}
use Rattle.std.specs.Map.{lookup}
use Rattle.std.specs.Ordering.{eq_by_cmp}
use Rattle.std.specs.Prelude.{Bool, List, None, Option, Some, [], cond, length, map, not, option_map, sum_by, true, unwrap_or, slice_get, ℕ, ◌++◌, ◌==◌, ◌∷◌}
use Rattle.def_meaning.specs.Joined.{column_value, conditions_true, part_value}
use Rattle.def_meaning.specs.Ranges.{Seen, admitted_parts, admitted_rows, misses}
use Rattle.wh_base.specs.Lists.{has_number, option_case}
use Rattle.wh_base.specs.Tables.{Places, live_rows, places_of, rows_shown, with_intervals}
use Rattle.wh_base.specs.Values.{is_null, value_cmp}
use Rattle.wh_base.specs.declared.columns.ColPart.{ColPart}
use Rattle.wh_base.specs.declared.columns.ColPart.TheVariants.{Col}
use Rattle.wh_base.specs.declared.queries.Edge.{Edge}
use Rattle.wh_base.specs.declared.queries.StarQuery.{StarQuery}
use Rattle.wh_base.specs.declared.tables.Part.{Part}
use Rattle.wh_base.specs.declared.tables.RowAt.{RowAt}
use Rattle.wh_base.specs.declared.values.Value.{Value}

-- ---- an index of rows by the value of a column

-- the rows by their values, each value once
abbrev pub Entries : Type 0
Entries = List (Value × RowAt)

-- one more row, unless its value is NULL; an earlier row with the value gives way
abbrev pub entry_added : ColPart → Entries → RowAt → Entries
entry_added part entries r =
    cond (is_null (part_value r part)) entries (insert_entry (eq_by_cmp value_cmp) entries (part_value r part) r)

-- these rows one after another
abbrev pub indexed_onto : ColPart → Entries → List RowAt → Entries
indexed_onto part entries [] = entries
indexed_onto part entries (r ∷ rs) = indexed_onto part (entry_added part entries r) rs

abbrev pub indexed : ColPart → List RowAt → Entries
indexed part rows = indexed_onto part [] rows

-- the row with this value; none for NULL
abbrev pub row_under : Entries → Value → Option RowAt
row_under entries v = cond (is_null v) None (lookup (eq_by_cmp value_cmp v) entries)

-- ---- tuples

-- the index of the table that each of these joins leads to
abbrev pub indexes_of : List Places → List Edge → List Entries
indexes_of tables edges = map (λ e. indexed e.to.part (live_rows (places_of tables e.to.table))) edges

-- the rows of the first of these tables, and then the row of each further table, each by the index of its join
abbrev pub completed_by : List Entries → List ℕ → List RowAt → List Edge → Option (List RowAt)
completed_by indexes tables tuple [] = Some tuple
completed_by [] tables tuple (e ∷ es) = None
completed_by (i ∷ is) tables tuple (e ∷ es) =
    option_case (row_under i (column_value tables tuple e.from)) None (λ r. completed_by is tables (tuple ++ r ∷ []) es)

-- the tuples from these rows of the root, those in which every condition is true
abbrev pub tuples_from : StarQuery → List Entries → List RowAt → List (List RowAt)
tuples_from q indexes roots =
    filter (λ tuple. conditions_true (column_value q.tables tuple) q.conditions)
    (filter_map (λ r. completed_by indexes q.tables (r ∷ []) q.edges) roots)

-- ---- the rows that are read

-- a row is read: its partition is one of these, or all are read
abbrev pub is_read : Option (List ℕ) → RowAt → Bool
is_read numbers r = option_case numbers true (λ ns. has_number ns r.mark)

-- those of these rows that are read
abbrev pub rows_in : Option (List ℕ) → List RowAt → List RowAt
rows_in numbers rows = filter (is_read numbers) rows

-- the numbers of the admitted ones among these partitions of the root, of which the first begins with this bound
abbrev pub admitted_from : StarQuery → ℕ → Option Value → List Part → List ℕ
admitted_from q key lo parts =
    map (λ p. p.0.number) (filter (λ p. not (misses q (record { table = q.root; part = Col key }) p.1)) (with_intervals lo parts))

-- the numbers of the partitions of the root that are read; all, where it has no partitions
abbrev pub root_parts : StarQuery → Option ℕ → List Part → Option (List ℕ)
root_parts q key parts = option_map (admitted_parts q parts) key

-- the place of a table's partition key, and its partitions, from the lowest on
abbrev pub key_of_parts : List (Option ℕ) → ℕ → Option ℕ
key_of_parts keys n = unwrap_or (slice_get keys n) None

abbrev pub parts_of : List (List Part) → ℕ → List Part
parts_of partitions n = unwrap_or (slice_get partitions n) []

-- the rows of the root in its admitted partitions, in the order of their places
abbrev pub root_rows : StarQuery → List Places → List (Option ℕ) → List (List Part) → List RowAt
root_rows q tables keys partitions =
    rows_in (root_parts q (key_of_parts keys q.root) (parts_of partitions q.root)) (live_rows (places_of tables q.root))

-- the rows of the table that a join leads to, in the order of their places
abbrev pub far_rows : List Places → Edge → List RowAt
far_rows tables e = live_rows (places_of tables e.to.table)

-- how many rows the tables that these joins lead to have
abbrev pub far_reads : List Places → List Edge → ℕ
far_reads tables edges = sum_by (λ e. length (far_rows tables e)) edges

-- what an evaluation sees of a table of a store
abbrev pub seen_in : List Places → List (Option ℕ) → List (List Part) → ℕ → Seen
seen_in tables keys partitions n = record { rows = rows_shown tables n; part_key = key_of_parts keys n; parts = parts_of partitions n }

-- the rows that the base plan reads of a table of the query: those of the root's admitted partitions and all of every other table
abbrev pub rows_seen : StarQuery → (ℕ → Seen) → ℕ → List RowAt
rows_seen q see n = cond (n == q.root) (admitted_rows q (see n)) (see n).rows
