-- A base state: the tables with their rows as lists, and their partitions.
use Rattle.std.specs.Ordering.{nat_cmp}
use Rattle.std.specs.List.{list_all}
use Rattle.std.specs.Prelude.{◌<◌, ◌≡◌, length, IsTrue, Bool, List, None, Option, Some, [], count_by, false, filter, find, fold, is_none, is_some, map, not, option_map, position, slice_get, suc, true, unwrap_or, zero, ℕ, ◌&&◌, ◌++◌, ◌+◌, ◌==◌, ◌∷◌}
use Rattle.std.specs.declared.cmp.Ordering.{Ordering}
use Rattle.wh_base.specs.Lists.{change_where, has_number, option_case, same_text, sorted_by}
use Rattle.wh_base.specs.Values.{interval_has, is_small}
use Rattle.wh_base.specs.declared.columns.ColPart.{ColPart}
use Rattle.wh_base.specs.declared.columns.ColPart.TheVariants.{Col, Mark, RowId}
use Rattle.wh_base.specs.declared.columns.ColRef.{ColRef}
use Rattle.wh_base.specs.declared.tables.Change.{Change}
use Rattle.wh_base.specs.declared.tables.Part.{Part}
use Rattle.wh_base.specs.declared.tables.RowAt.{RowAt}
use Rattle.wh_base.specs.declared.tables.TableDef.{TableDef}
use Rattle.wh_base.specs.declared.values.Interval.{Interval}
use Rattle.wh_base.specs.declared.values.Value.{Value}
use Rattle.wh_base.specs.declared.values.Value.TheVariants.{Null}

pub record Row : Type 0 where
  pub rowid : ℕ
  pub values : List Value

-- a table: its definition, its rows by ascending rowid, how many rowids were given, its partitions from the lowest on, and how many were made
pub record Table : Type 0 where
  pub def : TableDef
  pub rows : List Row
  pub given : ℕ
  pub parts : List Part
  pub made : ℕ

-- the tables in the order of creation; a table's number is its place
abbrev pub Base : Type 0
Base = List Table

-- the value at a place, NULL past the end
abbrev pub value_at : List Value → ℕ → Value
value_at vs i = unwrap_or (slice_get vs i) Null

-- ---- partitions

-- each partition with its interval: from the bound below it, or no bound, up to its own
abbrev pub with_intervals : Option Value → List Part → List (Part × Interval)
with_intervals lo [] = []
with_intervals lo (p ∷ ps) = (p, record { lo = lo; hi = p.below }) ∷ with_intervals p.below ps

abbrev pub part_intervals : Table → List (Part × Interval)
part_intervals t = with_intervals None t.parts

-- the partition with the key in its interval
abbrev pub part_of_key : Table → Value → Option (Part × Interval)
part_of_key t key = find (λ p. interval_has p.1 key) (part_intervals t)

-- the key of the partitions in a row, and none without partitions
abbrev pub row_key : Table → List Value → Option Value
row_key t vs = option_map (value_at vs) t.def.part_key

-- the number of the row's partition, and 0 without partitions
abbrev pub mark_of : Table → List Value → ℕ
mark_of t vs = option_case (row_key t vs) 0 (λ key. option_case (part_of_key t key) 0 (λ p. p.0.number))

-- the row as a tuple has it
abbrev pub row_at : Table → Row → RowAt
row_at t r = record { rowid = r.rowid; mark = mark_of t r.values; values = r.values }

-- ---- rows at places, as a store has them

-- the places of a table, with the row at each that lives
abbrev pub Places : Type 0
Places = List (Option RowAt)

-- the places of a table; none where the table isn't there
abbrev pub places_of : List Places → ℕ → Places
places_of tables n = unwrap_or (slice_get tables n) []

-- the row at a place of a table, where one lives there
abbrev pub place_of : List Places → ℕ → ℕ → Option RowAt
place_of tables n place = unwrap_or (slice_get (places_of tables n) place) None

abbrev pub live_rows : Places → List RowAt
live_rows [] = []
live_rows (None ∷ places) = live_rows places
live_rows (Some r ∷ places) = r ∷ live_rows places

abbrev pub rowid_cmp : RowAt → RowAt → Ordering
rowid_cmp a b = nat_cmp a.rowid b.rowid

-- the rows that live, by ascending rowid
abbrev pub rows_shown : List Places → ℕ → List RowAt
rows_shown tables n = sorted_by rowid_cmp (live_rows (places_of tables n))

-- how many rows of a table live at the most
abbrev pub most_live : ℕ
most_live = 262144

-- the rowids of these rows differ
abbrev pub HaveRowids : List RowAt → Type 0
HaveRowids rows = (m n : ℕ) → m < n → n < length rows → slice_get (map (λ r. r.rowid) rows) m ≡ slice_get (map (λ r. r.rowid) rows) n → ⊥

-- each number in these rows is below 10^15 in size
abbrev pub AreSmall : List RowAt → Type 0
AreSmall rows = IsTrue (list_all (λ r. list_all is_small r.values) rows)

-- ---- names

abbrev pub table_number : List TableDef → List ℕ → Option ℕ
table_number defs name = position (λ d. same_text d.name name) defs

abbrev pub column_number : TableDef → List ℕ → Option ℕ
column_number d name = position (λ c. same_text c.name name) d.columns

abbrev pub defs_of : Base → List TableDef
defs_of base = map (λ t. t.def) base

abbrev pub empty_def : TableDef
empty_def = record { name = []; columns = []; keys = []; primary = None; foreign = []; part_key = None; movement = false }

abbrev pub def_at : List TableDef → ℕ → TableDef
def_at defs n = unwrap_or (slice_get defs n) empty_def

abbrev pub empty_table : Table
empty_table = record { def = empty_def; rows = []; given = 0; parts = []; made = 0 }

abbrev pub table_at : Base → ℕ → Table
table_at base n = unwrap_or (slice_get base n) empty_table

abbrev pub column_name : TableDef → ℕ → List ℕ
column_name d c = option_case (slice_get d.columns c) [] (λ column. column.name)

abbrev pub is_key : TableDef → ℕ → Bool
is_key d c = has_number d.keys c

-- the column can't be NULL: it is declared so, or is ROWID or PMARKER
abbrev pub never_null_part : TableDef → ColPart → Bool
never_null_part d (Col n) = option_case (slice_get d.columns n) false (λ column. column.not_null)
never_null_part d RowId = true
never_null_part d Mark = true

abbrev pub never_null : List TableDef → ColRef → Bool
never_null defs c = never_null_part (def_at defs c.table) c.part

-- ---- changes

-- a change of a table
pub record TableChange : Type 0 where
  pub table : ℕ
  pub change : Change

-- the rows after a change: without the row, with one more, or with new values for its rowid
abbrev pub rows_after : List Row → Change → List Row
rows_after rows c = after c.old c.new
  where
    after : Option (List Value) → Option (List Value) → List Row
    after old None = filter (λ r. not (r.rowid == c.rowid)) rows
    after None (Some new) = rows ++ record { rowid = c.rowid; values = new } ∷ []
    after (Some old) (Some new) = change_where (λ r. r.rowid == c.rowid) (λ r. record { rowid = r.rowid; values = new }) rows

abbrev pub is_insert : Change → Bool
is_insert c = is_none c.old && is_some c.new

-- a delete, or an update
abbrev pub is_removal : Change → Bool
is_removal c = is_some c.old

abbrev pub table_after : Table → List Change → Table
table_after t changes = record t { rows = fold rows_after t.rows changes; given = t.given + count_by is_insert changes }

abbrev pub with_table : Base → ℕ → Table → Base
with_table [] n t = []
with_table (u ∷ us) zero t = t ∷ us
with_table (u ∷ us) (suc n) t = u ∷ with_table us n t
