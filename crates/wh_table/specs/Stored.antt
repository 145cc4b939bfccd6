-- What a table stores, what each call makes of it, and which table of the definitions it is at an SCN.
use Rattle.std.specs.List.{All, list_all}
use Rattle.std.specs.Prelude.{◌≡◌, ◌<◌, ◌≤◌, ◌^◌, ◌&&◌, Bool, IsTrue, List, None, Option, Some, [], cond, filter, length, map, max, nat_le, nat_lt, slice_get, unwrap_or, ℕ, ◌++◌, ◌+◌, ◌∷◌}
use Rattle.wh_base.specs.Lists.{option_case, sorted_by}
use Rattle.wh_base.specs.Tables.{AreSmall, Base, HaveRowids, Places, Row, Table, live_rows, most_live, rowid_cmp}
use Rattle.wh_base.specs.Values.{is_small, number_limit}
use Rattle.wh_base.specs.declared.tables.Change.{Change}
use Rattle.wh_base.specs.declared.tables.RowAt.{RowAt}
use Rattle.wh_base.specs.declared.tables.TableDef.{TableDef}
use Rattle.wh_base.specs.declared.values.Value.{Value}
use Rattle.wh_segment.specs.Versions.{born_at, ended_at, is_live, rows_at}
use Rattle.wh_segment.specs.declared.version.Version.{Version}

-- the definition of the table, the versions of its rows by their places, and how many rowids were given
pub record Stored : Type 0 where
  pub def : TableDef
  pub versions : List Version
  pub given : ℕ

-- ---- at an SCN

-- the rows at their places, as they are at an SCN
abbrev pub places_at : ℕ → Stored → Places
places_at at s = rows_at at s.versions

-- the rows that live at an SCN, in the order of their places
abbrev pub rows_living : ℕ → Stored → List RowAt
rows_living at s = live_rows (places_at at s)

-- the SCN of the last change of a version: of its death, or of its birth while it lives
abbrev pub changed_at : Version → ℕ
changed_at v = max v.born (option_case v.died 0 (λ died. died))

-- the greatest SCN at which a version was born or died; 0 without versions
abbrev pub last_scn : List Version → ℕ
last_scn [] = 0
last_scn (v ∷ vs) = max (changed_at v) (last_scn vs)

-- how many rowids were given by an SCN: as many as the greatest rowid of a version born by then, since they are given in turn
abbrev pub given_at : ℕ → List Version → ℕ
given_at at [] = 0
given_at at (v ∷ vs) = max (cond (nat_le v.born at) v.rowid 0) (given_at at vs)

-- a row as a table of the definitions has it
abbrev pub plain_row : RowAt → Row
plain_row r = record { rowid = r.rowid; values = r.values }

-- the table of the definitions at an SCN: its rows then, by ascending rowid
abbrev pub seen : ℕ → Stored → Table
seen at s =
    record {
      def = s.def;
      rows = map plain_row (sorted_by rowid_cmp (rows_living at s));
      given = given_at at s.versions;
      parts = [];
      made = 0;
    }

-- the base state that these tables are at an SCN
abbrev pub base_seen : ℕ → List Stored → Base
base_seen at tables = map (seen at) tables

-- rowids and the numbers of partitions are below 10^15, as the numbers in the rows are
abbrev pub has_small_numbers : Table → Bool
has_small_numbers t = list_all (λ r. nat_lt r.rowid number_limit) t.rows && list_all (λ p. nat_lt p.number number_limit) t.parts

-- ---- now

-- how many rows live now
abbrev pub live_count : Stored → ℕ
live_count s = length (filter is_live s.versions)

-- the live version at a place
abbrev pub live_at : Stored → ℕ → Option Version
live_at s place = option_case (slice_get s.versions place) None (λ v. cond (is_live v) (Some v) None)

abbrev pub rowid_at : Stored → ℕ → ℕ
rowid_at s place = option_case (slice_get s.versions place) 0 (λ v. v.rowid)

abbrev pub values_at : Stored → ℕ → List Value
values_at s place = option_case (slice_get s.versions place) [] (λ v. unwrap_or v.values [])

-- ---- calls

-- a table without rows
abbrev pub begun : TableDef → Stored
begun def = record { def = def; versions = []; given = 0 }

-- the table with a new row from an SCN on
abbrev pub inserted : ℕ → List Value → Stored → Stored
inserted scn values s = record s { versions = s.versions ++ born_at scn (s.given + 1) 0 values ∷ []; given = s.given + 1 }

-- the table without the row at a place from an SCN on
abbrev pub deleted : ℕ → ℕ → Stored → Stored
deleted scn place s = record s { versions = ended_at place scn s.versions }

-- the table with new values in the row at a place from an SCN on; they have a place of their own
abbrev pub updated : ℕ → ℕ → List Value → Stored → Stored
updated scn place values s = record s { versions = ended_at place scn s.versions ++ born_at scn (rowid_at s place) 0 values ∷ [] }

-- ---- the changes of the definitions that the calls are

abbrev pub insertion : Stored → List Value → Change
insertion s values = record { rowid = s.given + 1; old = None; new = Some values }

abbrev pub deletion : Stored → ℕ → Change
deletion s place = record { rowid = rowid_at s place; old = Some (values_at s place); new = None }

abbrev pub update : Stored → ℕ → List Value → Change
update s place values = record { rowid = rowid_at s place; old = Some (values_at s place); new = Some values }

-- ---- what is true of each table

-- each number in the row is below 10^15 in size
abbrev pub IsSmallRow : List Value → Type 0
IsSmallRow values = IsTrue (list_all is_small values)

-- its rowid is among the first so many, and it is in no partition
pub record IsNamed (given : ℕ) (v : Version) : Type 0 where
  pub first : 1 ≤ v.rowid
  pub last : v.rowid ≤ given
  pub unmarked : v.part ≡ 0

-- At each SCN the rows are no more than a table may have, their rowids differ, and the numbers in them are small. Each rowid was given, and all of them were by the last change. No more rowids
-- were given than there are places, which stay for good and are fewer than 2^32.
pub record IsStored (s : Stored) : Type 0 where
  pub few : (at : ℕ) → length (rows_living at s) ≤ most_live
  pub differ : (at : ℕ) → HaveRowids (rows_living at s)
  pub small : (at : ℕ) → AreSmall (rows_living at s)
  pub named : All (IsNamed s.given) s.versions
  pub given : (at : ℕ) → last_scn s.versions ≤ at → given_at at s.versions ≡ s.given
  pub placed : s.given ≤ length s.versions
  pub bounded : length s.versions < 2 ^ 32

-- that holds of a table of which so many rows live, last changed at an SCN
pub record IsHeld (live changed : ℕ) (s : Stored) : Type 0 where
  pub stored : IsStored s
  pub counted : live ≡ live_count s
  pub latest : changed ≡ last_scn s.versions
