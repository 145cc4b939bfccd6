-- Which live rows the open block made: the live versions that were born at its SCN, and the rows that its changes wrote.
use Rattle.std.specs.List.{count_by, filter, filter_map, list_any, sum_by}
use Rattle.std.specs.Prelude.{◌≡◌, Bool, List, Some, false, is_some, length, map, slice_get, true, ℕ, ◌&&◌, ◌==◌}
use Rattle.def_effect.specs.Block.{same_place, written_row}
use Rattle.wh_base.specs.Lists.{option_case}
use Rattle.wh_base.specs.Tables.{TableChange}
use Rattle.wh_dml.specs.Changes.{change_of}
use Rattle.wh_dml.specs.declared.changes.RowChange.{RowChange}
use Rattle.wh_segment.specs.Versions.{is_live}
use Rattle.wh_segment.specs.declared.version.Version.{Version}
use Rattle.wh_table.specs.Stored.{Stored}

-- ---- in tables

-- the version is live and was made at this SCN
abbrev pub is_fresh : ℕ → Version → Bool
is_fresh scn v = is_live v && (v.born == scn)

abbrev pub fresh_in : ℕ → Stored → ℕ
fresh_in scn s = length (filter (is_fresh scn) s.versions)

abbrev pub fresh_of : ℕ → List Stored → ℕ
fresh_of scn tables = sum_by (fresh_in scn) tables

-- the live version at a place was made at this SCN
abbrev pub fresh_at : ℕ → Stored → ℕ → Bool
fresh_at scn s place = option_case (slice_get s.versions place) false (is_fresh scn)

-- ---- by changes

-- the changes of the definitions that these changes of the table with this number are
abbrev pub change_made : ℕ → RowChange → TableChange
change_made n c = record { table = n; change = change_of c }

abbrev pub changes_made : ℕ → List RowChange → List TableChange
changes_made n cs = map (change_made n) cs

-- the change brings a row
abbrev pub brings : RowChange → Bool
brings c = is_some c.new

-- the change takes away, or gives new values to, a row of this table that was made at this SCN
abbrev pub takes_fresh : ℕ → Stored → RowChange → Bool
takes_fresh scn s c = option_case c.old false (λ q. fresh_at scn s q.place)

abbrev pub fresh_come : List RowChange → ℕ
fresh_come cs = count_by brings cs

abbrev pub fresh_gone : ℕ → Stored → List RowChange → ℕ
fresh_gone scn s cs = count_by (takes_fresh scn s) cs

-- ---- both

-- the changes inserted or updated the row of this table with this rowid
abbrev pub was_written : List TableChange → ℕ → ℕ → Bool
was_written changes n rowid = list_any (same_place (n, rowid)) (filter_map written_row changes)

-- A live row was made at this SCN exactly where the changes wrote it.
pub record AreMarked (scn : ℕ) (tables : List Stored) (changes : List TableChange) : Type 0 where
  pub marked : (n place : ℕ) (s : Stored) (v : Version) → slice_get tables n ≡ Some s → slice_get s.versions place ≡ Some v → is_live v ≡ true → (v.born == scn) ≡ was_written changes n v.rowid
