-- One statement of a block: the second and the third step, and the tables with its changes.
use Rattle.std.specs.List.{All, list_all}
use Rattle.std.specs.Prelude.{◌≡◌, ◌≤◌, Bool, Err, IsTrue, List, None, Ok, Option, Result, [], cond, false, filter, is_none, length, map, nat_lt, true, ℕ, ◌++◌, ◌+◌, ◌^◌, ◌∷◌}
use Rattle.def_effect.specs.Block.{Asks, Progress, Stopped, changed_row_refusal, run_statement}
use Rattle.def_effect.specs.Block as effect
use Rattle.wh_base.specs.Lists.{first_of, first_some, option_case, where_true}
use Rattle.wh_base.specs.Tables.{Table, TableChange, most_live}
use Rattle.wh_base.specs.Values.{is_small}
use Rattle.wh_base.specs.declared.replies.Refusal.{Refusal}
use Rattle.wh_base.specs.declared.replies.Refusal.TheVariants.{TableFull, VersionsFull}
use Rattle.wh_base.specs.declared.statements.Statement.{Statement}
use Rattle.wh_base.specs.declared.tables.TableDef.{TableDef}
use Rattle.wh_check.specs.Fresh.{AreMarked, changes_made, fresh_come, fresh_of}
use Rattle.wh_check.specs.Rows.{row_refusal}
use Rattle.wh_check.specs.declared.statement.Made.{Made}
use Rattle.wh_check.specs.declared.statement.Stop.{Stop}
use Rattle.wh_constraints.specs.Constraints.{AreRight, keys_refusal}
use Rattle.wh_dml.specs.Changes.{change_of}
use Rattle.wh_dml.specs.Placed.{IsNext}
use Rattle.wh_dml.specs.declared.changes.RowChange.{RowChange}
use Rattle.wh_image.specs.Laws.{is_in}
use Rattle.wh_image.specs.Standing.{changed_at, is_change}
use Rattle.wh_keys.specs.Indexes.{Indexes}
use Rattle.wh_table.specs.Kept.{defs_of}
use Rattle.wh_table.specs.Stored.{Stored, base_seen, live_count}

-- ---- the tables of a block

-- no table has partitions
pub record AreWhole (tables : List Stored) : Type 0 where
  pub all : All (λ s. s.def.part_key ≡ None) tables

-- ---- changes

-- how many of the changes insert a row
abbrev pub inserts_in : List RowChange → ℕ
inserts_in cs = length (filter (λ c. is_none c.old) cs)

-- the numbers of each new row are below 10^15 in size
abbrev pub is_small_change : RowChange → Bool
is_small_change c = option_case c.new true (λ r. list_all is_small r.values)

-- the first value of the new row that its column may not hold
abbrev pub change_refusal : TableDef → RowChange → Option Refusal
change_refusal d c = option_case c.new None (λ r. row_refusal d r.values)

abbrev pub changes_refusal : TableDef → List RowChange → Option Refusal
changes_refusal d cs = first_of (change_refusal d) cs

-- the changes leave more rows in the table than it may have: none of them inserts a row, or all do
abbrev pub room_refusal : Stored → List RowChange → Option Refusal
room_refusal s cs = where_true (nat_lt effect.max_rows (live_count s + inserts_in cs)) (TableFull s.def.name)

-- the first refusal of the changes of the table with this number before they are made
abbrev pub asked_refusal : ℕ → List Stored → ℕ → Stored → List RowChange → Option Refusal
asked_refusal scn tables n s cs = first_some (changes_refusal s.def cs ∷ keys_refusal scn tables n cs ∷ room_refusal s cs ∷ [])

-- the table has a place for each row that the changes bring
abbrev pub has_places : Stored → List RowChange → Bool
has_places s cs = nat_lt (length s.versions + fresh_come cs) (2 ^ 32)

-- more row versions are kept than may be
abbrev pub versions_refusal : Stored → ℕ → Option Refusal
versions_refusal s versions = where_true (nat_lt effect.max_versions versions) (VersionsFull s.def.name)

-- The change can be made in the table: it fits, there is room for a new row, and the numbers in it are small.
pub record CanMake (s : Stored) (c : RowChange) : Type 0 where
  pub next : IsNext s c
  pub room : live_count s + cond (is_none c.old) 1 0 ≤ most_live
  pub small : IsTrue (is_small_change c)

-- Where a row of these changes is not refused, its numbers are small. They all insert rows, or none does, and then they are no more than the table's rows.
pub record HaveShape (t : Table) (cs : List RowChange) : Type 0 where
  pub small : All (λ c. changed_row_refusal t (change_of c) ≡ None → IsTrue (is_small_change c)) cs
  pub inserts : Bool
  pub alike : All (λ c. is_none c.old ≡ inserts) cs
  pub few : inserts ≡ false → length cs ≤ length t.rows

-- That is so of the changes once none of them is refused in the second step.
pub record HaveShapeOnceFit (t : Table) (cs : List RowChange) : Type 0 where
  pub once : first_of (changed_row_refusal t) (map change_of cs) ≡ None → HaveShape t cs

-- ---- what comes of a statement

-- what a block has done when it comes to a statement over these tables: the changes that it made, how many rows it scanned, and how many it changed
abbrev pub done_at : ℕ → List Stored → List TableChange → ℕ → ℕ → Progress
done_at scn tables changes scanned rows = record { base = base_seen scn tables; changes = changes; scanned = scanned; rows = rows }

-- what a statement asks of the definitions
abbrev pub asks_of : ℕ → List RowChange → ℕ → Asks
asks_of n cs scanned = record { table = n; changes = map change_of cs; scanned = scanned }

-- A step of a block goes through over these tables: it leaves those tables, and what the block has done has these changes and so many changed rows more.
pub record Goes (step : ℕ → Progress → Result Progress Stopped) (scn kept : ℕ) (before after : List Stored) (rows fresh read : ℕ) : Type 0 where
  pub table : ℕ
  pub changes : List RowChange
  pub is : (at : ℕ) (done : List TableChange) (scanned changed : ℕ) → AreMarked scn before done
      → step at (done_at scn before done scanned changed) ≡ Ok (done_at scn after (done ++ changes_made table changes) (scanned + read) (changed + rows))
  pub marked : (done : List TableChange) → AreMarked scn before done → AreMarked scn after (done ++ changes_made table changes)
  pub fresh_is : fresh ≡ fresh_of scn after
  pub few : kept + fresh ≤ effect.max_versions
  pub few_rows : rows ≤ effect.max_rows
  pub defs : defs_of after ≡ defs_of before
  pub moved : (m : ℕ) → changed_at after m ≡ cond (is_in (changes_made table changes) m) scn (changed_at before m)
  pub noted : All (λ d. is_change d.change ≡ true) (changes_made table changes)

-- The step is refused over these tables.
pub record Fails (step : ℕ → Progress → Result Progress Stopped) (scn : ℕ) (before : List Stored) (code : Refusal) (read : ℕ) : Type 0 where
  pub is : (at : ℕ) (done : List TableChange) (scanned changed : ℕ) → AreMarked scn before done
      → step at (done_at scn before done scanned changed) ≡ Err (record { at = at; code = code; scanned = scanned + read })

abbrev pub Ends : (ℕ → Progress → Result Progress Stopped) → ℕ → ℕ → List Stored → List Stored → Result Made Stop → Type 0
Ends step scn kept before after (Ok made) = Goes step scn kept before after made.rows made.fresh made.read
Ends step scn kept before after (Err stop) = Fails step scn before stop.code stop.read

-- a statement of a block, and what is asked of a table
abbrev pub ask_step : ℕ → Asks → ℕ → Progress → Result Progress Stopped
ask_step kept a at p = effect.make_changes kept at p a

abbrev pub statement_step : ℕ → Statement → ℕ → Progress → Result Progress Stopped
statement_step kept s at p = run_statement kept at p s

-- how many rows a statement scanned
abbrev pub read_in : Result Made Stop → ℕ
read_in (Ok made) = made.read
read_in (Err stop) = stop.read

-- the indexes are those of the tables that a statement leaves
abbrev pub StayRight : ℕ → List Stored → List Indexes → Result Made Stop → Type 0
StayRight scn tables all (Ok made) = AreRight scn tables all
StayRight scn tables all (Err stop) = Unit {0}
