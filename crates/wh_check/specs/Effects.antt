-- What a block makes of tables and their indexes, or where it stops.
use Rattle.std.specs.Prelude.{◌≡◌, ◌+◌, Err, List, Ok, Result, Some, ℕ}
use Rattle.wh_base.specs.declared.replies.Refused.{Refused}
use Rattle.wh_base.specs.declared.statements.Statement.{Statement}
use Rattle.def_effect.specs.Block.{Progress, Stopped, effect, new_versions}
use Rattle.wh_check.specs.declared.block.Checked.{Checked}
use Rattle.wh_constraints.specs.Constraints.{AreRight}
use Rattle.wh_image.specs.Laws.{Leaves}
use Rattle.wh_keys.specs.Indexes.{Indexes}
use Rattle.wh_table.specs.Stored.{Stored, base_seen}

-- The block over these tables goes through: it leaves those tables at the next SCN, changed so many rows, leaves so many kept row versions and scanned so many rows.
pub record Makes (scn : ℕ) (tables : List Stored) (kept : ℕ) (statements : List Statement) (after_scn : ℕ) (after : List Stored) (rows versions read : ℕ) : Type 0 where
  pub progress : Progress
  pub is : effect (base_seen scn tables) kept statements ≡ Ok progress
  pub next : after_scn ≡ scn + 1
  pub leaves : Leaves scn tables after progress
  pub rows_are : rows ≡ progress.rows
  pub versions_are : versions ≡ kept + new_versions progress.base progress.changes
  pub read_is : read ≡ progress.scanned

-- The block over these tables stops, with this refusal at the number of its statement.
pub record Stops (scn : ℕ) (tables : List Stored) (kept : ℕ) (statements : List Statement) (refused : Refused) : Type 0 where
  pub stopped : Stopped
  pub is : effect (base_seen scn tables) kept statements ≡ Err stopped
  pub refused_is : refused ≡ record { code = stopped.code; at = Some stopped.at; read = stopped.scanned }

abbrev pub IsOutcome : {L : Type 0} → ℕ → List Stored → ℕ → List Statement → Result (Checked L) Refused → Type 0
IsOutcome scn tables kept statements (Ok c) = Makes scn tables kept statements c.tables.scn c.tables.tables.items c.rows c.versions c.read
IsOutcome scn tables kept statements (Err r) = Stops scn tables kept statements r

-- how many rows were scanned
abbrev pub read_by : {L : Type 0} → Result (Checked L) Refused → ℕ
read_by (Ok c) = c.read
read_by (Err r) = r.read

-- the indexes are those of the tables that a block leaves
abbrev pub AreKept : {L : Type 0} → List Indexes → Result (Checked L) Refused → Type 0
AreKept now (Ok c) = AreRight c.tables.scn c.tables.tables.items now
AreKept now (Err r) = Unit {0}

-- where the block is refused, they are as they were
abbrev pub KeysLeft : {L : Type 0} → List Indexes → List Indexes → Result (Checked L) Refused → Type 0
KeysLeft before now (Ok c) = AreRight c.tables.scn c.tables.tables.items now
KeysLeft before now (Err r) = now ≡ before
