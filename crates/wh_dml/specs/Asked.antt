-- What a statement asks of tables.
use Rattle.std.specs.Prelude.{◌≡◌, ◌<◌, Err, IfSome, List, None, Ok, Result, length, map, slice_get, ℕ}
use Rattle.wh_base.specs.Lists.{first_of}
use Rattle.wh_base.specs.Tables.{table_at}
use Rattle.wh_base.specs.declared.replies.Refusal.{Refusal}
use Rattle.wh_base.specs.declared.statements.Statement.{Statement}
use Rattle.wh_base.specs.declared.tables.Change.{Change}
use Rattle.def_effect.specs.Block.{changed_row_refusal, statement_asks}
use Rattle.wh_dml.specs.declared.asking.Asks.{Asks}
use Rattle.wh_dml.specs.Changes.{change_of}
use Rattle.wh_dml.specs.Placed.{ArePlaced}
use Rattle.wh_dml.specs.declared.changes.RowChange.{RowChange}
use Rattle.wh_table.specs.Stored.{Stored, base_seen}

-- A statement asks changes of the table with this number, after so many rows were scanned, and the changes here stand for them. They are those changes,
-- unless one of those is refused in the second step: then one of these is, and the first refusal is the same.
pub record AsksFor (scn : ℕ) (tables : List Stored) (s : Statement) (table : ℕ) (changes : List RowChange) (scanned : ℕ) : Type 0 where
  pub asked : List Change
  pub is : statement_asks (base_seen scn tables) s ≡ Ok (record { table = table; changes = asked; scanned = scanned })
  pub refused : first_of (changed_row_refusal (table_at (base_seen scn tables) table)) asked ≡ first_of (changed_row_refusal (table_at (base_seen scn tables) table)) (map change_of changes)
  pub same : first_of (changed_row_refusal (table_at (base_seen scn tables) table)) asked ≡ None → asked ≡ map change_of changes
  pub there : table < length tables
  pub placed : IfSome (slice_get tables table) (λ t. ArePlaced scn t changes)

-- A statement asks this, or has this refusal.
abbrev pub IsAsked : ℕ → List Stored → Statement → Result Asks Refusal → Type 0
IsAsked scn tables s (Ok a) = AsksFor scn tables s a.table a.changes.items a.scanned
IsAsked scn tables s (Err code) = statement_asks (base_seen scn tables) s ≡ Err code

-- how many rows a statement scanned; one that is refused has scanned nothing
abbrev pub scanned_by : Result Asks Refusal → ℕ
scanned_by (Ok a) = a.scanned
scanned_by (Err code) = 0
