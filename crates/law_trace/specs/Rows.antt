-- What is said of the rows of a table and of its definition.
use Rattle.std.specs.List.{All, AllPairs}
use Rattle.std.specs.Option.{ForSome}
use Rattle.std.specs.Prelude.{List, None, false, length, true, zip, ℕ, ◌<◌, ◌≡◌, ◌≢◌, ◌≤◌}
use Rattle.wh_base.specs.Lists.{first_of, repeated}
use Rattle.wh_base.specs.Tables.{Base, Row, Table, def_at, is_key}
use Rattle.wh_base.specs.Values.{same_value}
use Rattle.wh_base.specs.declared.tables.ForeignDef.{ForeignDef}
use Rattle.wh_base.specs.declared.tables.TableDef.{TableDef}
use Rattle.wh_base.specs.declared.values.Value.{Value}
use Rattle.def_effect.specs.Block.{column_refusal, column_values, has_no_partition, is_orphaned}

-- No two rows have the same value in this column; NULLs don't count.
abbrev pub IsUnique : Table → ℕ → Type 0
IsUnique t k = repeated same_value (column_values t k) ≡ None

-- The first row has the lower rowid.
abbrev pub IsOlder : Row → Row → Type 0
IsOlder r q = r.rowid < q.rowid

-- The rowid is from 1 to how many were given.
abbrev pub IsGiven : ℕ → Row → Type 0
IsGiven given r = (1 ≤ r.rowid) × (r.rowid ≤ given)

-- The foreign key holds: each of its values stands in the key that it refers to; NULL needs no parent.
abbrev pub HasParents : Base → Table → ForeignDef → Type 0
HasParents base t f = is_orphaned base t f ≡ false

-- What the values of a row meet in their table: one for each column, which may hold it, and a partition where there are any.
pub record Fits (t : Table) (vs : List Value) : Type 0 where
  pub width : length vs ≡ length t.def.columns
  pub columns : first_of (column_refusal t.def) (zip t.def.columns vs) ≡ None
  pub placed : has_no_partition t vs ≡ false

-- What a definition names is there: keys, foreign keys and the partition key stand at columns, each foreign key refers to a key of a table
-- among these, and the names of the columns differ.
pub record IsDefined (defs : List TableDef) (d : TableDef) : Type 0 where
  pub keys : All (λ k. k < length d.columns) d.keys
  pub foreign : All (λ f. f.column < length d.columns) d.foreign
  pub parents : All (λ f. (f.table < length defs) × (is_key (def_at defs f.table) f.to ≡ true)) d.foreign
  pub part_key : ForSome d.part_key (λ k. k < length d.columns)
  pub names : AllPairs (λ a b. a.name ≢ b.name) d.columns
