-- The change of the definitions that a change of a placed row is.
use Rattle.std.specs.Prelude.{option_map}
use Rattle.wh_base.specs.declared.tables.Change.{Change}
use Rattle.wh_dml.specs.declared.changes.RowChange.{RowChange}

abbrev pub change_of : RowChange → Change
change_of c = record { rowid = c.rowid; old = option_map (λ r. r.values) c.old; new = option_map (λ r. r.values) c.new }
