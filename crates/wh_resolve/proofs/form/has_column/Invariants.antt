use Rattle.std.proofs.Common.{◌≡◌, drop}
use Rattle.wh_base.specs.Columns.{has_column}
use Rattle.wh_resolve.proofs.form.has_column.Given as goal

abbrev pub invariant-loop-other : goal.invariant-loop-other
invariant-loop-other l = has_column (drop l.other-index l.columns) l.column ≡ has_column l.columns l.column
