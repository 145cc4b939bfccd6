use Rattle.std.proofs.Common.{◌≡◌, drop}
use Rattle.def_effect.specs.Define.{is_no_column}
use Rattle.wh_define.proofs.columns.is_no_column.Given as goal

abbrev pub invariant-loop-column : goal.invariant-loop-column
invariant-loop-column l = is_no_column (drop l.column-index l.columns) l.name ≡ is_no_column l.columns l.name
