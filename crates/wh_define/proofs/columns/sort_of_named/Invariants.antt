use Rattle.std.proofs.Common.{◌≡◌, drop}
use Rattle.def_effect.specs.Define.{new_column_sort}
use Rattle.wh_define.proofs.columns.sort_of_named.Given as goal

abbrev pub invariant-loop-column : goal.invariant-loop-column
invariant-loop-column l = new_column_sort (drop l.column-index l.columns) l.name ≡ new_column_sort l.columns l.name
