use Rattle.std.proofs.Common.{◌≡◌, ◌++◌, drop, map}
use Rattle.wh_define.specs.Made.{column_from}
use Rattle.wh_define.specs.Sizes.{AreSized}
use Rattle.wh_define.proofs.define.columns_from.Given as goal

abbrev pub invariant-loop-column : goal.invariant-loop-column
invariant-loop-column l = record {
  defs : l.defs ++ map (column_from l.keys l.by) (drop l.column-index l.columns) ≡ map (column_from l.keys l.by) l.columns;
  sized : AreSized (drop l.column-index l.columns);
}
