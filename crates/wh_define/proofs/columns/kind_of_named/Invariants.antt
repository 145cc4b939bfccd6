use Rattle.std.proofs.Common.{◌≡◌, drop}
use Rattle.def_effect.specs.Define.{kind_of_new}
use Rattle.wh_define.specs.Sizes.{AreSized}
use Rattle.wh_define.proofs.columns.kind_of_named.Given as goal

abbrev pub invariant-loop-column : goal.invariant-loop-column
invariant-loop-column l = record {
  kind : kind_of_new (drop l.column-index l.columns) l.name ≡ kind_of_new l.columns l.name;
  sized : AreSized (drop l.column-index l.columns);
}
