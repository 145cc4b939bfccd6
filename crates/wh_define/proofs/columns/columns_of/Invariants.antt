use Rattle.std.proofs.Common.{◌≡◌, ◌++◌, drop}
use Rattle.std.specs.Prelude.{flat_map}
use Rattle.def_effect.specs.Define.{column_parts}
use Rattle.wh_define.proofs.columns.columns_of.Given as goal

abbrev pub invariant-loop-part : goal.invariant-loop-part
invariant-loop-part l = l.columns.items ++ flat_map column_parts (drop l.part-index l.parts) ≡ flat_map column_parts l.parts
