use Rattle.std.proofs.Common.{◌≡◌, ◌++◌, drop}
use Rattle.std.specs.Prelude.{flat_map}
use Rattle.def_effect.specs.Define.{part_foreign}
use Rattle.wh_define.proofs.foreign.foreign_of.Given as goal

abbrev pub invariant-loop-part : goal.invariant-loop-part
invariant-loop-part l = l.foreign.items ++ flat_map part_foreign (drop l.part-index l.parts) ≡ flat_map part_foreign l.parts
