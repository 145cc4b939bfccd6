use Rattle.std.proofs.Common.{◌≡◌, ◌++◌, drop}
use Rattle.std.specs.Prelude.{flat_map}
use Rattle.def_effect.specs.Define.{part_keys}
use Rattle.wh_define.proofs.keys.keys_of.Given as goal

abbrev pub invariant-loop-part : goal.invariant-loop-part
invariant-loop-part l = l.keys.items ++ flat_map part_keys (drop l.part-index l.parts) ≡ flat_map part_keys l.parts
