use Rattle.std.proofs.Common.{◌≡◌, take}
use Rattle.wh_group.proofs.key.values_of.Given as goal

abbrev pub invariant-loop-part : goal.invariant-loop-part
invariant-loop-part l = l.values.items ≡ take l.part-index l.key
