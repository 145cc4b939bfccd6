use Rattle.std.proofs.Common.{◌≡◌, ◌++◌, drop, map, take}
use Rattle.wh_keys.proofs.revoke.roll_back_each.Given as goal

abbrev pub invariant-loop-item : goal.invariant-loop-item
invariant-loop-item g l = l.items ≡ map g.T.Revoke.rolled_back (take l.item-index l.initial.items) ++ drop l.item-index l.initial.items
