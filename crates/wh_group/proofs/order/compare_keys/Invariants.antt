use Rattle.std.proofs.Common.{◌≡◌, drop}
use Rattle.def_meaning.specs.Meaning.{order_cmp}
use Rattle.wh_group.proofs.order.compare_keys.Given as goal

-- it is up to the keys that are left
abbrev pub invariant-loop-key : goal.invariant-loop-key
invariant-loop-key l = order_cmp (drop l.key-index l.keys) l.left l.right ≡ order_cmp l.keys l.left l.right
