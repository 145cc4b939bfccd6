use Rattle.std.proofs.Common.{◌≡◌, ◌-◌}
use Rattle.def_resolve.specs.Star.{grow, tree_from}
use Rattle.wh_resolve.proofs.star.tree_from.Given as goal

abbrev pub invariant-loop-turn : goal.invariant-loop-turn
invariant-loop-turn l = grow (l.turn-end - l.turn) l.defs l.joins l.from l.tree ≡ tree_from l.defs l.joins l.from l.root
