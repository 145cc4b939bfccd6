use Rattle.std.proofs.Common.{◌≡◌, drop}
use Rattle.def_meaning.specs.Ranges.{spread}
use Rattle.wh_star.proofs.equal.spread.Given as goal

abbrev pub invariant-loop-edge : goal.invariant-loop-edge
invariant-loop-edge l = spread (drop l.edge-index l.edges) l.columns.items ≡ spread l.edges l.initial.columns.items
