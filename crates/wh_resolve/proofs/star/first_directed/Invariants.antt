use Rattle.std.proofs.Common.{◌≡◌, drop}
use Rattle.def_resolve.specs.Star.{directed}
use Rattle.wh_base.specs.Lists.{first_of}
use Rattle.wh_resolve.proofs.star.first_directed.Given as goal

abbrev pub invariant-loop-join : goal.invariant-loop-join
invariant-loop-join l = first_of (directed l.defs l.tree l.table) (drop l.join-index l.joins) ≡ first_of (directed l.defs l.tree l.table) l.joins
