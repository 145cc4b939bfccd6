use Rattle.std.proofs.Common.{◌≡◌, drop}
use Rattle.def_resolve.specs.Star.{spanning}
use Rattle.wh_base.specs.Lists.{first_of}
use Rattle.wh_resolve.proofs.star.first_spanning.Given as goal

abbrev pub invariant-loop-root : goal.invariant-loop-root
invariant-loop-root l = first_of (spanning l.defs l.joins l.from) (drop l.root-index l.from) ≡ first_of (spanning l.defs l.joins l.from) l.from
