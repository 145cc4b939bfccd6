use Rattle.std.proofs.Common.{◌≡◌, drop}
use Rattle.def_resolve.specs.Star.{branch_to}
use Rattle.wh_base.specs.Lists.{first_of}
use Rattle.wh_resolve.proofs.star.next_branch.Given as goal

abbrev pub invariant-loop-table : goal.invariant-loop-table
invariant-loop-table l = first_of (branch_to l.defs l.joins l.tree) (drop l.table-index l.from) ≡ first_of (branch_to l.defs l.joins l.tree) l.from
