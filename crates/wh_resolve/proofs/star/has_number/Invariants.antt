use Rattle.std.proofs.Common.{◌≡◌, drop}
use Rattle.wh_base.specs.Lists.{has_number}
use Rattle.wh_resolve.proofs.star.has_number.Given as goal

abbrev pub invariant-loop-n : goal.invariant-loop-n
invariant-loop-n l = has_number (drop l.n-index l.numbers) l.number ≡ has_number l.numbers l.number
