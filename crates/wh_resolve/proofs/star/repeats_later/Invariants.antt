use Rattle.std.proofs.Common.{◌≡◌, drop, take, []}
use Rattle.wh_resolve.specs.Repeats.{repeats_later}
use Rattle.wh_resolve.proofs.star.repeats_later.Given as goal

abbrev pub invariant-loop-at : goal.invariant-loop-at
invariant-loop-at l = repeats_later (take l.at l.numbers) (drop l.at l.numbers) ≡ repeats_later [] l.numbers
