use Rattle.std.proofs.Common.{◌≡◌, take}
use Rattle.wh_group.specs.Tallies.{merged_each}
use Rattle.wh_group.proofs.groups.merge_tallies.Given as goal

-- the first ones are put together
abbrev pub invariant-loop-at : goal.invariant-loop-at
invariant-loop-at l = l.tallies ≡ merged_each l.fn.tallies (take l.at l.others)
