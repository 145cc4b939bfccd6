use Rattle.std.proofs.Common.{◌≡◌, ◌≤◌}
use Rattle.wh_partmap.specs.History.{last_touched}
use Rattle.wh_partmap.proofs.tests.filled.Given as goal

abbrev pub invariant-loop-one : goal.invariant-loop-one
invariant-loop-one l = record { born : l.map.born ≡ 3; since : l.map.since ≤ l.last; touched : last_touched l.map.touches ≤ l.last }
