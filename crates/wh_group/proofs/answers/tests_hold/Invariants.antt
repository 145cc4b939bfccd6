use Rattle.std.proofs.Common.{◌≡◌, drop}
use Rattle.wh_group.specs.Entries.{tests_true}
use Rattle.wh_group.proofs.answers.tests_hold.Given as goal

-- it is up to the conditions that are left
abbrev pub invariant-loop-at : goal.invariant-loop-at
invariant-loop-at l = tests_true (drop l.at l.tests) (drop l.at l.tallies) ≡ tests_true l.tests l.tallies
