use Rattle.std.proofs.Common.{◌≡◌, ◌++◌}
use Rattle.wh_group.specs.Entries.{kept_entries}
use Rattle.wh_group.proofs.answers.list_entries.Given as goal

-- the entries so far and those of the groups to come are all
abbrev pub invariant-loop-key : goal.invariant-loop-key
invariant-loop-key l = l.entries.items ++ kept_entries l.query l.key-iterator ≡ kept_entries l.query l.fn.groups.entries
