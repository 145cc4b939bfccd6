use Rattle.std.proofs.Common.{◌≡◌, ◌++◌}
use Rattle.wh_group.specs.Entries.{kept_rows}
use Rattle.wh_group.proofs.answers.list_rows.Given as goal

-- the rows so far and those of the groups to come are all
abbrev pub invariant-loop-key : goal.invariant-loop-key
invariant-loop-key l = l.rows.items ++ kept_rows l.query l.key-iterator ≡ kept_rows l.query l.fn.groups.entries
