use Rattle.std.proofs.Common.{◌≡◌, ◌≤◌, ◌+◌, drop}
use Rattle.wh_check.specs.Making.{inserts_in}
use Rattle.wh_check.proofs.statement.count_inserts.Given as goal

abbrev pub invariant-loop-change : goal.invariant-loop-change
invariant-loop-change l = record {
  few : l.count ≤ l.change-index;
  rest : l.count + inserts_in (drop l.change-index l.changes) ≡ inserts_in l.changes;
}
