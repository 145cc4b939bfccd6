use Rattle.std.proofs.Common.{◌≡◌}
use Rattle.wh_check.proofs.Made.{IsOn}
use Rattle.wh_check.proofs.making.make_changes.Given as goal

abbrev pub invariant-loop-change : goal.invariant-loop-change
invariant-loop-change g l = record {
  scn : l.tables.scn ≡ l.fn.tables.scn;
  on : IsOn l.fn.tables.scn l.table l.fn.changes.items l.fn.tables.tables.items l.change-iterator.rest.items l.tables.tables.items;
}
