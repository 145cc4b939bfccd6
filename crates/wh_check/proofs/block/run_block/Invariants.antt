use Rattle.std.proofs.Common.{◌+◌, ◌≡◌}
use Rattle.wh_check.proofs.Running.{IsUnderWay}
use Rattle.wh_constraints.specs.Constraints.{AreRight}
use Rattle.wh_check.proofs.block.run_block.Given as goal

abbrev pub invariant-loop-at : goal.invariant-loop-at
invariant-loop-at g l = record {
  way : IsUnderWay l.tables.scn l.kept l.tables.tables.items l.statements l.at l.after.scn l.after.tables.items l.rows l.fresh l.read;
  raised : l.reads ≡ l.fn.reads + l.read;
  same : l.keys.before ≡ l.fn.keys.before;
  right : AreRight l.after.scn l.after.tables.items l.keys.now;
}
