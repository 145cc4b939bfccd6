use Rattle.std.proofs.Common.{◌≡◌, drop}
use Rattle.wh_star.specs.Lookups.{indexed, indexed_onto}
use Rattle.wh_star.proofs.joining.index_rows.Given as goal

abbrev pub invariant-loop-row : goal.invariant-loop-row
invariant-loop-row l = indexed_onto l.part l.index (drop l.row-index l.rows) ≡ indexed l.part l.rows
