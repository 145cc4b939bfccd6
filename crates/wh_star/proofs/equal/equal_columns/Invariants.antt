use Rattle.std.proofs.Common.{◌≡◌, ◌-◌, length}
use Rattle.def_meaning.specs.Ranges.{equal_columns, spread_times}
use Rattle.wh_star.proofs.equal.equal_columns.Given as goal

abbrev pub invariant-loop-round : goal.invariant-loop-round
invariant-loop-round l = spread_times (length l.edges - l.round) l.edges l.columns.items ≡ equal_columns l.edges l.fn.column
