use Rattle.std.proofs.Common.{◌≡◌, ◌++◌, length}
use Rattle.wh_evaluate.proofs.Turns.{plain_rows}
use Rattle.wh_evaluate.proofs.plain.plain_rows.Given as goal

-- the rows so far and those of the tuples to come are all
abbrev pub invariant-tuples : goal.invariant-tuples
invariant-tuples g l = l.rows.items ++ plain_rows l.query (g.S.TupleSource.left l.source) ≡ plain_rows l.query (g.S.TupleSource.left l.fn.source)

abbrev pub decreases-tuples : goal.decreases-tuples
decreases-tuples g l = length (g.S.TupleSource.left l.source)
