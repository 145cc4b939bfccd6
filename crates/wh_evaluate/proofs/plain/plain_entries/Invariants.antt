use Rattle.std.proofs.Common.{◌≡◌, ◌++◌, length}
use Rattle.def_meaning.specs.Joined.{column_value}
use Rattle.def_meaning.specs.Meaning.{plain_entries}
use Rattle.wh_evaluate.proofs.plain.plain_entries.Given as goal

-- the entries so far and those of the tuples to come are all
abbrev pub invariant-tuples : goal.invariant-tuples
invariant-tuples g l =
    l.entries.items ++ plain_entries (column_value l.query.tables) l.query (g.S.TupleSource.left l.source) ≡ plain_entries (column_value l.query.tables) l.query (g.S.TupleSource.left l.fn.source)

abbrev pub decreases-tuples : goal.decreases-tuples
decreases-tuples g l = length (g.S.TupleSource.left l.source)
