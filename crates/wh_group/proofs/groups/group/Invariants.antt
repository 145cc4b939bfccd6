use Rattle.std.proofs.Common.{◌≡◌, ◌++◌, List, length}
use Rattle.def_meaning.specs.Joined.{column_value}
use Rattle.wh_base.specs.declared.tables.RowAt.{RowAt}
use Rattle.wh_group.specs.Tallies.{kept_groups}
use Rattle.wh_group.proofs.groups.group.Given as goal

-- the tuples that came, which are counted, and those to come are all
abbrev pub invariant-tuples : goal.invariant-tuples
invariant-tuples g l =
    (done : List (List RowAt)) × ((done ++ g.S.TupleSource.left l.source ≡ g.S.TupleSource.left l.fn.source) × (l.groups.entries ≡ kept_groups (column_value l.query.tables) l.query done))

abbrev pub decreases-tuples : goal.decreases-tuples
decreases-tuples g l = length (g.S.TupleSource.left l.source)
