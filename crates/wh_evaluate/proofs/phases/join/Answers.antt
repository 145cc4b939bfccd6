use Rattle.wh_evaluate.proofs.Conditions.{can-prune, have-keys, join-tree, tables-there, tuples-few, tuples-small}
use Rattle.wh_evaluate.proofs.phases.join.Goals as goal

pub joined-requires-clause-tree : goal.joined-requires-clause-tree
joined-requires-clause-tree g c = join-tree (g.R.RowsOf.tables c.args.rows.now) (g.R.RowsOf.keys c.args.rows.now) (g.R.RowsOf.partitions c.args.rows.now) c.args.query.now c.requires.known

pub joined-requires-clause-tables : goal.joined-requires-clause-tables
joined-requires-clause-tables g c = tables-there (g.R.RowsOf.tables c.args.rows.now) (g.R.RowsOf.keys c.args.rows.now) (g.R.RowsOf.partitions c.args.rows.now) c.args.query.now c.requires.known

pub joined-requires-clause-keys : goal.joined-requires-clause-keys
joined-requires-clause-keys g c = have-keys (g.R.RowsOf.tables c.args.rows.now) (g.R.RowsOf.keys c.args.rows.now) (g.R.RowsOf.partitions c.args.rows.now) c.args.query.now c.requires.known

pub returns-clause-tuples : goal.returns-clause-tuples
returns-clause-tuples g c = c.in_ok-tuples.ensures.all (can-prune (g.R.RowsOf.tables c.args.rows.now) (g.R.RowsOf.keys c.args.rows.now) (g.R.RowsOf.partitions c.args.rows.now) c.args.query.now c.requires.known)

pub returns-clause-few : goal.returns-clause-few
returns-clause-few g c =
    tuples-few (g.R.RowsOf.tables c.args.rows.now) (g.R.RowsOf.keys c.args.rows.now) (g.R.RowsOf.partitions c.args.rows.now) c.args.query.now c.requires.known
    (g.R.RowsOf.few c.args.rows.now) c.in_ok-tuples.tuples (c.in_ok-tuples.ensures.all (can-prune (g.R.RowsOf.tables c.args.rows.now) (g.R.RowsOf.keys c.args.rows.now) (g.R.RowsOf.partitions c.args.rows.now) c.args.query.now c.requires.known))

pub returns-clause-small : goal.returns-clause-small
returns-clause-small g c =
    tuples-small (g.R.RowsOf.tables c.args.rows.now) (g.R.RowsOf.keys c.args.rows.now) (g.R.RowsOf.partitions c.args.rows.now) c.args.query.now c.requires.known
    (g.R.RowsOf.small c.args.rows.now) c.in_ok-tuples.tuples (c.in_ok-tuples.ensures.all (can-prune (g.R.RowsOf.tables c.args.rows.now) (g.R.RowsOf.keys c.args.rows.now) (g.R.RowsOf.partitions c.args.rows.now) c.args.query.now c.requires.known))
