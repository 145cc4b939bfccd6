use Rattle.std.proofs.Common.{◌∙◌, ◌<◌, length, subst, sym, ap, arith}
use Rattle.std.specs.List.{All}
use Rattle.wh_base.specs.declared.queries.Edge.{Edge}
use Rattle.wh_star.proofs.Meant.{all-most, all-raised, far-most, far-room, far-tables, joined-is, root-table}
use Rattle.wh_star.proofs.Pruned.{joined-pruned}
use Rattle.wh_star.specs.Lookups.{seen_in, indexes_of}
use Rattle.wh_star.proofs.joining.joined.Goals as goal

pub read_indexes-requires-clause-tables : goal.read_indexes-requires-clause-tables
read_indexes-requires-clause-tables g c =
    subst (All (λ (e : Edge). e.to.table < length (g.R.RowsOf.tables c.args.rows.now))) (sym c.as_slice.ensures.items)
    (far-tables (λ n. n < length (g.R.RowsOf.tables c.args.rows.now)) c.args.query.now c.requires.tree c.requires.tables)

pub read_indexes-requires-clause-room : goal.read_indexes-requires-clause-room
read_indexes-requires-clause-room g c =
    far-room (g.R.RowsOf.tables c.args.rows.now) c.as_slice.result.now c.args.reads.now (g.R.RowsOf.few c.args.rows.now) c.as_slice.ensures.few c.requires.room

pub returns-in_err-indexes-clause-most : goal.returns-in_err-indexes-clause-most
returns-in_err-indexes-clause-most g c =
    far-most (g.R.RowsOf.tables c.args.rows.now) (g.R.RowsOf.keys c.args.rows.now) (g.R.RowsOf.partitions c.args.rows.now) c.args.query.now c.requires.tree
    c.as_slice.result.now c.as_slice.ensures.items c.args.reads.now c.read_indexes.new.reads c.in_err-indexes.ensures.most

pub read_root-requires-clause-table : goal.read_root-requires-clause-table
read_root-requires-clause-table g c =
    root-table (λ n. n < length (g.R.RowsOf.tables c.args.rows.now)) c.args.query.now c.requires.tree c.requires.tables

pub read_root-requires-clause-room : goal.read_root-requires-clause-room
read_root-requires-clause-room g c =
    omega (arith, c.in_ok-indexes.ensures.raised, far-room (g.R.RowsOf.tables c.args.rows.now) c.as_slice.result.now c.args.reads.now (g.R.RowsOf.few c.args.rows.now) c.as_slice.ensures.few c.requires.room)

pub returns-in_err-roots-clause-most : goal.returns-in_err-roots-clause-most
returns-in_err-roots-clause-most g c =
    all-most (g.R.RowsOf.tables c.args.rows.now) (g.R.RowsOf.keys c.args.rows.now) (g.R.RowsOf.partitions c.args.rows.now) c.args.query.now c.requires.tree
    c.as_slice.result.now c.as_slice.ensures.items c.args.reads.now c.read_indexes.new.reads c.read_root.new.reads c.in_ok-indexes.ensures.raised c.in_err-roots.ensures.most

pub returns-in_err-sort_by_rowid-clause-most : goal.returns-in_err-sort_by_rowid-clause-most
returns-in_err-sort_by_rowid-clause-most g c =
    all-most (g.R.RowsOf.tables c.args.rows.now) (g.R.RowsOf.keys c.args.rows.now) (g.R.RowsOf.partitions c.args.rows.now) c.args.query.now c.requires.tree
    c.as_slice.result.now c.as_slice.ensures.items c.args.reads.now c.read_indexes.new.reads c.read_root.new.reads c.in_ok-indexes.ensures.raised c.in_ok-roots.ensures.most

pub returns-clause-tuples : goal.returns-clause-tuples
returns-clause-tuples g c =
    let tables = g.R.RowsOf.tables c.args.rows.now in
    let same = joined-is tables (g.R.RowsOf.keys c.args.rows.now) (g.R.RowsOf.partitions c.args.rows.now) c.args.query.now
    c.in_ok-indexes.indexes.items c.in_ok-roots.roots.items c.sort_by_rowid.new.rows.items c.requires.tree c.requires.keys
    (c.in_ok-indexes.ensures.indexes ∙ ap (indexes_of tables) c.as_slice.ensures.items)
    c.in_ok-roots.ensures.rows
    c.in_ok-sort_by_rowid.ensures in
    same

pub returns-clause-all : goal.returns-clause-all
returns-clause-all g c = λ can.
    let tables = g.R.RowsOf.tables c.args.rows.now in
    let keys = g.R.RowsOf.keys c.args.rows.now in
    let partitions = g.R.RowsOf.partitions c.args.rows.now in
    let same = joined-is tables keys partitions c.args.query.now
    c.in_ok-indexes.indexes.items c.in_ok-roots.roots.items c.sort_by_rowid.new.rows.items c.requires.tree c.requires.keys
    (c.in_ok-indexes.ensures.indexes ∙ ap (indexes_of tables) c.as_slice.ensures.items)
    c.in_ok-roots.ensures.rows
    c.in_ok-sort_by_rowid.ensures in
    same ∙ joined-pruned c.args.query.now (seen_in tables keys partitions) c.requires.tree can

pub returns-clause-raised : goal.returns-clause-raised
returns-clause-raised g c =
    all-raised (g.R.RowsOf.tables c.args.rows.now) (g.R.RowsOf.keys c.args.rows.now) (g.R.RowsOf.partitions c.args.rows.now) c.args.query.now c.requires.tree
    c.as_slice.result.now c.as_slice.ensures.items c.args.reads.now c.read_indexes.new.reads c.read_root.new.reads c.in_ok-indexes.ensures.raised c.in_ok-roots.ensures.raised

pub returns-clause-most : goal.returns-clause-most
returns-clause-most g c =
    all-most (g.R.RowsOf.tables c.args.rows.now) (g.R.RowsOf.keys c.args.rows.now) (g.R.RowsOf.partitions c.args.rows.now) c.args.query.now c.requires.tree
    c.as_slice.result.now c.as_slice.ensures.items c.args.reads.now c.read_indexes.new.reads c.read_root.new.reads c.in_ok-indexes.ensures.raised c.in_ok-roots.ensures.most
