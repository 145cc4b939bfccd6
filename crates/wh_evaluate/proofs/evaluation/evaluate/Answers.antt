use Rattle.std.proofs.Common.{◌∙◌}
use Rattle.wh_evaluate.proofs.Conditions.{answer-shown, most-shown, raised-shown, small-aggs}
use Rattle.wh_evaluate.proofs.evaluation.evaluate.Goals as goal

pub answer-requires-clause-aggs : goal.answer-requires-clause-aggs
answer-requires-clause-aggs g c = small-aggs (g.R.RowsOf.tables c.args.rows.now) (g.R.RowsOf.keys c.args.rows.now) (g.R.RowsOf.partitions c.args.rows.now) c.args.query.now c.requires.known

pub returns-clause-rows : goal.returns-clause-rows
returns-clause-rows g c = λ base shown.
    c.in_ok-found.ensures ∙ answer-shown (g.R.RowsOf.tables c.args.rows.now) (g.R.RowsOf.keys c.args.rows.now) (g.R.RowsOf.partitions c.args.rows.now) base shown c.args.query.now c.in_ok-tuples.tuples c.in_ok-tuples.ensures.tuples

pub returns-clause-raised : goal.returns-clause-raised
returns-clause-raised g c = λ base shown. raised-shown (g.R.RowsOf.tables c.args.rows.now) (g.R.RowsOf.keys c.args.rows.now) (g.R.RowsOf.partitions c.args.rows.now) base shown c.args.query.now c.args.reads.now c.join.new.reads c.in_ok-tuples.ensures.raised

pub returns-clause-most : goal.returns-clause-most
returns-clause-most g c = λ base shown. most-shown (g.R.RowsOf.tables c.args.rows.now) (g.R.RowsOf.keys c.args.rows.now) (g.R.RowsOf.partitions c.args.rows.now) base shown c.args.query.now c.args.reads.now c.join.new.reads c.in_ok-tuples.ensures.most

pub returns-in_err-tuples-clause-most : goal.returns-in_err-tuples-clause-most
returns-in_err-tuples-clause-most g c = λ base shown. most-shown (g.R.RowsOf.tables c.args.rows.now) (g.R.RowsOf.keys c.args.rows.now) (g.R.RowsOf.partitions c.args.rows.now) base shown c.args.query.now c.args.reads.now c.join.new.reads c.in_err-tuples.ensures.most

pub returns-in_err-found-clause-most : goal.returns-in_err-found-clause-most
returns-in_err-found-clause-most g c = λ base shown. most-shown (g.R.RowsOf.tables c.args.rows.now) (g.R.RowsOf.keys c.args.rows.now) (g.R.RowsOf.partitions c.args.rows.now) base shown c.args.query.now c.args.reads.now c.join.new.reads c.in_ok-tuples.ensures.most
