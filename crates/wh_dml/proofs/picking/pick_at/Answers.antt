use Rattle.std.proofs.Common.{◌∙◌, sym}
use Rattle.wh_base.specs.Tables.{place_of}
use Rattle.wh_dml.proofs.Scanned.{none-failed, one-passed}
use Rattle.wh_dml.proofs.picking.pick_at.Goals as goal

pub returns-then-not-passes-clause-picked : goal.returns-then-not-passes-clause-picked
returns-then-not-passes-clause-picked g c =
    none-failed c.args.filter.now c.args.place (place_of (g.R.RowsOf.tables c.args.rows.now) c.args.table c.args.place) c.row-values.result.now c.row-values.ensures.values
    (sym c.passes.ensures ∙ c.if-not-passes.true)

pub returns-clause-picked : goal.returns-clause-picked
returns-clause-picked g c =
    one-passed c.lives.result c.args.filter.now c.args.place (place_of (g.R.RowsOf.tables c.args.rows.now) c.args.table c.args.place) c.rowid.result c.row-values.result.now c.in_ok-values.values
    c.lives.ensures c.if-not-lives.false c.rowid.ensures c.row-values.ensures.values c.in_ok-values.ensures (sym c.passes.ensures ∙ c.if-not-passes.false)
