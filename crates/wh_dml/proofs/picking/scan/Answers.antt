use Rattle.std.proofs.Common.{◌≤◌, length, arith}
use Rattle.wh_base.specs.Tables.{live_rows, most_live, places_of}
use Rattle.wh_dml.proofs.Scanned.{live-more}
use Rattle.wh_dml.proofs.picking.scan.Goals as goal

pub returns-in_err-row-clause-least : goal.returns-in_err-row-clause-least
returns-in_err-row-clause-least g c = omega (arith, c.loop-place.invariant.least, c.pick_at.ensures.raised)

pub returns-in_err-push-clause-least : goal.returns-in_err-push-clause-least
returns-in_err-push-clause-least g c = omega (arith, c.loop-place.invariant.least, c.pick_at.ensures.raised)

pub returns-in_err-push-clause-most : goal.returns-in_err-push-clause-most
returns-in_err-push-clause-most g c =
    let tables = g.R.RowsOf.tables c.args.rows.now in
    let few : length (live_rows (places_of tables c.args.table)) ≤ most_live = g.R.RowsOf.few c.args.rows.now c.args.table in
    let step = live-more tables c.args.table c.loop-place.place (omega arith) in
    omega (arith, few, step, c.loop-place.invariant.raised, c.pick_at.ensures.raised)
