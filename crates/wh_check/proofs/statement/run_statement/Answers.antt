use Rattle.std.proofs.Common.{subst}
use Rattle.wh_dml.specs.Asked.{IsAsked}
use Rattle.wh_check.proofs.Lifting.{lifted}
use Rattle.wh_check.proofs.Shapes.{have_shape}
use Rattle.wh_check.proofs.statement.run_statement.Goals as goal

pub make_asked-requires-clause-shape : goal.make_asked-requires-clause-shape
make_asked-requires-clause-shape g c =
    let before = c.args.tables.now in
    let asks = subst (IsAsked before.scn before.tables.items c.args.statement.now) c.in-Ok.is c.in_ok-asks.ensures.asked in
    have_shape before.scn before.tables.items c.args.statement.now c.in-Ok.asks.table c.in-Ok.asks.changes.items c.in-Ok.asks.scanned before.kept.stored c.requires.sized asks

pub returns-in_ok-ends-in-Ok-clause-ends : goal.returns-in_ok-ends-in-Ok-clause-ends
returns-in_ok-ends-in-Ok-clause-ends g c =
    let before = c.args.tables.now in
    let asks = subst (IsAsked before.scn before.tables.items c.args.statement.now) c.in-Ok.is c.in_ok-asks.ensures.asked in
    lifted before.scn c.args.kept before.tables.items c.make_asked.new.tables.tables.items c.args.statement.now c.in-Ok.asks.table c.in-Ok.asks.changes.items c.in-Ok.asks.scanned c.in_ok-ends-in-Ok.ends asks
    c.in_ok-ends-in-Ok.ensures.ends
