use Rattle.std.proofs.Common.{arith, length, subst, sym, ◌<◌, ◌∙◌}
use Rattle.std.specs.Prelude.{IfOk, Result}
use Rattle.wh_base.specs.declared.replies.Refusal.{Refusal}
use Rattle.wh_dml.specs.declared.asks.Asked.{Asked}
use Rattle.wh_dml.proofs.Stated.{has_table, insert_asked, insert_refused, within_tables}
use Rattle.wh_dml.proofs.asking.insert_asks.Goals as goal

pub returns-in-Err-clause-asked : goal.returns-in-Err-clause-asked
returns-in-Err-clause-asked g c =
    insert_refused c.args.tables.now.scn c.args.tables.now.tables.items c.as_slice.result.now c.args.statement.now c.in-Err.refusal (c.as_slice.ensures.items ∙ c.defs.ensures)
    (sym c.in-Err.is ∙ c.in_ok-asked.ensures.asked)

pub inserts-requires-clause-given : goal.inserts-requires-clause-given
inserts-requires-clause-given g c =
    let tables = c.args.tables.now.tables.items in
    let listed = subst (λ (r : Result Asked Refusal). IfOk r (λ a. a.table < length c.as_slice.result.now)) c.in-Ok.is c.in_ok-asked.ensures.within in
    let there = within_tables tables c.as_slice.result.now c.in-Ok.asked.table (c.as_slice.ensures.items ∙ c.defs.ensures) listed in
    let h = has_table c.args.tables.now.scn tables c.in-Ok.asked.table c.table-stored.result.now c.args.tables.now.kept.stored c.args.tables.now.kept.settled there c.table-stored.ensures in
    omega (arith, h.stored.placed, c.given.ensures, c.places.ensures.count)

pub returns-clause-asked : goal.returns-clause-asked
returns-clause-asked g c =
    let tables = c.args.tables.now.tables.items in
    let same = c.as_slice.ensures.items ∙ c.defs.ensures in
    let listed = subst (λ (r : Result Asked Refusal). IfOk r (λ a. a.table < length c.as_slice.result.now)) c.in-Ok.is c.in_ok-asked.ensures.within in
    let there = within_tables tables c.as_slice.result.now c.in-Ok.asked.table same listed in
    let h = has_table c.args.tables.now.scn tables c.in-Ok.asked.table c.table-stored.result.now c.args.tables.now.kept.stored c.args.tables.now.kept.settled there c.table-stored.ensures in
    insert_asked c.args.tables.now.scn tables c.as_slice.result.now c.args.statement.now c.in-Ok.asked c.table-stored.result.now c.into_vec.result.items c.given.result c.places.result c.in_ok-changes.changes.items
    h same (sym c.in-Ok.is ∙ c.in_ok-asked.ensures.asked) c.into_vec.ensures.items c.given.ensures c.places.ensures.count c.in_ok-changes.ensures
