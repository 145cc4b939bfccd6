use Rattle.std.proofs.Common.{arith, length, subst, sym, ℕ, ◌<◌, ◌∙◌}
use Rattle.std.specs.Prelude.{IfOk, Result}
use Rattle.wh_base.specs.declared.replies.Refusal.{Refusal}
use Rattle.wh_dml.proofs.Stated.{has_table, load_asked, load_refused}
use Rattle.wh_load.specs.Capped.{rows_loaded}
use Rattle.wh_dml.proofs.asking.load_asks.Goals as goal

pub returns-in-Err-2-clause-asked : goal.returns-in-Err-2-clause-asked
returns-in-Err-2-clause-asked g c =
    let tables = c.args.tables.now.tables.items in
    let there = subst (λ (r : Result ℕ Refusal). IfOk r (λ n. n < length tables)) c.in-Ok.is c.in_ok-table.ensures.within in
    let h = has_table c.args.tables.now.scn tables c.in-Ok.table c.table-stored.result.now c.args.tables.now.kept.stored c.args.tables.now.kept.settled there c.table-stored.ensures in
    load_refused c.args.tables.now.scn tables c.args.statement.now c.in-Ok.table c.table-stored.result.now c.in-Err-2.refusal h (sym c.in_ok-table.ensures.number ∙ c.in-Ok.is)
    (sym c.in-Err-2.is ∙ c.in_ok-rows.ensures ∙ (λ i. rows_loaded (c.def.ensures i) (c.as_slice.ensures.items i)))

pub inserts-requires-clause-given : goal.inserts-requires-clause-given
inserts-requires-clause-given g c =
    let tables = c.args.tables.now.tables.items in
    let there = subst (λ (r : Result ℕ Refusal). IfOk r (λ n. n < length tables)) c.in-Ok.is c.in_ok-table.ensures.within in
    let h = has_table c.args.tables.now.scn tables c.in-Ok.table c.table-stored.result.now c.args.tables.now.kept.stored c.args.tables.now.kept.settled there c.table-stored.ensures in
    omega (arith, h.stored.placed, c.given.ensures, c.places.ensures.count)

pub returns-clause-asked : goal.returns-clause-asked
returns-clause-asked g c =
    let tables = c.args.tables.now.tables.items in
    let there = subst (λ (r : Result ℕ Refusal). IfOk r (λ n. n < length tables)) c.in-Ok.is c.in_ok-table.ensures.within in
    let h = has_table c.args.tables.now.scn tables c.in-Ok.table c.table-stored.result.now c.args.tables.now.kept.stored c.args.tables.now.kept.settled there c.table-stored.ensures in
    load_asked c.args.tables.now.scn tables c.args.statement.now c.in-Ok.table c.table-stored.result.now c.in-Ok-2.rows c.into_vec.result.items c.given.result c.places.result c.in_ok-changes.changes.items
    h c.requires.sized (sym c.in_ok-table.ensures.number ∙ c.in-Ok.is)
    (sym c.in-Ok-2.is ∙ c.in_ok-rows.ensures ∙ (λ i. rows_loaded (c.def.ensures i) (c.as_slice.ensures.items i)))
    c.into_vec.ensures.items c.given.ensures c.places.ensures.count c.in_ok-changes.ensures
