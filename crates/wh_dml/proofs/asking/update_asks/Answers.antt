use Rattle.std.proofs.Common.{ap, arith, length, subst, sym, ℕ, ◌<◌, ◌∙◌, ◌≡◌}
use Rattle.std.specs.Prelude.{IfOk, None, Result, Some}
use Rattle.def_effect.specs.Block.{updated_row}
use Rattle.wh_base.specs.declared.replies.Refusal.{Refusal}
use Rattle.wh_base.specs.declared.tables.TableDef.{TableDef}
use Rattle.wh_dml.proofs.Stated.{has_table, reads_are, update_asked, update_refused}
use Rattle.wh_dml.specs.Changing.{filter_of, update_refusal}
use Rattle.wh_dml.proofs.asking.update_asks.Goals as goal

pub returns-in-Some-clause-asked : goal.returns-in-Some-clause-asked
returns-in-Some-clause-asked g c =
    let tables = c.args.tables.now.tables.items in
    let there = subst (λ (r : Result ℕ Refusal). IfOk r (λ n. n < length tables)) c.in-Ok.is c.in_ok-table.ensures.within in
    let h = has_table c.args.tables.now.scn tables c.in-Ok.table c.table-stored.result.now c.args.tables.now.kept.stored c.args.tables.now.kept.settled there c.table-stored.ensures in
    let refused : update_refusal c.in-Ok.table c.table-stored.result.now.def c.args.statement.now ≡ Some c.in-Some.refusal =
    ap (λ (d : TableDef). update_refusal c.in-Ok.table d c.args.statement.now) (sym c.def-def.ensures) ∙ sym c.in_ok-refusal.ensures ∙ c.in-Some.is in
    update_refused c.args.tables.now.scn tables c.args.statement.now c.in-Ok.table c.table-stored.result.now c.in-Some.refusal h (sym c.in_ok-table.ensures.number ∙ c.in-Ok.is) refused

pub returns-clause-asked : goal.returns-clause-asked
returns-clause-asked g c =
    let tables = c.args.tables.now.tables.items in
    let there = subst (λ (r : Result ℕ Refusal). IfOk r (λ n. n < length tables)) c.in-Ok.is c.in_ok-table.ensures.within in
    let h = has_table c.args.tables.now.scn tables c.in-Ok.table c.table-stored.result.now c.args.tables.now.kept.stored c.args.tables.now.kept.settled there c.table-stored.ensures in
    let none : update_refusal c.in-Ok.table c.table-stored.result.now.def c.args.statement.now ≡ None =
    ap (λ (d : TableDef). update_refusal c.in-Ok.table d c.args.statement.now) (sym c.def-def.ensures) ∙ sym c.in_ok-refusal.ensures ∙ c.in_default.is in
    update_asked c.args.tables.now.scn tables c.args.statement.now c.in-Ok.table c.table-stored.result.now c.in_ok-filter.filter c.in_ok-sets.sets c.in_ok-rows.rows.items c.places.result c.in_ok-changes.changes.items c.live.result
    h (sym c.in_ok-table.ensures.number ∙ c.in-Ok.is) none
    (c.in_ok-filter.ensures ∙ (λ i. filter_of c.in-Ok.table (c.def-def.ensures i) (c.as_slice.ensures.items i)))
    (λ old. c.in_ok-sets.ensures old ∙ (λ i. updated_row (c.def-def.ensures i) (c.as_slice-2.ensures.items i) old))
    c.in_ok-rows.ensures.picked c.places.ensures.count c.in_ok-changes.ensures c.live.ensures.count

pub returns-clause-raised : goal.returns-clause-raised
returns-clause-raised g c =
    let tables = c.args.tables.now.tables.items in
    let there = subst (λ (r : Result ℕ Refusal). IfOk r (λ n. n < length tables)) c.in-Ok.is c.in_ok-table.ensures.within in
    let h = has_table c.args.tables.now.scn tables c.in-Ok.table c.table-stored.result.now c.args.tables.now.kept.stored c.args.tables.now.kept.settled there c.table-stored.ensures in
    let read = reads_are c.args.tables.now.scn tables c.in-Ok.table c.table-stored.result.now h in
    omega (arith, c.in_ok-rows.ensures.raised, read, c.live.ensures.count)
