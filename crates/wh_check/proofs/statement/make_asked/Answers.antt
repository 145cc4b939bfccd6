use Rattle.std.proofs.Common.{None, Some, true, ap, arith, length, subst, sym, ◌+◌, ◌∙◌, ◌≡◌, ◌≤◌}
use Rattle.std.specs.List.{All}
use Rattle.wh_check.specs.Making.{asked_refusal, has_places, versions_refusal}
use Rattle.wh_check.proofs.Ending.{def_after, enough, goes, one_table, overfull, refused, small, summed, there_after, told}
use Rattle.wh_check.proofs.Looked.{get_within, if_there, settled_at}
use Rattle.wh_dml.specs.Placed.{ArePlaced}
use Rattle.wh_table.specs.Stored.{Stored, last_scn}
use Rattle.wh_check.proofs.statement.make_asked.Goals as goal

pub returns-in-Some-clause-ends : goal.returns-in-Some-clause-ends
returns-in-Some-clause-ends g c =
    let before = c.args.tables.now in
    let found = get_within before.tables.items c.args.asks.table c.requires.there in
    let s = found.0 in
    let cs = c.args.asks.changes.items in
    let placed : ArePlaced before.scn s cs = if_there before.tables.items c.args.asks.table s (λ t. ArePlaced before.scn t cs) found.1 c.requires.placed in
    let places : has_places s cs ≡ true = ap (has_places s) (sym c.as_slice.ensures.value) ∙ if_there before.tables.items c.args.asks.table s (λ t. has_places t c.as_slice.result.now ≡ true) found.1 c.in_ok-code.ensures.places in
    let code : asked_refusal before.scn before.tables.items c.args.asks.table s cs ≡ Some c.in-Some.code = ap (asked_refusal before.scn before.tables.items c.args.asks.table s) (sym c.as_slice.ensures.value)
    ∙ sym (sym c.in-Some.is ∙ told before.tables.items c.args.asks.table s (λ t. asked_refusal before.scn before.tables.items c.args.asks.table t c.as_slice.result.now) found.1 c.in_ok-code.ensures.refusal) in
    refused before.scn c.args.kept before.tables.items c.args.asks.table cs c.args.asks.scanned s found.1 c.requires.there c.requires.whole before.kept.stored before.kept.settled placed c.requires.shape places c.in-Some.code code

pub fresh_after-fresh-requires-clause-settled : goal.fresh_after-fresh-requires-clause-settled
fresh_after-fresh-requires-clause-settled g c =
    let before = c.args.tables.now in
    subst (λ m. last_scn c.table.result.now.versions ≤ m) (sym c.scn.ensures) (settled_at before.scn before.tables.items c.args.asks.table c.table.result.now before.kept.settled c.table.ensures)

pub fresh_after-fresh-requires-clause-enough : goal.fresh_after-fresh-requires-clause-enough
fresh_after-fresh-requires-clause-enough g c =
    let before = c.args.tables.now in
    let s = c.table.result.now in
    let cs = c.args.asks.changes.items in
    let placed : ArePlaced before.scn s cs = if_there before.tables.items c.args.asks.table s (λ t. ArePlaced before.scn t cs) c.table.ensures c.requires.placed in
    enough before.scn c.scn.result c.args.asks.table before.tables.items s cs c.as_slice-2.result.now c.args.fresh c.table.ensures placed c.scn.ensures c.as_slice-2.ensures.value c.requires.fresh

pub make_changes-requires-clause-small : goal.make_changes-requires-clause-small
make_changes-requires-clause-small g c =
    let before = c.args.tables.now in
    let s = c.table.result.now in
    let cs = c.args.asks.changes.items in
    let placed : ArePlaced before.scn s cs = if_there before.tables.items c.args.asks.table s (λ t. ArePlaced before.scn t cs) c.table.ensures c.requires.placed in
    let places : has_places s cs ≡ true = ap (has_places s) (sym c.as_slice.ensures.value) ∙ if_there before.tables.items c.args.asks.table s (λ t. has_places t c.as_slice.result.now ≡ true) c.table.ensures c.in_ok-code.ensures.places in
    let none : asked_refusal before.scn before.tables.items c.args.asks.table s cs ≡ None = ap (asked_refusal before.scn before.tables.items c.args.asks.table s) (sym c.as_slice.ensures.value)
    ∙ sym (sym c.in_default.is ∙ told before.tables.items c.args.asks.table s (λ t. asked_refusal before.scn before.tables.items c.args.asks.table t c.as_slice.result.now) c.table.ensures c.in_ok-code.ensures.refusal) in
    small before.scn c.args.kept before.tables.items c.args.asks.table cs c.args.asks.scanned s c.table.ensures c.requires.there c.requires.whole before.kept.stored before.kept.settled placed c.requires.shape places none

pub table-requires-2 : goal.table-requires-2
table-requires-2 g c =
    there_after c.args.tables.now.scn c.args.asks.table c.args.tables.now.tables.items c.make_changes.new.tables.tables.items c.args.asks.changes.items c.requires.there c.in_ok-make_changes.ensures.made

pub returns-in-Some-2-clause-ends : goal.returns-in-Some-2-clause-ends
returns-in-Some-2-clause-ends g c =
    let before = c.args.tables.now in
    let after = c.make_changes.new.tables in
    let s = c.table.result.now in
    let cs = c.args.asks.changes.items in
    let placed : ArePlaced before.scn s cs = if_there before.tables.items c.args.asks.table s (λ t. ArePlaced before.scn t cs) c.table.ensures c.requires.placed in
    let places : has_places s cs ≡ true = ap (has_places s) (sym c.as_slice.ensures.value) ∙ if_there before.tables.items c.args.asks.table s (λ t. has_places t c.as_slice.result.now ≡ true) c.table.ensures c.in_ok-code.ensures.places in
    let none : asked_refusal before.scn before.tables.items c.args.asks.table s cs ≡ None = ap (asked_refusal before.scn before.tables.items c.args.asks.table s) (sym c.as_slice.ensures.value)
    ∙ sym (sym c.in_default.is ∙ told before.tables.items c.args.asks.table s (λ t. asked_refusal before.scn before.tables.items c.args.asks.table t c.as_slice.result.now) c.table.ensures c.in_ok-code.ensures.refusal) in
    let settled : All (λ (t : Stored). last_scn t.versions ≤ before.scn) after.tables.items = subst (λ m. All (λ (t : Stored). last_scn t.versions ≤ m) after.tables.items) c.in_ok-make_changes.ensures.scn after.kept.settled in
    let sum = summed before.scn c.scn.result s c.table.result.now cs c.as_slice-2.result.now c.fresh_after-fresh.result c.args.fresh c.scn.ensures
    (one_table before.tables.items c.args.asks.table s c.table.result.now c.table.ensures c.table.ensures) c.as_slice-2.ensures.value c.fresh_after-fresh.ensures in
    let def = def_after before.scn c.args.asks.table before.tables.items after.tables.items cs s c.table-2.result.now c.table.ensures c.in_ok-make_changes.ensures.made c.table-2.ensures in
    let code : versions_refusal c.table-2.result.now (c.args.kept + c.fresh_after-fresh.result) ≡ Some c.in-Some-2.code = sym (sym c.in-Some-2.is ∙ c.in_ok-code-2.ensures) in
    overfull before.scn c.args.kept before.tables.items c.args.asks.table cs c.args.asks.scanned s c.table.ensures c.requires.there c.requires.whole before.kept.stored before.kept.settled placed c.requires.shape places none
    after.tables.items c.in_ok-make_changes.ensures.made after.kept.stored settled c.fresh_after-fresh.result c.args.fresh c.requires.fresh sum c.table-2.result.now.def c.in-Some-2.code def code

pub returns-in-None-clause-ends : goal.returns-in-None-clause-ends
returns-in-None-clause-ends g c =
    let before = c.args.tables.now in
    let after = c.make_changes.new.tables in
    let s = c.table.result.now in
    let cs = c.args.asks.changes.items in
    let placed : ArePlaced before.scn s cs = if_there before.tables.items c.args.asks.table s (λ t. ArePlaced before.scn t cs) c.table.ensures c.requires.placed in
    let places : has_places s cs ≡ true = ap (has_places s) (sym c.as_slice.ensures.value) ∙ if_there before.tables.items c.args.asks.table s (λ t. has_places t c.as_slice.result.now ≡ true) c.table.ensures c.in_ok-code.ensures.places in
    let none : asked_refusal before.scn before.tables.items c.args.asks.table s cs ≡ None = ap (asked_refusal before.scn before.tables.items c.args.asks.table s) (sym c.as_slice.ensures.value)
    ∙ sym (sym c.in_default.is ∙ told before.tables.items c.args.asks.table s (λ t. asked_refusal before.scn before.tables.items c.args.asks.table t c.as_slice.result.now) c.table.ensures c.in_ok-code.ensures.refusal) in
    let settled : All (λ (t : Stored). last_scn t.versions ≤ before.scn) after.tables.items = subst (λ m. All (λ (t : Stored). last_scn t.versions ≤ m) after.tables.items) c.in_ok-make_changes.ensures.scn after.kept.settled in
    let sum = summed before.scn c.scn.result s c.table.result.now cs c.as_slice-2.result.now c.fresh_after-fresh.result c.args.fresh c.scn.ensures
    (one_table before.tables.items c.args.asks.table s c.table.result.now c.table.ensures c.table.ensures) c.as_slice-2.ensures.value c.fresh_after-fresh.ensures in
    let def = def_after before.scn c.args.asks.table before.tables.items after.tables.items cs s c.table-2.result.now c.table.ensures c.in_ok-make_changes.ensures.made c.table-2.ensures in
    let code : versions_refusal c.table-2.result.now (c.args.kept + c.fresh_after-fresh.result) ≡ None = sym (sym c.in-None.is ∙ c.in_ok-code-2.ensures) in
    let counted = c.args.asks.changes.ok in
    let is = c.len-rows.ensures in
    let rows : c.len-rows.result ≡ length c.args.asks.changes.items = omega (arith, counted, is) in
    goes before.scn c.args.kept before.tables.items c.args.asks.table cs c.args.asks.scanned s c.table.ensures c.requires.there c.requires.whole before.kept.stored before.kept.settled placed c.requires.shape places none
    after.tables.items c.in_ok-make_changes.ensures.made after.kept.stored settled c.fresh_after-fresh.result c.args.fresh c.requires.fresh sum c.table-2.result.now.def c.len-rows.result def code rows
