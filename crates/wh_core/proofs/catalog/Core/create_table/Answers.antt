use Rattle.std.proofs.Common.{◌≡◌, ◌∙◌, sym, ap, refl, subst, arith, ◌+◌}
use Rattle.std.specs.Prelude.{Err, Ok}
use Rattle.wh_base.specs.declared.replies.Reply.TheVariants as reply
use Rattle.wh_base.specs.declared.statements.Command.TheVariants as commands
use Rattle.wh_base.specs.declared.statements.Statement.TheVariants as about
use Rattle.wh_base.specs.declared.statements.TableStatement.TheVariants.{CreateTable}
use Rattle.def_history.specs.Catalog.{names_taken}
use Rattle.def_journal.specs.Journal.{event_of}
use Rattle.wh_core.proofs.Closing.{accepts, answers, closes, waits}
use Rattle.wh_core.proofs.Known.{lookups}
use Rattle.wh_core.proofs.Tabled.{created, created_right, not_created}
use Rattle.wh_define.specs.Made.{defined_or_refused}
use Rattle.law_trace.specs.Reached.{catalog_of}
use Rattle.wh_core.proofs.catalog.Core.create_table.Goals as goal

pub invariant_of-self-in-Ok : goal.invariant_of-self-in-Ok
invariant_of-self-in-Ok g c =
    let same = ap (event_of c.args.id) c.requires.command in
    let accepted = accepts c.args.id _ (commands.Other (about.Table (CreateTable c.args.table.now))) c.requires.command c.requires.built tt in
    let taken = lookups.taken _ _ _ _ c.args.table.now.name c.self.invariant.core.image.stands ∙ sym c.is_taken-taken.ensures in
    let made = subst (λ defs. Ok c.in-Ok.defined ≡ defined_or_refused (names_taken (catalog_of c.self.inside.notes.items)) defs c.args.table.now) c.tables.ensures
    (sym c.in-Ok.is ∙ c.in_ok-defined.ensures (names_taken (catalog_of c.self.inside.notes.items)) taken) in
    let after = created _ c.args.id c.args.table.now _ _ _ _ _ _ c.self.invariant.core accepted c.self.inside.image.tables.kept.settled c.in-Ok.defined made in
    let scn = c.raise.ensures.scn ∙ ap (λ n. n + 1) c.push_table.ensures.scn in
    let tables = c.raise.ensures.tables ∙ c.in_ok-push_table-in-Ok.ensures.tables in
    let keys = c.in_ok-push_table-in-Ok.ensures.keys in
    let right = created_right _ c.args.id c.args.table.now _ _ _ _ _ _ c.self.invariant.core accepted c.self.inside.image.tables.kept.settled c.in-Ok.defined made _ c.self.invariant.right in
    rw (scn, tables, keys)
    (closes _ _ _ _ _ _ _ _ _ _ _ _ _ after right refl c.reserve.ensures.items (c.note_of.ensures ∙ same) c.push_reserved.ensures.items
    (omega (arith, c.in_ok-reserve.ensures.ok, c.push_reserved.ensures.len, c.push_reserved.ensures.capacity)))

pub returns-in_ok-push_table-in-Ok-clause-reply : goal.returns-in_ok-push_table-in-Ok-clause-reply
returns-in_ok-push_table-in-Ok-clause-reply g c =
    let same = ap (event_of c.args.id) c.requires.command in
    let accepted = accepts c.args.id _ (commands.Other (about.Table (CreateTable c.args.table.now))) c.requires.command c.requires.built tt in
    let taken = lookups.taken _ _ _ _ c.args.table.now.name c.self.invariant.core.image.stands ∙ sym c.is_taken-taken.ensures in
    let made = subst (λ defs. Ok c.in-Ok.defined ≡ defined_or_refused (names_taken (catalog_of c.self.inside.notes.items)) defs c.args.table.now) c.tables.ensures
    (sym c.in-Ok.is ∙ c.in_ok-defined.ensures (names_taken (catalog_of c.self.inside.notes.items)) taken) in
    let after = created _ c.args.id c.args.table.now _ _ _ _ _ _ c.self.invariant.core accepted c.self.inside.image.tables.kept.settled c.in-Ok.defined made in
    let scn = c.raise.ensures.scn ∙ ap (λ n. n + 1) c.push_table.ensures.scn in
    answers _ _ _ _ _ _ _ _ _ _ _ after c.self.view_is same (c.done.ensures ∙ ap (λ n. reply.Catalog (record { scn = n; read = 0 })) (c.scn.ensures ∙ scn))

pub invariant_of-self-in-Err : goal.invariant_of-self-in-Err
invariant_of-self-in-Err g c =
    let same = ap (event_of c.args.id) c.requires.command in
    let accepted = accepts c.args.id _ (commands.Other (about.Table (CreateTable c.args.table.now))) c.requires.command c.requires.built tt in
    let taken = lookups.taken _ _ _ _ c.args.table.now.name c.self.invariant.core.image.stands ∙ sym c.is_taken-taken.ensures in
    let refused = subst (λ defs. Err c.in-Err.code ≡ defined_or_refused (names_taken (catalog_of c.self.inside.notes.items)) defs c.args.table.now) c.tables.ensures
    (sym c.in-Err.is ∙ c.in_ok-defined.ensures (names_taken (catalog_of c.self.inside.notes.items)) taken) in
    let after = not_created _ c.args.id c.args.table.now _ _ _ _ _ _ c.self.invariant.core accepted c.in-Err.code refused in
    closes _ _ _ _ _ _ _ _ _ _ _ _ _ after c.self.invariant.right c.self.invariant.settled c.reserve.ensures.items (c.note_of-in-Err.ensures ∙ same) c.push_reserved-in-Err.ensures.items
    (omega (arith, c.in_ok-reserve.ensures.ok, c.push_reserved-in-Err.ensures.len, c.push_reserved-in-Err.ensures.capacity))

pub returns-in-Err-clause-reply : goal.returns-in-Err-clause-reply
returns-in-Err-clause-reply g c =
    let same = ap (event_of c.args.id) c.requires.command in
    let accepted = accepts c.args.id _ (commands.Other (about.Table (CreateTable c.args.table.now))) c.requires.command c.requires.built tt in
    let taken = lookups.taken _ _ _ _ c.args.table.now.name c.self.invariant.core.image.stands ∙ sym c.is_taken-taken.ensures in
    let refused = subst (λ defs. Err c.in-Err.code ≡ defined_or_refused (names_taken (catalog_of c.self.inside.notes.items)) defs c.args.table.now) c.tables.ensures
    (sym c.in-Err.is ∙ c.in_ok-defined.ensures (names_taken (catalog_of c.self.inside.notes.items)) taken) in
    let after = not_created _ c.args.id c.args.table.now _ _ _ _ _ _ c.self.invariant.core accepted c.in-Err.code refused in
    answers _ _ _ _ _ _ _ _ _ _ _ after c.self.view_is same c.refusal.ensures

pub push_table-requires-clause-count : goal.push_table-requires-clause-count
push_table-requires-clause-count g c = c.self.invariant.right.indexed.count

pub push_table-requires-clause-settled : goal.push_table-requires-clause-settled
push_table-requires-clause-settled g c = c.self.invariant.settled

pub invariant_of-self-in_err-defined : goal.invariant_of-self-in_err-defined
invariant_of-self-in_err-defined g c =
    waits _ _ _ _ _ _ _ _ _ _ _ c.self.invariant c.reserve.ensures.items refl c.self.invariant.settled (omega (arith, c.in_ok-reserve.ensures.ok))

pub invariant_of-self-in_err-push_table-in-Ok : goal.invariant_of-self-in_err-push_table-in-Ok
invariant_of-self-in_err-push_table-in-Ok g c =
    rw (c.push_table.ensures.scn, c.in_err-push_table-in-Ok.ensures.tables_err, c.in_err-push_table-in-Ok.ensures.keys_err)
    (waits _ _ _ _ _ _ _ _ _ _ _ c.self.invariant c.reserve.ensures.items refl c.self.invariant.settled (omega (arith, c.in_ok-reserve.ensures.ok)))
