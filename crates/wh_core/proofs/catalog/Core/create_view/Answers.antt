use Rattle.std.proofs.Common.{◌∙◌, sym, ap, refl, subst, arith}
use Rattle.wh_base.specs.declared.replies.Reply.TheVariants as reply
use Rattle.wh_base.specs.declared.statements.Command.TheVariants as commands
use Rattle.wh_base.specs.declared.statements.Statement.TheVariants as about
use Rattle.wh_base.specs.declared.statements.ViewStatement.TheVariants.{CreateView}
use Rattle.def_history.specs.Catalog.{base_now}
use Rattle.def_journal.specs.Journal.{event_of}
use Rattle.wh_core.proofs.Closing.{accepts, answers, closes, stands_apart}
use Rattle.wh_core.proofs.Viewed.{asked_resolves, made_view, not_made}
use Rattle.law_trace.specs.Reached.{catalog_of}
use Rattle.wh_view.specs.Kept.{added}
use Rattle.law_views.specs.Read.{IsRead}
use Rattle.wh_core.proofs.catalog.Core.create_view.Goals as goal

pub built_view-requires-clause-known : goal.built_view-requires-clause-known
built_view-requires-clause-known g c =
    let star = sym c.in-Ok.is ∙ c.in_ok-query.ensures in
    let resolved = asked_resolves _ _ _ _ _ _ _ c.self.invariant.core c.args.view.now c.in-Ok.query star in
    let can = c.known.ensures.asked c.self.inside.notes.items c.args.view.now.asked.query c.in-Ok.query c.self.invariant.core.image resolved in
    can.known

pub returns-in_err-built-in-Ok-clause-most : goal.returns-in_err-built-in-Ok-clause-most
returns-in_err-built-in-Ok-clause-most g c =
    let star = sym c.in-Ok.is ∙ c.in_ok-query.ensures in
    let resolved = asked_resolves _ _ _ _ _ _ _ c.self.invariant.core c.args.view.now c.in-Ok.query star in
    let can = c.known.ensures.asked c.self.inside.notes.items c.args.view.now.asked.query c.in-Ok.query c.self.invariant.core.image resolved in
    omega (arith, can.few, c.built_view.ensures.most (base_now (catalog_of c.self.inside.notes.items)) can.shown)

pub add-requires-clause-next : goal.add-requires-clause-next
add-requires-clause-next g c =
    let star = sym c.in-Ok.is ∙ c.in_ok-query.ensures in
    let resolved = asked_resolves _ _ _ _ _ _ _ c.self.invariant.core c.args.view.now c.in-Ok.query star in
    let can = c.known.ensures.asked c.self.inside.notes.items c.args.view.now.asked.query c.in-Ok.query c.self.invariant.core.image resolved in
    ap (λ k. k.view.def.view) (c.in_ok-built-in-Ok.ensures.kept (base_now (catalog_of c.self.inside.notes.items)) can.shown)

pub returns-in_err-add-in-Ok-clause-most : goal.returns-in_err-add-in-Ok-clause-most
returns-in_err-add-in-Ok-clause-most g c =
    let star = sym c.in-Ok.is ∙ c.in_ok-query.ensures in
    let resolved = asked_resolves _ _ _ _ _ _ _ c.self.invariant.core c.args.view.now c.in-Ok.query star in
    let can = c.known.ensures.asked c.self.inside.notes.items c.args.view.now.asked.query c.in-Ok.query c.self.invariant.core.image resolved in
    omega (arith, can.few, c.built_view.ensures.most (base_now (catalog_of c.self.inside.notes.items)) can.shown)

pub returns-in_ok-add-in-Ok-clause-most : goal.returns-in_ok-add-in-Ok-clause-most
returns-in_ok-add-in-Ok-clause-most g c =
    let star = sym c.in-Ok.is ∙ c.in_ok-query.ensures in
    let resolved = asked_resolves _ _ _ _ _ _ _ c.self.invariant.core c.args.view.now c.in-Ok.query star in
    let can = c.known.ensures.asked c.self.inside.notes.items c.args.view.now.asked.query c.in-Ok.query c.self.invariant.core.image resolved in
    omega (arith, can.few, c.built_view.ensures.most (base_now (catalog_of c.self.inside.notes.items)) can.shown)

pub invariant_of-self-in-Ok : goal.invariant_of-self-in-Ok
invariant_of-self-in-Ok g c =
    let same = ap (event_of c.args.id) c.requires.command in
    let accepted = accepts c.args.id _ (commands.Other (about.View (CreateView c.args.view.now))) c.requires.command c.requires.built (subst IsRead c.requires.command c.requires.read) in
    let apart = stands_apart c.self.inside.notes.items _ _ (commands.Other (about.View (CreateView c.args.view.now))) c.self.view_is c.requires.command c.requires.over_tables in
    let star = sym c.in-Ok.is ∙ c.in_ok-query.ensures in
    let resolved = asked_resolves _ _ _ _ _ _ _ c.self.invariant.core c.args.view.now c.in-Ok.query star in
    let can = c.known.ensures.asked c.self.inside.notes.items c.args.view.now.asked.query c.in-Ok.query c.self.invariant.core.image resolved in
    let after = made_view _ c.args.id c.args.view.now _ _ _ _ _ _ c.self.invariant.core accepted apart c.in-Ok.query star _ _ refl refl in
    let views = c.in_ok-add-in-Ok.ensures.ok ∙ ap (λ k. added k c.self.inside.image.views) (c.in_ok-built-in-Ok.ensures.kept (base_now (catalog_of c.self.inside.notes.items)) can.shown) in
    rw views
    (closes _ _ _ _ _ _ _ _ _ _ _ _ _ after c.self.invariant.right c.self.invariant.settled c.reserve.ensures.items (c.note_of.ensures ∙ same) c.push_reserved.ensures.items
    (omega (arith, c.in_ok-reserve.ensures.ok, c.push_reserved.ensures.len, c.push_reserved.ensures.capacity)))

pub returns-in_ok-add-in-Ok-clause-reply : goal.returns-in_ok-add-in-Ok-clause-reply
returns-in_ok-add-in-Ok-clause-reply g c =
    let same = ap (event_of c.args.id) c.requires.command in
    let accepted = accepts c.args.id _ (commands.Other (about.View (CreateView c.args.view.now))) c.requires.command c.requires.built (subst IsRead c.requires.command c.requires.read) in
    let apart = stands_apart c.self.inside.notes.items _ _ (commands.Other (about.View (CreateView c.args.view.now))) c.self.view_is c.requires.command c.requires.over_tables in
    let star = sym c.in-Ok.is ∙ c.in_ok-query.ensures in
    let resolved = asked_resolves _ _ _ _ _ _ _ c.self.invariant.core c.args.view.now c.in-Ok.query star in
    let can = c.known.ensures.asked c.self.inside.notes.items c.args.view.now.asked.query c.in-Ok.query c.self.invariant.core.image resolved in
    let after = made_view _ c.args.id c.args.view.now _ _ _ _ _ _ c.self.invariant.core accepted apart c.in-Ok.query star _ _ refl refl in
    let read = c.in_ok-built-in-Ok.ensures.read (base_now (catalog_of c.self.inside.notes.items)) can.shown in
    answers _ _ _ _ _ _ _ _ _ _ _ after c.self.view_is same (c.done.ensures ∙ (λ i. reply.Catalog (record { scn = c.scn.ensures i; read = read i })))

pub invariant_of-self-in-Err : goal.invariant_of-self-in-Err
invariant_of-self-in-Err g c =
    let same = ap (event_of c.args.id) c.requires.command in
    let accepted = accepts c.args.id _ (commands.Other (about.View (CreateView c.args.view.now))) c.requires.command c.requires.built (subst IsRead c.requires.command c.requires.read) in
    let apart = stands_apart c.self.inside.notes.items _ _ (commands.Other (about.View (CreateView c.args.view.now))) c.self.view_is c.requires.command c.requires.over_tables in
    let after = not_made _ c.args.id c.args.view.now _ _ _ _ _ _ c.self.invariant.core accepted apart c.in-Err.code (sym c.in-Err.is ∙ c.in_ok-query.ensures) in
    closes _ _ _ _ _ _ _ _ _ _ _ _ _ after c.self.invariant.right c.self.invariant.settled c.reserve.ensures.items (c.note_of-in-Err.ensures ∙ same) c.push_reserved-in-Err.ensures.items
    (omega (arith, c.in_ok-reserve.ensures.ok, c.push_reserved-in-Err.ensures.len, c.push_reserved-in-Err.ensures.capacity))

pub returns-in-Err-clause-reply : goal.returns-in-Err-clause-reply
returns-in-Err-clause-reply g c =
    let same = ap (event_of c.args.id) c.requires.command in
    let accepted = accepts c.args.id _ (commands.Other (about.View (CreateView c.args.view.now))) c.requires.command c.requires.built (subst IsRead c.requires.command c.requires.read) in
    let apart = stands_apart c.self.inside.notes.items _ _ (commands.Other (about.View (CreateView c.args.view.now))) c.self.view_is c.requires.command c.requires.over_tables in
    let after = not_made _ c.args.id c.args.view.now _ _ _ _ _ _ c.self.invariant.core accepted apart c.in-Err.code (sym c.in-Err.is ∙ c.in_ok-query.ensures) in
    answers _ _ _ _ _ _ _ _ _ _ _ after c.self.view_is same c.refusal.ensures
