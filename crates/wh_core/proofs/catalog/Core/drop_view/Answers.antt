use Rattle.std.proofs.Common.{◌∙◌, sym, ap, refl, subst, arith, ◌-◌}
use Rattle.std.specs.Vec.{vec_capacity, vec_len}
use Rattle.wh_base.specs.declared.replies.Refusal.TheVariants.{NoSuchObject}
use Rattle.wh_base.specs.declared.replies.Reply.TheVariants as reply
use Rattle.wh_base.specs.declared.statements.Command.TheVariants as commands
use Rattle.wh_base.specs.declared.statements.Statement.TheVariants as about
use Rattle.wh_base.specs.declared.statements.ViewStatement.TheVariants.{DropView}
use Rattle.def_journal.specs.Journal.{event_of}
use Rattle.wh_core.proofs.Closing.{accepts, answers, closes, waits}
use Rattle.wh_core.proofs.Viewed.{drops, drops_none}
use Rattle.wh_core.specs.Kept.{IsIndexed}
use Rattle.wh_core.specs.Put.{refusal_after}
use Rattle.wh_core.proofs.catalog.Core.drop_view.Goals as goal

pub invariant_of-self-in_default : goal.invariant_of-self-in_default
invariant_of-self-in_default g c =
    let same = ap (event_of c.args.id) c.requires.command in
    let accepted = accepts c.args.id _ (commands.Other (about.View (DropView c.args.name.now))) c.requires.command c.requires.built tt in
    let after = drops_none _ c.args.id _ _ _ _ _ _ c.self.invariant.core c.args.name.now accepted (sym c.in_default.ensures) in
    closes _ _ _ _ _ _ _ _ _ _ _ _ _ after c.self.invariant.right c.self.invariant.settled c.reserve.ensures.items (c.note_of.ensures ∙ same) c.push_reserved.ensures.items
    (omega (arith, c.in_ok-reserve.ensures.ok, c.push_reserved.ensures.len, c.push_reserved.ensures.capacity))

pub returns-in_default-clause-reply : goal.returns-in_default-clause-reply
returns-in_default-clause-reply g c =
    let same = ap (event_of c.args.id) c.requires.command in
    let accepted = accepts c.args.id _ (commands.Other (about.View (DropView c.args.name.now))) c.requires.command c.requires.built tt in
    let after = drops_none _ c.args.id _ _ _ _ _ _ c.self.invariant.core c.args.name.now accepted (sym c.in_default.ensures) in
    answers _ _ _ _ _ _ _ _ _ _ _ after c.self.view_is same (c.refusal.ensures ∙ ap (λ n. refusal_after 0 (NoSuchObject n)) c.in_ok-name.ensures)

pub invariant_of-self-2 : goal.invariant_of-self-2
invariant_of-self-2 g c =
    let same = ap (event_of c.args.id) c.requires.command in
    let accepted = accepts c.args.id _ (commands.Other (about.View (DropView c.args.name.now))) c.requires.command c.requires.built tt in
    let after = drops _ c.args.id _ _ _ _ _ _ c.self.invariant.core c.args.name.now accepted c.in-Some.number (sym c.in-Some.ensures) in
    subst (λ views. IsIndexed c.push_reserved-2.new.self.items c.self.inside.image.tables.scn c.self.inside.image.tables.tables.items views c.self.inside.kept c.self.inside.begun (vec_capacity c.push_reserved-2.new.self - vec_len c.push_reserved-2.new.self) c.self.inside.keys)
    (sym c.remove.ensures)
    (closes _ _ _ _ _ _ _ _ _ _ _ _ _ after c.self.invariant.right c.self.invariant.settled c.reserve.ensures.items (c.note_of-2.ensures ∙ same) c.push_reserved-2.ensures.items
    (omega (arith, c.in_ok-reserve.ensures.ok, c.push_reserved-2.ensures.len, c.push_reserved-2.ensures.capacity)))

pub returns-clause-reply : goal.returns-clause-reply
returns-clause-reply g c =
    let same = ap (event_of c.args.id) c.requires.command in
    let accepted = accepts c.args.id _ (commands.Other (about.View (DropView c.args.name.now))) c.requires.command c.requires.built tt in
    let after = drops _ c.args.id _ _ _ _ _ _ c.self.invariant.core c.args.name.now accepted c.in-Some.number (sym c.in-Some.ensures) in
    answers _ _ _ _ _ _ _ _ _ _ _ after c.self.view_is same (c.done.ensures ∙ ap (λ n. reply.Catalog (record { scn = n; read = 0 })) c.scn.ensures)

pub invariant_of-self-in_err-name : goal.invariant_of-self-in_err-name
invariant_of-self-in_err-name g c =
    waits _ _ _ _ _ _ _ _ _ _ _ c.self.invariant c.reserve.ensures.items refl c.self.invariant.settled (omega (arith, c.in_ok-reserve.ensures.ok))
