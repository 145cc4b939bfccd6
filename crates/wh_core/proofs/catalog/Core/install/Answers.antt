use Rattle.std.proofs.Common.{◌∙◌, sym, ap, subst, refl, arith, ◌-◌}
use Rattle.std.specs.Vec.{vec_capacity, vec_len}
use Rattle.wh_base.specs.declared.statements.Command.TheVariants as commands
use Rattle.wh_base.specs.declared.statements.Statement.TheVariants as about
use Rattle.def_output.specs.Reads.{read_of}
use Rattle.wh_core.proofs.Closing.{accepts_install, answers, closes}
use Rattle.wh_core.proofs.Installs.{has_begun, installed, reads_told}
use Rattle.wh_core.specs.Calls.{HasBegun, bearer_of, install_of}
use Rattle.wh_core.specs.Kept.{IsIndexed}
use Rattle.wh_core.proofs.catalog.Core.install.Goals as goal

pub overflow_sub-self : goal.overflow_sub-self
overflow_sub-self g c =
    omega (arith, has_begun _ _ _ _ (subst (λ t. HasBegun t (bearer_of c.args.id) c.args.begun c.args.computed) (sym c.self.view_is) c.requires.begun), c.self.invariant.core.enough)

pub push_reserved-requires : goal.push_reserved-requires
push_reserved-requires g c =
    omega (arith, has_begun _ _ _ _ (subst (λ t. HasBegun t (bearer_of c.args.id) c.args.begun c.args.computed) (sym c.self.view_is) c.requires.begun), c.self.invariant.core.enough, c.self.invariant.core.fits)

pub invariant_of-self : goal.invariant_of-self
invariant_of-self g c =
    let same = ap (install_of c.args.id) c.requires.command in
    let accepted = accepts_install c.args.id _ (commands.Other (about.Refresh c.args.asked.now)) c.requires.command c.requires.built tt in
    let begun = subst (λ t. HasBegun t (bearer_of c.args.id) c.args.begun c.args.computed) (sym c.self.view_is) c.requires.begun in
    let after = installed _ c.args.id c.args.asked.now _ _ _ _ _ _ c.self.invariant.core accepted c.args.begun c.requires.name c.as_slice.ensures.numbered c.args.computed begun in
    subst (λ views. IsIndexed c.push_reserved.new.self.items c.self.inside.image.tables.scn c.self.inside.image.tables.tables.items views c.self.inside.kept (c.self.inside.begun - 1) (vec_capacity c.push_reserved.new.self - vec_len c.push_reserved.new.self) c.self.inside.keys)
    (sym c.put.ensures.views)
    (closes _ _ _ _ _ _ _ _ _ _ _ _ _ after c.self.invariant.right c.self.invariant.settled refl (c.install_note.ensures ∙ same) c.push_reserved.ensures.items
    (omega (arith, c.self.invariant.core.fits, c.push_reserved.ensures.len, c.push_reserved.ensures.capacity)))

pub returns-clause-reply : goal.returns-clause-reply
returns-clause-reply g c =
    let same = ap (install_of c.args.id) c.requires.command in
    let accepted = accepts_install c.args.id _ (commands.Other (about.Refresh c.args.asked.now)) c.requires.command c.requires.built tt in
    let begun = subst (λ t. HasBegun t (bearer_of c.args.id) c.args.begun c.args.computed) (sym c.self.view_is) c.requires.begun in
    let after = installed _ c.args.id c.args.asked.now _ _ _ _ _ _ c.self.invariant.core accepted c.args.begun c.requires.name c.as_slice.ensures.numbered c.args.computed begun in
    answers _ _ _ _ _ _ _ _ _ _ _ after c.self.view_is same c.put.ensures.reply

pub returns-clause-read : goal.returns-clause-read
returns-clause-read g c = ap read_of c.put.ensures.reply ∙ reads_told _ _ c.self.inside.image.views c.args.begun c.args.computed c.requires.begun
