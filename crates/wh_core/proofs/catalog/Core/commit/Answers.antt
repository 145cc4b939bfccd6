use Rattle.std.proofs.Common.{◌≡◌, ◌+◌, ◌∙◌, ap, refl, sym, subst, arith}
use Rattle.std.specs.Prelude.{Ok}
use Rattle.wh_base.specs.declared.replies.Reply.TheVariants as reply
use Rattle.wh_base.specs.declared.statements.Command.TheVariants as commands
use Rattle.def_journal.specs.Journal.{event_of}
use Rattle.wh_check.specs.Effects.{IsOutcome, KeysLeft, Stops, read_by}
use Rattle.wh_constraints.specs.Constraints.{AreRight}
use Rattle.wh_core.proofs.Closing.{accepts, answers, closes, waits}
use Rattle.wh_core.proofs.Commits.{commits, stops, tables_sized, versions_few}
use Rattle.wh_core.proofs.catalog.Core.commit.Goals as goal

pub check_block-requires-clause-sized : goal.check_block-requires-clause-sized
check_block-requires-clause-sized g c = tables_sized _ _ _ _ _ _ _ c.self.invariant.core c.tables_have_sizes.ensures

pub check_block-requires-clause-whole : goal.check_block-requires-clause-whole
check_block-requires-clause-whole g c = c.self.invariant.core.image.stands.whole

pub check_block-requires-clause-right : goal.check_block-requires-clause-right
check_block-requires-clause-right g c = c.self.invariant.right

pub check_block-requires-clause-settled : goal.check_block-requires-clause-settled
check_block-requires-clause-settled g c = c.self.invariant.settled

pub check_block-requires-clause-kept : goal.check_block-requires-clause-kept
check_block-requires-clause-kept g c = versions_few _ _ _ _ _ _ _ c.self.invariant.core

pub invariant_of-self-in-Ok : goal.invariant_of-self-in-Ok
invariant_of-self-in-Ok g c =
    let same = ap (event_of c.args.id) c.requires.command in
    let accepted = accepts c.args.id _ (commands.Block c.args.block.now) c.requires.command c.requires.built tt in
    let makes = subst (λ ss. IsOutcome c.self.inside.image.tables.scn c.self.inside.image.tables.tables.items c.self.inside.kept ss (Ok c.in-Ok.field-0)) c.as_slice.ensures.items
    (subst (IsOutcome c.self.inside.image.tables.scn c.self.inside.image.tables.tables.items c.self.inside.kept c.as_slice.result.now) c.in-Ok.is c.in_ok-tables.ensures.outcome) in
    let after = commits _ c.args.id c.args.block.now _ _ _ _ _ _ c.self.invariant.core accepted _ _ _ _ _ makes in
    let right = subst (KeysLeft c.self.inside.keys.now c.check_block.new.keys.now) c.in-Ok.is c.in_ok-tables.ensures.right in
    closes _ _ _ _ _ _ _ _ _ _ _ _ c.check_block.new.keys after right c.check_block.ensures.settled c.reserve.ensures.items (c.note_of.ensures ∙ same) c.push_reserved.ensures.items
    (omega (arith, c.in_ok-reserve.ensures.ok, c.push_reserved.ensures.len, c.push_reserved.ensures.capacity))

pub returns-in-Ok-clause-reply : goal.returns-in-Ok-clause-reply
returns-in-Ok-clause-reply g c =
    let same = ap (event_of c.args.id) c.requires.command in
    let accepted = accepts c.args.id _ (commands.Block c.args.block.now) c.requires.command c.requires.built tt in
    let makes = subst (λ ss. IsOutcome c.self.inside.image.tables.scn c.self.inside.image.tables.tables.items c.self.inside.kept ss (Ok c.in-Ok.field-0)) c.as_slice.ensures.items
    (subst (IsOutcome c.self.inside.image.tables.scn c.self.inside.image.tables.tables.items c.self.inside.kept c.as_slice.result.now) c.in-Ok.is c.in_ok-tables.ensures.outcome) in
    let after = commits _ c.args.id c.args.block.now _ _ _ _ _ _ c.self.invariant.core accepted _ _ _ _ _ makes in
    answers _ _ _ _ _ _ _ _ _ _ _ after c.self.view_is same
    (λ i. reply.Commit (record { scn = c.scn-scn.ensures i; rows = c.in-Ok.field-0.rows; read = c.in-Ok.field-0.read; views = c.new.ensures i }))

pub returns-in-Ok-clause-raised : goal.returns-in-Ok-clause-raised
returns-in-Ok-clause-raised g c = subst (λ r. c.check_block.new.reads ≡ c.args.reads.now + read_by r) c.in-Ok.is c.in_ok-tables.ensures.raised

pub invariant_of-self-in-Err : goal.invariant_of-self-in-Err
invariant_of-self-in-Err g c =
    let same = ap (event_of c.args.id) c.requires.command in
    let accepted = accepts c.args.id _ (commands.Block c.args.block.now) c.requires.command c.requires.built tt in
    let stopped = subst (λ ss. Stops c.self.inside.image.tables.scn c.self.inside.image.tables.tables.items c.self.inside.kept ss c.in-Err.refused) c.as_slice.ensures.items
    (subst (IsOutcome c.self.inside.image.tables.scn c.self.inside.image.tables.tables.items c.self.inside.kept c.as_slice.result.now) c.in-Err.is c.in_ok-tables.ensures.outcome) in
    let after = stops _ c.args.id c.args.block.now _ _ _ _ _ _ c.self.invariant.core accepted c.in-Err.refused stopped in
    let left = subst (KeysLeft c.self.inside.keys.now c.check_block.new.keys.now) c.in-Err.is c.in_ok-tables.ensures.right in
    let right = subst (AreRight c.self.inside.image.tables.scn c.self.inside.image.tables.tables.items) (sym left) c.self.invariant.right in
    closes _ _ _ _ _ _ _ _ _ _ _ _ c.check_block.new.keys after right c.check_block.ensures.settled c.reserve.ensures.items (c.note_of-in-Err.ensures ∙ same) c.push_reserved-in-Err.ensures.items
    (omega (arith, c.in_ok-reserve.ensures.ok, c.push_reserved-in-Err.ensures.len, c.push_reserved-in-Err.ensures.capacity))

pub returns-in-Err-clause-reply : goal.returns-in-Err-clause-reply
returns-in-Err-clause-reply g c =
    let same = ap (event_of c.args.id) c.requires.command in
    let accepted = accepts c.args.id _ (commands.Block c.args.block.now) c.requires.command c.requires.built tt in
    let stopped = subst (λ ss. Stops c.self.inside.image.tables.scn c.self.inside.image.tables.tables.items c.self.inside.kept ss c.in-Err.refused) c.as_slice.ensures.items
    (subst (IsOutcome c.self.inside.image.tables.scn c.self.inside.image.tables.tables.items c.self.inside.kept c.as_slice.result.now) c.in-Err.is c.in_ok-tables.ensures.outcome) in
    let after = stops _ c.args.id c.args.block.now _ _ _ _ _ _ c.self.invariant.core accepted c.in-Err.refused stopped in
    answers _ _ _ _ _ _ _ _ _ _ _ after c.self.view_is same refl

pub returns-in-Err-clause-raised : goal.returns-in-Err-clause-raised
returns-in-Err-clause-raised g c = subst (λ r. c.check_block.new.reads ≡ c.args.reads.now + read_by r) c.in-Err.is c.in_ok-tables.ensures.raised

pub invariant_of-self-in_err-tables : goal.invariant_of-self-in_err-tables
invariant_of-self-in_err-tables g c =
    waits _ _ _ _ _ _ _ _ _ _ _ c.self.invariant c.reserve.ensures.items c.in_err-tables.ensures.err c.check_block.ensures.settled (omega (arith, c.in_ok-reserve.ensures.ok))
