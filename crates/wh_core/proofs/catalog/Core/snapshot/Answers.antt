use Rattle.std.proofs.Common.{◌∙◌, ap, subst, arith, ◌++◌, ◌∷◌, []}
use Rattle.wh_base.specs.declared.statements.Command.TheVariants as commands
use Rattle.def_journal.specs.Journal.{event_of}
use Rattle.wh_core.proofs.Begins.{begun_core}
use Rattle.wh_core.proofs.Closing.{accepts}
use Rattle.law_views.specs.Read.{IsRead}
use Rattle.wh_core.proofs.catalog.Core.snapshot.Goals as goal

pub invariant_of-self-2 : goal.invariant_of-self-2
invariant_of-self-2 g c =
    let same = ap (event_of c.args.id) c.requires.command in
    let accepted = accepts c.args.id _ (commands.Other c.args.statement.now) c.requires.command c.requires.built (subst IsRead c.requires.command c.requires.read) in
    let items = c.push_reserved.ensures.items ∙ (λ i. c.reserve.ensures.items i ++ (c.note_of.ensures ∙ same) i ∷ []) in
    record {
      core = rw (items, c.begins_of-begins.ensures)
          (begun_core _ c.args.id c.args.statement.now _ _ _ _ _ _ c.self.invariant.core accepted c.requires.reads _
          (omega (arith, c.in_ok-reserve.ensures.ok, c.push_reserved.ensures.len, c.push_reserved.ensures.capacity, c.begins_of-begins.ensures)));
      right = c.self.invariant.right;
      settled = c.self.invariant.settled;
    }
