use Rattle.std.proofs.Common.{Err, ap, arith, subst, sym, ◌∙◌}
use Rattle.def_grammar.specs.Script.{bad}
use Rattle.wh_script.proofs.Texts.{first-most, mark-before, stop-taken}
use Rattle.wh_script.specs.Pieces.{IsTaken}
use Rattle.wh_script.specs.Texts.{after_text, draft_of, first_place, unreadable}
use Rattle.wh_script.specs.declared.fault.ScriptFault.TheVariants as faults
use Rattle.wh_script.proofs.text.TextAt.stop_at.Goals as goal

pub behind-requires-clause-within : goal.behind-requires-clause-within
behind-requires-clause-within c = first-most (first_place c.args.statement.now) c.args.place _ c.requires.before c.requires.within

pub mark_at-requires-clause-later : goal.mark_at-requires-clause-later
mark_at-requires-clause-later c =
    let last = mark-before (first_place c.args.statement.now) c.args.self.mark.place c.args.place c.requires.before c.requires.marked in
    omega (arith, last, c.in-Ok.ensures.place)

pub returns-in-Ok : goal.returns-in-Ok
returns-in-Ok c =
    let taken = stop-taken c.args.bytes.now c.args.self.draft c.args.kind c.args.place c.args.statement.now (draft_of c.behind.result) c.behind.ensures.taken in
    subst (λ f. IsTaken c.args.bytes.now c.args.self.draft (unreadable c.args.statement.now c.args.kind c.args.place) (Err f))
    (ap (λ r. after_text c.args.bytes.now c.args.kind c.args.place (draft_of r)) c.in-Ok.is
    ∙ sym (c.bad.ensures ∙ ap (λ n. faults.Bad (bad n c.args.kind)) c.mark_at.ensures.line))
    taken

pub returns-in-Err : goal.returns-in-Err
returns-in-Err c =
    let taken = stop-taken c.args.bytes.now c.args.self.draft c.args.kind c.args.place c.args.statement.now (draft_of c.behind.result) c.behind.ensures.taken in
    subst (λ f. IsTaken c.args.bytes.now c.args.self.draft (unreadable c.args.statement.now c.args.kind c.args.place) (Err f))
    (ap (λ r. after_text c.args.bytes.now c.args.kind c.args.place (draft_of r)) c.in-Err.is)
    taken
