use Rattle.std.proofs.Common.{◌≡◌, ◌≤◌, ◌∙◌, Err, ap, arith, length-take, subst, sym, true}
use Rattle.std.specs.List.{list_all}
use Rattle.std.specs.Prelude.{IfSome}
use Rattle.wh_base.specs.declared.statements.ScriptKind.TheVariants as kinds
use Rattle.wh_lex.specs.Lex.{token_fits}
use Rattle.wh_script.proofs.Texts.{broken_by, cut-before, cut-fits, cut-later, first-later, first-within, stopped-cut, stopped-whole, unbroken_by}
use Rattle.wh_script.specs.Pieces.{IsTaken}
use Rattle.wh_script.specs.Texts.{first_place, unreadable}
use Rattle.wh_script.proofs.text.TextAt.fault_at.Goals as goal
use Rattle.wh_script.proofs.text.TextAt.fault_at.Goals.{else-self-valid-via-else-self-valid, else-self-valid-via-then-self-valid+else-valid-place}

pub stop_at-requires-clause-later : goal.stop_at-requires-clause-later
stop_at-requires-clause-later c =
    subst (λ s. IfSome (first_place s) (λ p. c.args.self.mark.place ≤ p)) (sym c.cut-front.ensures) (cut-later _ _ _ c.args.valid c.in-Ok.statement c.in-Ok.ensures.gives c.requires.mark.1)

pub stop_at-requires-clause-before : goal.stop_at-requires-clause-before
stop_at-requires-clause-before c =
    subst (λ s. IfSome (first_place s) (λ p. p ≤ c.args.valid)) (sym c.cut-front.ensures) (cut-before _ _ c.args.valid c.in-Ok.statement c.in-Ok.ensures.gives)

pub stop_at-requires-clause-numbers : goal.stop_at-requires-clause-numbers
stop_at-requires-clause-numbers c =
    subst (λ s. list_all token_fits s.tokens ≡ true) (sym c.cut-front.ensures) (cut-fits c.in-Ok.statement c.args.valid c.in-Ok.ensures.part.numbers)

pub returns-then-valid-place : goal.returns-then-valid-place
returns-then-valid-place c =
    let earlier = broken_by c.args.valid c.args.self.at c.args.place c.if-self-valid.true c.if-valid-place.true in
    subst (λ es. IsTaken c.args.bytes.now c.args.self.draft es (Err c.stop_at.result))
    (ap (λ s. unreadable s kinds.NotUtf8 c.args.valid) c.cut-front.ensures
    ∙ stopped-cut c.args.bytes.now c.args.valid c.args.kind c.args.place c.args.self.at c.in-Ok.statement earlier c.in-Ok.ensures.part c.requires.open)
    c.stop_at.ensures

pub stop_at-requires-2-clause-later : goal.stop_at-requires-2-clause-later
stop_at-requires-2-clause-later c = first-later _ _ _ c.in-Ok.statement c.in-Ok.ensures.gives c.requires.mark.1

pub stop_at-requires-2-clause-before : goal.stop_at-requires-2-clause-before
stop_at-requires-2-clause-before c =
    let part = c.in-Ok.ensures.part in
    first-within _ _ _ c.in-Ok.statement c.in-Ok.ensures.gives (omega (arith, part.within, length-take c.args.place c.args.bytes.now, c.requires.within))

pub returns : goal.returns
returns c =
    let apart : c.args.self.at ≤ c.args.valid → c.args.valid ≤ c.args.place → ⊥ =
    elim c.else-self-valid.branch [
      | else-self-valid-via-then-self-valid+else-valid-place w ↦ (λ low high. absurd (omega (arith, w.if-valid-place.false, high)))
      | else-self-valid-via-else-self-valid w ↦ (λ low high. absurd (omega (arith, w.if-self-valid.false, low)))
    ] in
    let later = unbroken_by c.args.valid c.args.self.at c.args.place apart in
    subst (λ es. IsTaken c.args.bytes.now c.args.self.draft es (Err c.stop_at-2.result))
    (stopped-whole c.args.bytes.now c.args.valid c.args.kind c.args.place c.args.self.at c.in-Ok.statement later c.in-Ok.ensures.part c.requires.open)
    c.stop_at-2.ensures
