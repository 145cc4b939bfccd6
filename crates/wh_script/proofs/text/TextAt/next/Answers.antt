use Rattle.std.proofs.Common.{◌≡◌, ◌<◌, ◌≤◌, Err, arith, length, length-take, subst, sym, take, true}
use Rattle.std.specs.List.{list_all}
use Rattle.std.specs.Prelude.{IfSome}
use Rattle.wh_base.specs.declared.statements.ScriptKind.TheVariants as kinds
use Rattle.wh_lex.specs.Lex.{token_fits}
use Rattle.wh_script.proofs.Texts.{cut-before, cut-fits, cut-later, elements-cut, elements-next, first-later, first-within, mark-result, mark-within, next-refused, next-result, up_to-bad, up_to-quote}
use Rattle.wh_script.specs.Pieces.{IsTaken}
use Rattle.wh_script.specs.Texts.{cut, elements_up_to, first_place, statement_elements, unreadable}
use Rattle.wh_script.proofs.text.TextAt.next.Goals as goal
use Rattle.wh_script.proofs.text.TextAt.next.Goals.{else-self-valid-via-else-self-valid, else-self-valid-via-then-self-valid+else-valid-statement}

pub stop_at-requires-clause-later : goal.stop_at-requires-clause-later
stop_at-requires-clause-later c =
    subst (λ s. IfSome (first_place s) (λ p. c.args.self.mark.place ≤ p)) (sym c.cut-front.ensures) (cut-later _ _ _ c.args.valid c.in-Ok.statement c.in-Ok.ensures.gives c.requires.mark.1)

pub stop_at-requires-clause-before : goal.stop_at-requires-clause-before
stop_at-requires-clause-before c =
    subst (λ s. IfSome (first_place s) (λ p. p ≤ c.args.valid)) (sym c.cut-front.ensures) (cut-before _ _ c.args.valid c.in-Ok.statement c.in-Ok.ensures.gives)

pub stop_at-requires-clause-numbers : goal.stop_at-requires-clause-numbers
stop_at-requires-clause-numbers c =
    subst (λ s. list_all token_fits s.tokens ≡ true) (sym c.cut-front.ensures) (cut-fits c.in-Ok.statement c.args.valid c.in-Ok.ensures.part.numbers)

pub returns-then-valid-statement-clause-next : goal.returns-then-valid-statement-clause-next
returns-then-valid-statement-clause-next c =
    let cut_at = cut c.in-Ok.statement c.args.valid in
    let taken = subst (λ s. IsTaken c.args.bytes.now c.args.self.draft (unreadable s kinds.NotUtf8 c.args.valid) (Err c.stop_at.result)) c.cut-front.ensures c.stop_at.ensures in
    next-refused c.args.bytes.now c.args.valid c.args.end c.args.self (unreadable cut_at kinds.NotUtf8 c.args.valid) c.stop_at.result
    (elements-cut c.args.bytes.now c.args.valid c.args.end c.args.self.at c.in-Ok.statement c.if-self-valid.true c.if-valid-statement.true c.in-Ok.ensures.gives c.in-Ok.ensures.part)
    taken

pub behind-requires-clause-later : goal.behind-requires-clause-later
behind-requires-clause-later c = first-later _ _ _ c.in-Ok.statement c.in-Ok.ensures.gives c.requires.mark.1

pub behind-requires-clause-within : goal.behind-requires-clause-within
behind-requires-clause-within c =
    let part = c.in-Ok.ensures.part in
    first-within _ _ _ c.in-Ok.statement c.in-Ok.ensures.gives (omega (arith, part.within, length-take c.args.end c.args.bytes.now, c.requires.within))

pub returns-else-self-valid-clause-next : goal.returns-else-self-valid-clause-next
returns-else-self-valid-clause-next c =
    let here : c.args.self.at ≤ length (take c.args.end c.args.bytes.now) = omega (arith, length-take c.args.end c.args.bytes.now, c.requires.before, c.requires.within) in
    let apart : c.args.self.at ≤ c.args.valid → c.args.valid < c.in-Ok.statement.next → ⊥ =
    elim c.else-self-valid.branch [
      | else-self-valid-via-then-self-valid+else-valid-statement w ↦ (λ low high. absurd (omega (arith, w.if-valid-statement.false, high)))
      | else-self-valid-via-else-self-valid w ↦ (λ low high. absurd (omega (arith, w.if-self-valid.false, low)))
    ] in
    next-result c.args.bytes.now c.args.valid c.args.end c.in-Ok.statement.next c.args.self (statement_elements c.in-Ok.statement) c.behind.result
    (elements-next c.args.bytes.now c.args.valid c.args.end c.args.self.at c.in-Ok.statement here apart c.in-Ok.ensures.gives c.in-Ok.ensures.part)
    c.behind.ensures.at c.behind.ensures.taken

pub returns-else-self-valid-clause-mark : goal.returns-else-self-valid-clause-mark
returns-else-self-valid-clause-mark c =
    let part = c.in-Ok.ensures.part in
    mark-result c.args.bytes.now c.behind.result c.in-Ok.statement c.args.self.mark.place c.behind.ensures.at c.behind.ensures.line c.behind.ensures.place
    (mark-within _ _ c.args.self.mark.place c.in-Ok.statement c.in-Ok.ensures.gives c.requires.mark.1 part.later)

pub fault_at-requires-clause-within : goal.fault_at-requires-clause-within
fault_at-requires-clause-within c = (up_to-bad c.args.bytes.now c.args.valid c.args.end c.args.self.at c.in-Err-BadCharacter.field-0 c.in-Err-BadCharacter.place c.requires.before c.requires.within c.in-Err-BadCharacter.field-0-is c.in-Err-BadCharacter.ensures.gives c.in-Err-BadCharacter.ensures.fault).high

pub fault_at-requires-clause-later : goal.fault_at-requires-clause-later
fault_at-requires-clause-later c = (up_to-bad c.args.bytes.now c.args.valid c.args.end c.args.self.at c.in-Err-BadCharacter.field-0 c.in-Err-BadCharacter.place c.requires.before c.requires.within c.in-Err-BadCharacter.field-0-is c.in-Err-BadCharacter.ensures.gives c.in-Err-BadCharacter.ensures.fault).low

pub fault_at-requires-clause-open : goal.fault_at-requires-clause-open
fault_at-requires-clause-open c = (up_to-bad c.args.bytes.now c.args.valid c.args.end c.args.self.at c.in-Err-BadCharacter.field-0 c.in-Err-BadCharacter.place c.requires.before c.requires.within c.in-Err-BadCharacter.field-0-is c.in-Err-BadCharacter.ensures.gives c.in-Err-BadCharacter.ensures.fault).unclosed

pub returns-in-Err-BadCharacter-clause-next : goal.returns-in-Err-BadCharacter-clause-next
returns-in-Err-BadCharacter-clause-next c =
    next-refused c.args.bytes.now c.args.valid c.args.end c.args.self (elements_up_to c.args.bytes.now c.args.valid kinds.BadCharacter c.in-Err-BadCharacter.place c.args.self.at) c.fault_at.result
    (up_to-bad c.args.bytes.now c.args.valid c.args.end c.args.self.at c.in-Err-BadCharacter.field-0 c.in-Err-BadCharacter.place c.requires.before c.requires.within c.in-Err-BadCharacter.field-0-is c.in-Err-BadCharacter.ensures.gives c.in-Err-BadCharacter.ensures.fault).elements c.fault_at.ensures

pub fault_at-requires-in-Err-OpenQuote-clause-within : goal.fault_at-requires-in-Err-OpenQuote-clause-within
fault_at-requires-in-Err-OpenQuote-clause-within c = (up_to-quote c.args.bytes.now c.args.valid c.args.end c.args.self.at c.in-Err-OpenQuote.field-0 c.in-Err-OpenQuote.place c.requires.before c.requires.within c.in-Err-OpenQuote.field-0-is c.in-Err-OpenQuote.ensures.gives c.in-Err-OpenQuote.ensures.fault).high

pub fault_at-requires-in-Err-OpenQuote-clause-later : goal.fault_at-requires-in-Err-OpenQuote-clause-later
fault_at-requires-in-Err-OpenQuote-clause-later c = (up_to-quote c.args.bytes.now c.args.valid c.args.end c.args.self.at c.in-Err-OpenQuote.field-0 c.in-Err-OpenQuote.place c.requires.before c.requires.within c.in-Err-OpenQuote.field-0-is c.in-Err-OpenQuote.ensures.gives c.in-Err-OpenQuote.ensures.fault).low

pub fault_at-requires-in-Err-OpenQuote-clause-open : goal.fault_at-requires-in-Err-OpenQuote-clause-open
fault_at-requires-in-Err-OpenQuote-clause-open c = (up_to-quote c.args.bytes.now c.args.valid c.args.end c.args.self.at c.in-Err-OpenQuote.field-0 c.in-Err-OpenQuote.place c.requires.before c.requires.within c.in-Err-OpenQuote.field-0-is c.in-Err-OpenQuote.ensures.gives c.in-Err-OpenQuote.ensures.fault).unclosed

pub returns-in-Err-OpenQuote-clause-next : goal.returns-in-Err-OpenQuote-clause-next
returns-in-Err-OpenQuote-clause-next c =
    next-refused c.args.bytes.now c.args.valid c.args.end c.args.self (elements_up_to c.args.bytes.now c.args.valid kinds.OpenQuote c.in-Err-OpenQuote.place c.args.self.at) c.fault_at-in-Err-OpenQuote.result
    (up_to-quote c.args.bytes.now c.args.valid c.args.end c.args.self.at c.in-Err-OpenQuote.field-0 c.in-Err-OpenQuote.place c.requires.before c.requires.within c.in-Err-OpenQuote.field-0-is c.in-Err-OpenQuote.ensures.gives c.in-Err-OpenQuote.ensures.fault).elements c.fault_at-in-Err-OpenQuote.ensures
