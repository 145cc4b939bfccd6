use Rattle.std.proofs.Common.{◌≡◌, ◌∙◌, arith, false, length-drop, sym, true}
use Rattle.std.proofs.lemmas.List.{take_rest}
use Rattle.wh_lex.specs.Lex.{is_semicolon}
use Rattle.wh_lex.proofs.Steps.{step, with_tokens-token, with_tokens-closed}
use Rattle.wh_lex.proofs.lex.up_to_semicolon.Goals as goal

pub loop-at-preserved-in-Blank : goal.loop-at-preserved-in-Blank
loop-at-preserved-in-Blank c =
    let seen = step c.args.text.now c.loop-at.at _ c.loop-at.tokens _ (omega arith) (rw take_rest at c.in-Ok.ensures.front) c.loop-at.invariant.rest in
    let within = rw c.in-Blank.is at (rw take_rest at c.in-Ok.ensures.within) in
    record { within = omega (arith, length-drop c.loop-at.at c.args.text.now); rest = rw c.in-Blank.is at seen }

pub loop-at-preserved : goal.loop-at-preserved
loop-at-preserved c =
    let stays : is_semicolon c.in-Token.kind c.in-Token.words ≡ false = sym c.is_semicolon-closes.ensures ∙ c.if-closes.false in
    let seen = step c.args.text.now c.loop-at.at _ c.loop-at.tokens _ (omega arith) (rw take_rest at c.in-Ok.ensures.front) c.loop-at.invariant.rest in
    let within = rw c.in-Token.is at (rw take_rest at c.in-Ok.ensures.within) in
    record {
      within = omega (arith, length-drop c.loop-at.at c.args.text.now);
      rest = rw c.in-Ok-push.ensures.ok (sym (with_tokens-token c.loop-at.tokens c.in-Token.kind c.in-Token.words c.loop-at.at c.in-Token.more _ stays) ∙ rw c.in-Token.is at seen);
    }

pub returns-then-closes : goal.returns-then-closes
returns-then-closes c =
    let closes : is_semicolon c.in-Token.kind c.in-Token.words ≡ true = sym c.is_semicolon-closes.ensures ∙ c.if-closes.true in
    let seen = step c.args.text.now c.loop-at.at _ c.loop-at.tokens _ (omega arith) (rw take_rest at c.in-Ok.ensures.front) c.loop-at.invariant.rest in
    sym (rw c.in-Token.is at seen) ∙ with_tokens-closed c.loop-at.tokens c.in-Token.kind c.in-Token.words c.loop-at.at c.in-Token.more _ closes

pub returns-in-Bad : goal.returns-in-Bad
returns-in-Bad c =
    let seen = step c.args.text.now c.loop-at.at _ c.loop-at.tokens _ (omega arith) (rw take_rest at c.in-Ok.ensures.front) c.loop-at.invariant.rest in
    sym (rw c.in-Bad.is at seen)

pub returns-in-Open : goal.returns-in-Open
returns-in-Open c =
    let seen = step c.args.text.now c.loop-at.at _ c.loop-at.tokens _ (omega arith) (rw take_rest at c.in-Ok.ensures.front) c.loop-at.invariant.rest in
    sym (rw c.in-Open.is at seen)
