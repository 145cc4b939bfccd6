use Rattle.std.proofs.Common.{◌∙◌, ap, sym}
use Rattle.def_resolve.specs.Resolve.{resolve}
use Rattle.wh_answer.proofs.Chosen.{refused_is, selected_err, selected_ok}
use Rattle.wh_answer.proofs.selecting.select.Goals as goal
use Rattle.wh_answer.specs.Answered.{refusal}

pub answer-requires-clause-resolved : goal.answer-requires-clause-resolved
answer-requires-clause-resolved g c = ap (λ ds. resolve ds c.args.asked.now.query) (sym c.tables.ensures) ∙ sym c.in-Ok.ensures

pub returns-in_ok-reply-in-Ok-clause-reply : goal.returns-in_ok-reply-in-Ok-clause-reply
returns-in_ok-reply-in-Ok-clause-reply g c = λ trace is.
    selected_ok c.args.image.now.tables.scn c.args.image.now.tables.tables.items c.args.image.now.views trace is c.args.enabled c.args.asked.now c.in-Ok.query c.in_ok-reply-in-Ok.reply c.requires.built
    (ap (λ ds. resolve ds c.args.asked.now.query) (sym c.tables.ensures) ∙ sym c.in-Ok.ensures) (c.in_ok-reply-in-Ok.ensures.reply trace is)

pub returns-in-Err-Refused-clause-reply : goal.returns-in-Err-Refused-clause-reply
returns-in-Err-Refused-clause-reply g c = λ trace is.
    c.refused.ensures
    ∙ ap refusal c.in-Err-Refused.code-is
    ∙ selected_err c.args.image.now.tables.scn c.args.image.now.tables.tables.items c.args.image.now.views trace is c.args.enabled c.args.asked.now c.in-Err-Refused.code
    (ap (λ ds. resolve ds c.args.asked.now.query) (sym c.tables.ensures)
    ∙ refused_is c.in-Err-Refused.field-0 c.in-Err-Refused.code (resolve c.tables.result.now c.args.asked.now.query) c.in-Err-Refused.field-0-is c.in-Err-Refused.ensures)
