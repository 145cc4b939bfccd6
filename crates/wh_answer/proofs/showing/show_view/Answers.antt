use Rattle.std.proofs.Common.{◌∙◌, ap, sym}
use Rattle.std.specs.Option.{option_copied}
use Rattle.wh_answer.proofs.Named.{shown_none, shown_some}
use Rattle.wh_answer.proofs.showing.show_view.Goals as goal
use Rattle.wh_answer.specs.Answered.{refusal}
use Rattle.wh_base.specs.declared.replies.Refusal.TheVariants.{NoSuchObject}

pub returns-in_ok-reply-in-Some : goal.returns-in_ok-reply-in-Some
returns-in_ok-reply-in-Some g c = λ trace is.
    shown_some c.args.image.now.tables.scn c.args.image.now.tables.tables.items c.args.image.now.views trace is c.args.name.now c.in-Some.view.now c.in_ok-reply-in-Some.reply
    (sym c.named.ensures ∙ ap option_copied c.in-Some.is) c.in_ok-reply-in-Some.ensures

pub returns-in_ok-name-in-None : goal.returns-in_ok-name-in-None
returns-in_ok-name-in-None g c = λ trace is.
    c.refused.ensures
    ∙ ap (λ name. refusal (NoSuchObject name)) c.in_ok-name-in-None.ensures
    ∙ shown_none c.args.image.now.tables.scn c.args.image.now.tables.tables.items c.args.image.now.views trace is c.args.name.now (sym c.named.ensures ∙ ap option_copied c.in-None.is)
