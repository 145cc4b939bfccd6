use Rattle.wh_session.proofs.Replying.{show_reply, shows_unread}
use Rattle.wh_session.proofs.snapshots.show_part.Goals as goal

pub returns-clause-reply : goal.returns-clause-reply
returns-clause-reply g c =
    show_reply c.plain_sessions.ensures c.args.core.now c.args.id c.built.ensures c.shows_agree.ensures c.args.command.now c.args.statement.now c.args.shown.now c.in-ShowView.name c.in_ok-reply.reply
    c.requires.command c.requires.statement c.in-ShowView.is (c.in_ok-reply.ensures c.args.core.now c.in_ok-image.ensures.image)

pub returns-clause-unread : goal.returns-clause-unread
returns-clause-unread g c = shows_unread c.args.core.now c.in-ShowView.name c.in_ok-reply.reply (c.in_ok-reply.ensures c.args.core.now c.in_ok-image.ensures.image)
