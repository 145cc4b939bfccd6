use Rattle.wh_session.proofs.Replying.{asks_now, select_reply}
use Rattle.wh_session.proofs.snapshots.select_part.Goals as goal

-- the session is under ENFORCED with rewrite enabled, so its reply is the one that is selected
pub returns-clause-replied : goal.returns-clause-replied
returns-clause-replied g c =
    record {
      reply = select_reply c.plain_sessions.ensures c.args.core.now c.args.id c.built.ensures c.selects_agree.ensures c.args.command.now c.args.statement.now c.args.asked.now c.in_ok-reply.reply
          c.requires.command c.requires.statement (c.in_ok-reply.ensures.reply c.args.core.now c.in_ok-image.ensures.image);
      read_is = c.in_ok-reply.ensures.raised;
    }

-- a command that is built asks for no earlier state
pub select-requires-clause-built : goal.select-requires-clause-built
select-requires-clause-built g c = asks_now c.args.command.now c.args.statement.now c.args.asked.now c.requires.command c.requires.statement c.requires.built
