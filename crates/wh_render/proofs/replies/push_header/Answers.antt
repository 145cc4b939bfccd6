use Rattle.std.proofs.Common.{append_assoc}
use Rattle.def_transcript.specs.Texts.{body_words}
use Rattle.wh_render.proofs.Joined.{words-id}
use Rattle.wh_render.proofs.replies.push_header.Goals as goal

pub returns : goal.returns
returns c = rw (c.in_ok-push.ensures.items, c.in_ok-push_body.ensures, c.in_ok-push_text.ensures, words-id c.args.id (body_words c.args.reply.now)) (simp append_assoc)
