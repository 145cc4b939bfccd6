use Rattle.std.proofs.Common.{append_assoc, append-nil}
use Rattle.wh_render.proofs.Joined.{journal-words}
use Rattle.wh_render.proofs.replies.push_journal.Goals as goal

pub returns : goal.returns
returns c = rw (c.in_ok-push.ensures.items, c.in_ok-push_all_printed.ensures, c.in_ok-extend_from_slice.ensures.items, journal-words c.args.entries.now) (simp (append_assoc, append-nil))
