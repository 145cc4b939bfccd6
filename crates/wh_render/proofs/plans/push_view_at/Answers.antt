use Rattle.std.proofs.Common.{append_assoc, decimal}
use Rattle.wh_render.proofs.Joined.{spaced-middle}
use Rattle.wh_render.proofs.plans.push_view_at.Goals as goal

pub returns : goal.returns
returns c = rw (c.in_ok-push_number.ensures, c.in_ok-push-2.ensures.items, c.in_ok-extend_from_slice.ensures.items, c.in_ok-push.ensures.items, c.as_slice.ensures.bytes, spaced-middle c.args.view.now 64 (decimal c.args.point)) (simp append_assoc)
