use Rattle.std.proofs.Common.{◌≡◌, take}
use Rattle.wh_top.specs.Running.{total}
use Rattle.wh_top.proofs.summary.total.Given as goal

abbrev pub invariant-loop-session : goal.invariant-loop-session
invariant-loop-session g l = l.all ≡ total (take l.session-index l.sessions)
