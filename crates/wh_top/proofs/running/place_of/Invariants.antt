use Rattle.std.proofs.Common.{◌≡◌, ◌+◌, drop}
use Rattle.wh_top.specs.Running.{place_of}
use Rattle.wh_top.proofs.running.place_of.Given as goal

abbrev pub invariant-loop-place : goal.invariant-loop-place
invariant-loop-place g l = l.place + place_of l.number (drop l.place l.sessions) ≡ place_of l.number l.sessions
