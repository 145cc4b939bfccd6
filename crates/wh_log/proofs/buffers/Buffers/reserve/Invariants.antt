use Rattle.std.proofs.Common.{◌≡◌, ◌+◌}
use Rattle.wh_log.specs.Buffered.{Buffered}
use Rattle.wh_log.proofs.buffers.Buffers.reserve.Given as goal

abbrev pub invariant-loop-made : goal.invariant-loop-made
invariant-loop-made l = let now : Buffered = record l.initial.self { count = l.initial.self.count + l.made } in l.self ≡ now
