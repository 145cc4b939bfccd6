use Rattle.std.proofs.Common.{take}
use Rattle.wh_top.proofs.SoFar.{SoFar}
use Rattle.wh_top.proofs.running.take_parts.Given as goal

abbrev pub invariant-loop-entry : goal.invariant-loop-entry
invariant-loop-entry g l = SoFar l.version.value l.script.value (take l.entry-index l.journal) l.core l.sessions l.initial.reads l.reads
