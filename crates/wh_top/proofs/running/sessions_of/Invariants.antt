use Rattle.std.proofs.Common.{◌≡◌, ◌++◌, map}
use Rattle.std.specs.List.{All}
use Rattle.wh_session.specs.Run.{CanRun, begun}
use Rattle.wh_top.proofs.running.sessions_of.Given as goal

abbrev pub invariant-loop-section : goal.invariant-loop-section
invariant-loop-section g l = record {
  made : l.sessions.items ++ map (begun l.version) l.section-iterator.rest.items ≡ map (begun l.version) l.fn.script.sections;
  can : All CanRun l.section-iterator.rest.items;
}
