use Rattle.std.proofs.Common.{subst, suc, arith, map}
use Rattle.std.specs.List.{All}
use Rattle.wh_session.specs.Run.{CanRun, begun}
use Rattle.wh_top.proofs.SoFar.{made_next}
use Rattle.wh_top.proofs.running.sessions_of.Goals as goal

pub loop-section-preserved : goal.loop-section-preserved
loop-section-preserved g c =
    let can = subst (All CanRun) c.in-Some.ensures.steps.0 c.loop-section.invariant.can in
    record {
      made = made_next c.args.version c.loop-section.sessions.items c.push.new.self.items (map (begun c.args.version) c.args.script.sections) c.new.result c.in-Some.section c.loop-section.section-iterator.rest.items c.next.new.self.rest.items c.in_ok-push.ensures.items c.new.ensures c.in-Some.ensures.steps.0 c.loop-section.invariant.made;
      can = λ k d within. can (suc k) d (omega (arith, within));
    }
