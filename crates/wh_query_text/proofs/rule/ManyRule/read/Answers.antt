use Rattle.std.proofs.Common.{◌+◌, ◌-◌, ◌∙◌, arith, sym}
use Rattle.wh_query_text.proofs.Lists.{step}
use Rattle.wh_query_text.proofs.rule.ManyRule.read.Goals as goal

pub loop-turn-preserved : goal.loop-turn-preserved
loop-turn-preserved g c = record {
  rest =
      rw c.in-Ok-push.ensures.ok
      (sym (step g.R.Rule.reads c.loop-turn.items c.in-Ok.item (c.len-turn-end.result - (c.loop-turn.turn + 1)) (c.len-turn-end.result - c.loop-turn.turn) c.loop-turn.parser c.read.new.parser (omega arith) c.in-Ok.ensures)
      ∙ c.loop-turn.invariant.rest);
}
