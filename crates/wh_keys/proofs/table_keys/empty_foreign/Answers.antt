use Rattle.wh_keys.specs.Undoing.{nothing}
use Rattle.wh_keys.proofs.Each.{one_more}
use Rattle.wh_keys.proofs.table_keys.empty_foreign.Goals as goal

pub loop-def-preserved : goal.loop-def-preserved
loop-def-preserved c =
    one_more nothing c.new.result c.args.defs.now c.loop-def.foreign.items c.push.new.self.items c.loop-def.def-index c.loop-def-test.true c.loop-def.invariant c.new.ensures c.in_ok-push.ensures.items
