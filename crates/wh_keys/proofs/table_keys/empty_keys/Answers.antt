use Rattle.wh_keys.specs.Undoing.{nothing}
use Rattle.wh_keys.proofs.Each.{one_more}
use Rattle.wh_keys.proofs.table_keys.empty_keys.Goals as goal

pub loop-column-preserved : goal.loop-column-preserved
loop-column-preserved c =
    one_more nothing c.new.result c.args.columns.now c.loop-column.keys.items c.push.new.self.items c.loop-column.column-index c.loop-column-test.true c.loop-column.invariant c.new.ensures c.in_ok-push.ensures.items
