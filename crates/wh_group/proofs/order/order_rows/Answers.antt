use Rattle.std.proofs.Common.{rules}
use Rattle.wh_group.proofs.Sorted.{rows_by}
use Rattle.wh_group.proofs.order.order_rows.Goals as goal

pub returns-clause-sorted : goal.returns-clause-sorted
returns-clause-sorted c = rows_by c.args.keys.now _ c.in_ok-sort_by.ensures.sorted (λ a r q k. search rules)
