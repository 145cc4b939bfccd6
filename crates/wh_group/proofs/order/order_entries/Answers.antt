use Rattle.std.proofs.Common.{rules}
use Rattle.wh_group.proofs.Sorted.{entries_by}
use Rattle.wh_group.proofs.order.order_entries.Goals as goal

pub returns-clause-sorted : goal.returns-clause-sorted
returns-clause-sorted c = entries_by _ c.in_ok-sort_by.ensures.sorted (λ a r q k. search rules)
