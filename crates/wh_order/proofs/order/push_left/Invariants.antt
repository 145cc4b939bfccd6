use Rattle.std.proofs.Common.{◌≡◌, ◌++◌, []}
use Rattle.def_journal.specs.Journal.{turns}
use Rattle.wh_order.proofs.order.push_left.Given as goal

abbrev pub invariant-loop-cursor : goal.invariant-loop-cursor
invariant-loop-cursor l = l.journal ++ turns [] l.cursor-iterator.rest.items ≡ l.initial.journal ++ turns [] l.fn.rest.items
