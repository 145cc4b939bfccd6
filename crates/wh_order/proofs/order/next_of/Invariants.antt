use Rattle.std.proofs.Common.{◌≡◌, drop}
use Rattle.def_journal.specs.Journal.{next_of}
use Rattle.wh_order.proofs.order.next_of.Given as goal

abbrev pub invariant-loop-cursor : goal.invariant-loop-cursor
invariant-loop-cursor l = next_of (drop l.cursor-index l.left) l.session ≡ next_of l.left l.session
