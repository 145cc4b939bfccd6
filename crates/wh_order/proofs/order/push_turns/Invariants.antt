use Rattle.std.proofs.Common.{◌≡◌, ◌++◌, drop}
use Rattle.def_journal.specs.Journal.{turns}
use Rattle.wh_order.proofs.order.push_turns.Given as goal

abbrev pub invariant-loop-session : goal.invariant-loop-session
invariant-loop-session l = l.journal ++ turns (drop l.session-index l.order) l.left ≡ l.initial.journal ++ turns l.order l.initial.left
