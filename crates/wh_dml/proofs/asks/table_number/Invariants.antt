use Rattle.std.proofs.Common.{◌≡◌, ◌+◌, drop}
use Rattle.std.specs.List.{position_or_len}
use Rattle.wh_base.specs.Lists.{same_text}
use Rattle.wh_dml.proofs.asks.table_number.Given as goal

abbrev pub invariant-loop-at : goal.invariant-loop-at
invariant-loop-at l = l.at + position_or_len (λ d. same_text d.name l.name) (drop l.at l.defs) ≡ position_or_len (λ d. same_text d.name l.name) l.defs
