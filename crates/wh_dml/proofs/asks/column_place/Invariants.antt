use Rattle.std.proofs.Common.{◌≡◌, ◌+◌, drop}
use Rattle.std.specs.List.{position_or_len}
use Rattle.wh_base.specs.Lists.{same_text}
use Rattle.wh_dml.proofs.asks.column_place.Given as goal

abbrev pub invariant-loop-at : goal.invariant-loop-at
invariant-loop-at l = l.at + position_or_len (λ c. same_text c.name l.name) (drop l.at l.columns) ≡ position_or_len (λ c. same_text c.name l.name) l.columns
