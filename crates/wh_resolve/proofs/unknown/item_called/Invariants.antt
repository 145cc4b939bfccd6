use Rattle.std.proofs.Common.{◌≡◌, ◌+◌, drop, false}
use Rattle.std.specs.List.{position_or_len}
use Rattle.wh_base.specs.Lists.{option_case, same_text}
use Rattle.wh_resolve.proofs.unknown.item_called.Given as goal

abbrev pub invariant-loop-at : goal.invariant-loop-at
invariant-loop-at l = l.at + position_or_len (λ i. option_case i.alias false (same_text l.name)) (drop l.at l.query.items) ≡ position_or_len (λ i. option_case i.alias false (same_text l.name)) l.query.items
