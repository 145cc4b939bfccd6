use Rattle.std.proofs.Common.{◌≡◌, ◌+◌, ◌==◌, drop}
use Rattle.std.specs.List.{position_or_len}
use Rattle.wh_constraints.proofs.constraints.key_place.Given as goal

abbrev pub invariant-loop-at : goal.invariant-loop-at
invariant-loop-at l = l.at + position_or_len (λ k. k == l.column) (drop l.at l.keys) ≡ position_or_len (λ k. k == l.column) l.keys
