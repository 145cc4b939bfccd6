use Rattle.std.proofs.Common.{◌≡◌, ◌==◌, drop}
use Rattle.std.specs.List.{position_from}
use Rattle.wh_dml.proofs.asks.source_of.Given as goal

abbrev pub invariant-loop-at : goal.invariant-loop-at
invariant-loop-at l = position_from (λ p. p == l.column) l.at (drop l.at l.places) ≡ position_from (λ p. p == l.column) 0 l.places
