use Rattle.std.proofs.Common.{◌≡◌, ◌==◌, map, take}
use Rattle.std.specs.List.{position_from}
use Rattle.wh_dml.proofs.asks.sources.Given as goal

abbrev pub invariant-loop-column : goal.invariant-loop-column
invariant-loop-column l = l.sources ≡ map (λ c. position_from (λ p. p == c) 0 l.places) (take l.column-index l.column-items)
