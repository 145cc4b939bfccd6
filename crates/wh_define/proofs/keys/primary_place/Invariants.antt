use Rattle.std.proofs.Common.{◌≡◌, drop}
use Rattle.std.specs.Prelude.{find}
use Rattle.wh_define.proofs.keys.primary_place.Given as goal

abbrev pub invariant-loop-key : goal.invariant-loop-key
invariant-loop-key l = find (λ k. k.primary) (drop l.key-index l.keys) ≡ find (λ k. k.primary) l.keys
