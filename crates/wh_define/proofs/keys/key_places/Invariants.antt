use Rattle.std.proofs.Common.{◌≡◌, ◌++◌, drop}
use Rattle.std.specs.Prelude.{filter_map}
use Rattle.wh_define.specs.Places.{place_in}
use Rattle.wh_define.proofs.keys.key_places.Given as goal

abbrev pub invariant-loop-key : goal.invariant-loop-key
invariant-loop-key l = l.places ++ filter_map (λ k. place_in l.columns k.column) (drop l.key-index l.keys) ≡ filter_map (λ k. place_in l.columns k.column) l.keys
