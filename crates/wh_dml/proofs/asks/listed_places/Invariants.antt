use Rattle.std.proofs.Common.{◌≡◌, ◌++◌, drop}
use Rattle.std.specs.List.{filter_map}
use Rattle.wh_dml.specs.Asking.{place_in}
use Rattle.wh_dml.proofs.asks.listed_places.Given as goal

abbrev pub invariant-loop-name : goal.invariant-loop-name
invariant-loop-name l = l.places ++ filter_map (place_in l.columns) (drop l.name-index l.names) ≡ filter_map (place_in l.columns) l.names
