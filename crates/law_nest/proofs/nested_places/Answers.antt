use Rattle.law_nest.proofs.nested_places.Goals as goal
use Rattle.law_nest.proofs.Placed_law.{nested_places_law}

-- src/lib.rt
pub returns : goal.returns
returns c = nested_places_law
