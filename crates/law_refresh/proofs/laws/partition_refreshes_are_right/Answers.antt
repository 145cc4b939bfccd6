use Rattle.law_refresh.proofs.Parting.{part_laws}
use Rattle.law_refresh.proofs.laws.partition_refreshes_are_right.Goals as goal

pub returns : goal.returns
returns c = part_laws
