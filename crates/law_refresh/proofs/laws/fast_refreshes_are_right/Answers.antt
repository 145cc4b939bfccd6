use Rattle.law_refresh.proofs.Fast.{fast_laws}
use Rattle.law_refresh.proofs.laws.fast_refreshes_are_right.Goals as goal

pub returns : goal.returns
returns c = fast_laws
