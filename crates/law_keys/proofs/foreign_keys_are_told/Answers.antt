use Rattle.law_keys.proofs.Related.{foreign_laws}
use Rattle.law_keys.proofs.foreign_keys_are_told.Goals as goal

pub returns : goal.returns
returns c = foreign_laws
