use Rattle.law_keys.proofs.Told.{key_laws}
use Rattle.law_keys.proofs.keys_are_told.Goals as goal

pub returns : goal.returns
returns c = key_laws
