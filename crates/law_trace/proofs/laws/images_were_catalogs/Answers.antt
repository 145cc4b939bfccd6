use Rattle.law_trace.proofs.Preceding.{image_laws}
use Rattle.law_trace.proofs.laws.images_were_catalogs.Goals as goal

pub returns : goal.returns
returns c = image_laws
