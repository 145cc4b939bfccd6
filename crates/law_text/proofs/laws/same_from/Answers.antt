use Rattle.law_text.proofs.Answer.{from-parts}
use Rattle.law_text.proofs.laws.same_from.Goals as goal

pub returns : goal.returns
returns c = from-parts
