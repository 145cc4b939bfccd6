use Rattle.law_text.proofs.Parts.{front-parts, whole-parts}
use Rattle.law_text.proofs.laws.same_parts.Goals as goal

pub returns : goal.returns
returns c = record { front = front-parts; all = whole-parts }
