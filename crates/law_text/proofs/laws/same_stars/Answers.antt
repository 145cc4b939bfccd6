use Rattle.law_text.proofs.Stars.{same-stars}
use Rattle.law_text.proofs.laws.same_stars.Goals as goal

pub returns : goal.returns
returns c = same-stars
