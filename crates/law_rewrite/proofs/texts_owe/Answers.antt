use Rattle.law_rewrite.proofs.texts_owe.Goals as goal
use Rattle.law_rewrite.proofs.Reading.{texts_owe}

-- src/lib.rt
pub returns : goal.returns
returns c = texts_owe c.same_parts.ensures.all c.same_stars.ensures c.same_from.ensures
