use Rattle.law_rewrite.proofs.still_means.Goals as goal
use Rattle.law_rewrite.proofs.Still.{still_means}

-- src/lib.rt
pub returns : goal.returns
returns c = λ defs q n k is rows later fine plain plain_later missed alike own. still_means defs q n k is rows later fine plain plain_later missed alike own
