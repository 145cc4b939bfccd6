use Rattle.law_rewrite.proofs.texts_mean.Goals as goal
use Rattle.law_rewrite.proofs.Matched.{text_means}

-- src/lib.rt
pub returns : goal.returns
returns c = λ defs q v base rely same given selected rows kinds. text_means defs q v base same given selected rely rows kinds
