use Rattle.law_text.proofs.Answer.{same-answer}
use Rattle.law_text.proofs.laws.same_answer.Goals as goal

pub returns : goal.returns
returns c = same-answer
