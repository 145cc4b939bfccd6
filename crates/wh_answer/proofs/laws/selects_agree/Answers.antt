use Rattle.wh_answer.proofs.Steps.{selects}
use Rattle.wh_answer.proofs.laws.selects_agree.Goals as goal

pub returns : goal.returns
returns c = selects
