use Rattle.law_text.proofs.Rows.{same-rows}
use Rattle.law_text.proofs.laws.same_rows.Goals as goal

pub returns : goal.returns
returns c = same-rows
