use Rattle.law_text.proofs.Rows.{meaning-same, stored-same}
use Rattle.law_text.proofs.laws.other_rows.Goals as goal

pub returns : goal.returns
returns c = record { stores = stored-same; means = meaning-same }
