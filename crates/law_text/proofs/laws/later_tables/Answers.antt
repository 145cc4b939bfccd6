use Rattle.law_text.proofs.Later.{later-tables}
use Rattle.law_text.proofs.laws.later_tables.Goals as goal

pub returns : goal.returns
returns c = later-tables
