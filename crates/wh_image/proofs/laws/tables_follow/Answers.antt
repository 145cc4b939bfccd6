use Rattle.wh_image.proofs.Tabling.{table_changes}
use Rattle.wh_image.proofs.laws.tables_follow.Goals as goal

pub returns : goal.returns
returns c = table_changes
