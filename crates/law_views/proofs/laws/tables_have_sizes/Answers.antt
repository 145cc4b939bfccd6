use Rattle.law_views.proofs.Sizes.{table_sizes}
use Rattle.law_views.proofs.laws.tables_have_sizes.Goals as goal

pub returns : goal.returns
returns c = table_sizes
