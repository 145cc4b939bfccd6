use Rattle.law_views.proofs.Texts.{view_texts}
use Rattle.law_views.proofs.laws.views_are_of_texts.Goals as goal

pub returns : goal.returns
returns c = view_texts c.later_tables.ensures
