use Rattle.law_views.proofs.Serving.{answers}
use Rattle.law_views.proofs.laws.views_answer.Goals as goal

pub returns : goal.returns
returns c = answers (record { later = c.later_tables.ensures; parts = c.same_parts.ensures.all; stars = c.same_stars.ensures; rows = c.same_rows.ensures })
