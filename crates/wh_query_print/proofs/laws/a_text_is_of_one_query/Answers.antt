use Rattle.wh_query_print.proofs.Back.{one-query}
use Rattle.wh_query_print.proofs.laws.a_text_is_of_one_query.Goals as goal

pub returns : goal.returns
returns c = one-query
