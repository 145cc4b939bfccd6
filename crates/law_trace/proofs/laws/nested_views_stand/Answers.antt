use Rattle.law_trace.proofs.Nesting.{nest_laws}
use Rattle.law_trace.proofs.laws.nested_views_stand.Goals as goal

pub returns : goal.returns
returns c = nest_laws
