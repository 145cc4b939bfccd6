use Rattle.law_trace.proofs.Untouched.{untouched_laws}
use Rattle.law_trace.proofs.laws.changes_are_of_commits.Goals as goal

pub returns : goal.returns
returns c = untouched_laws
