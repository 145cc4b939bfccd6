use Rattle.law_nest_trace.proofs.nested_stand.Goals as goal
use Rattle.law_nest_trace.proofs.Contents.{nested_stand_law}

-- src/lib.rt
pub returns : goal.returns
returns c = nested_stand_law
