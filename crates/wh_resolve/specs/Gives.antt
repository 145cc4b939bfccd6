-- What the code's answer says of the star form that is meant, or of the first refusal.
use Rattle.std.specs.Prelude.{◌≡◌, Err, Ok, Result}
use Rattle.wh_base.specs.declared.queries.StarQuery.{StarQuery}
use Rattle.wh_base.specs.declared.replies.Refusal.{Refusal}
use Rattle.wh_resolve.specs.declared.query.QueryFault.{QueryFault}
use Rattle.wh_resolve.specs.declared.query.QueryFault.TheVariants.{Memory, Refused}

-- the answer is the star form or the refusal that is meant, or says that memory ran out
abbrev pub Gives : Result StarQuery QueryFault → Result StarQuery Refusal → Type 0
Gives (Ok q) form = Ok q ≡ form
Gives (Err (Refused r)) form = Err r ≡ form
Gives (Err Memory) form = Unit {0}
