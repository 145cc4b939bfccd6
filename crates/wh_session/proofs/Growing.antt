-- What a core's trace has more after a call.
use Rattle.std.proofs.Common.{◌≡◌, ◌∙◌, sym, arith, List, [], ◌∷◌, ◌++◌}
use Rattle.std.proofs.lemmas.List.{append-nil}
use Rattle.wh_base.specs.declared.statements.Event.{Event}
use Rattle.wh_session.specs.Run.{Grows}

pub grows_one : (trace after : List Event) (e : Event) → after ≡ trace ++ e ∷ [] → Grows trace after
grows_one trace after e is = record { more = e ∷ []; is = is; few = omega arith }

pub grows_none : (trace after : List Event) → after ≡ trace → Grows trace after
grows_none trace after is = record { more = []; is = is ∙ sym (append-nil trace); few = omega arith }

pub ruleset growing = (grows_one, grows_none)
