use Rattle.std.proofs.Common.{◌≡◌, subst, true}
use Rattle.def_built.specs.Commands.{commands_are_built}
use Rattle.def_journal.specs.Journal.{commands_of}
use Rattle.wh_core.proofs.catalog.Core.built.Goals as goal

pub returns : goal.returns
returns g c = subst (λ trace. commands_are_built (commands_of trace) ≡ true) c.self.view_is c.self.invariant.core.built
