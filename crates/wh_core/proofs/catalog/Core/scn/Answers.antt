use Rattle.std.proofs.Common.{◌≡◌, ◌∙◌, subst, sym}
use Rattle.def_journal.specs.Journal.{state_of}
use Rattle.wh_core.proofs.catalog.Core.scn.Goals as goal

-- the image stands for the trace
pub returns : goal.returns
returns g c = subst (λ trace. c.scn.result ≡ (state_of trace).catalog.scn) c.self.view_is (c.scn.ensures ∙ sym c.self.invariant.core.image.stands.scn_is)
