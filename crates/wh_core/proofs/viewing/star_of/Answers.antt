use Rattle.std.proofs.Common.{◌≡◌, subst}
use Rattle.std.specs.Prelude.{Err, Ok}
use Rattle.def_resolve.specs.Resolve.{resolve}
use Rattle.wh_resolve.specs.Gives.{Gives}
use Rattle.wh_core.proofs.viewing.star_of.Goals as goal

pub returns-in-Ok : goal.returns-in-Ok
returns-in-Ok g c =
    subst (λ defs. Ok c.in-Ok.query ≡ resolve defs c.args.view.now.asked.query) c.tables.ensures
    (subst (λ asked. Ok c.in-Ok.query ≡ resolve c.tables.result.now asked.query) c.get.ensures c.in-Ok.ensures)

pub returns-in-Err-Refused : goal.returns-in-Err-Refused
returns-in-Err-Refused g c =
    subst (λ defs. Err c.in-Err-Refused.code ≡ resolve defs c.args.view.now.asked.query) c.tables.ensures
    (subst (λ asked. Err c.in-Err-Refused.code ≡ resolve c.tables.result.now asked.query) c.get.ensures
    (subst (λ fault. Gives (Err fault) (resolve c.tables.result.now c.get.result.now.query)) c.in-Err-Refused.field-0-is c.in-Err-Refused.ensures))
