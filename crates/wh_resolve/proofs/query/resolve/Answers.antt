use Rattle.std.proofs.Common.{◌∙◌, ap, sym}
use Rattle.def_resolve.specs.Resolve.{resolve}
use Rattle.wh_resolve.proofs.query.resolve.Goals as goal

pub returns-in-Ok-Ok : goal.returns-in-Ok-Ok
returns-in-Ok-Ok c = sym c.in-Ok-Ok.field-0-is ∙ c.in-Ok-Ok.ensures ∙ ap (λ ds. resolve ds c.args.query.now) c.as_slice.ensures.items

pub returns-in-Ok-Err : goal.returns-in-Ok-Err
returns-in-Ok-Err c = sym c.in-Ok-Err.field-0-is ∙ c.in-Ok-Err.ensures ∙ ap (λ ds. resolve ds c.args.query.now) c.as_slice.ensures.items
