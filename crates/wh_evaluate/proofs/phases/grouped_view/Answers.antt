use Rattle.std.proofs.Common.{◌≡◌, subst, List, IfOk}
use Rattle.wh_base.specs.declared.views.ViewEntry.{ViewEntry}
use Rattle.wh_evaluate.proofs.Ordered.{grouped-stored}
use Rattle.wh_evaluate.proofs.phases.grouped_view.Goals as goal

pub returns : goal.returns
returns c =
    let query = c.args.query.now in
    let tuples = c.args.tuples in
    subst (λ (stored : List ViewEntry). IfOk c.entries.result (λ rows. rows ≡ stored)) (grouped-stored query tuples c.requires.grouped) (c.entries.ensures tuples c.in_ok-groups.ensures)
