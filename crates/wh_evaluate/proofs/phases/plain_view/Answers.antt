use Rattle.std.proofs.Common.{◌≡◌, ◌∙◌, ap, subst, List, IfOk}
use Rattle.wh_base.specs.Lists.{sorted_by}
use Rattle.wh_base.specs.declared.views.ViewEntry.{ViewEntry}
use Rattle.def_meaning.specs.Meaning.{entry_cmp}
use Rattle.wh_evaluate.proofs.Ordered.{plain-stored}
use Rattle.wh_evaluate.proofs.phases.plain_view.Goals as goal

pub returns : goal.returns
returns c =
    subst (λ (stored : List ViewEntry). IfOk c.sort_entries.result (λ rows. rows ≡ stored))
    (ap (sorted_by entry_cmp) c.in_ok-plain_entries.ensures ∙ plain-stored c.args.query.now c.args.tuples c.requires)
    c.sort_entries.ensures
