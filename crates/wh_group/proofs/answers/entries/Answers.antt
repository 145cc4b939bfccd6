use Rattle.std.proofs.Common.{◌≡◌, ◌∙◌, ap, subst, IfOk, List}
use Rattle.def_meaning.specs.Joined.{column_value}
use Rattle.def_meaning.specs.Meaning.{entry_cmp, grouped_entries}
use Rattle.wh_base.specs.Lists.{sorted_by}
use Rattle.wh_base.specs.declared.views.ViewEntry.{ViewEntry}
use Rattle.wh_group.specs.Entries.{kept_entries}
use Rattle.wh_group.proofs.Made.{entries-kept}
use Rattle.wh_group.proofs.answers.entries.Goals as goal

pub returns : goal.returns
returns c = λ ts same.
    let query = c.args.query.now in
    let listed : c.in_ok-list_entries.field-0.items ≡ grouped_entries (column_value query.tables) query ts =
    c.in_ok-list_entries.ensures ∙ ap (kept_entries query) same ∙ entries-kept (column_value query.tables) query ts in
    subst (λ (es : List ViewEntry). IfOk c.sort_entries.result (λ rows. rows ≡ sorted_by entry_cmp es)) listed c.sort_entries.ensures
