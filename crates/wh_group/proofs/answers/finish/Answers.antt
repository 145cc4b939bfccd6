use Rattle.std.proofs.Common.{◌≡◌, ◌∙◌, ap, subst, map, IfOk, List}
use Rattle.def_meaning.specs.Joined.{column_value}
use Rattle.def_meaning.specs.Meaning.{entry_cmp, grouped_entries, row_cmp}
use Rattle.wh_base.specs.Lists.{sorted_by}
use Rattle.wh_base.specs.declared.values.Value.{Value}
use Rattle.wh_base.specs.declared.views.ViewEntry.{ViewEntry}
use Rattle.wh_group.specs.Entries.{kept_rows}
use Rattle.wh_group.specs.Tallies.{kept_groups}
use Rattle.wh_group.proofs.Places.{rows-kept}
use Rattle.wh_group.proofs.Made.{entries-kept}
use Rattle.wh_group.proofs.Sorted.{rows_of_sorted}
use Rattle.wh_group.proofs.answers.finish.Goals as goal

pub returns : goal.returns
returns c = λ ts same.
    let query = c.args.query.now in
    let wanted : List ViewEntry = grouped_entries (column_value query.tables) query ts in
    let order : c.as_slice.result.now ≡ query.order = c.as_slice.ensures.items in
    let rows : c.in_ok-list_rows.field-0.items ≡ map (λ e. e.row) wanted =
    c.in_ok-list_rows.ensures ∙ ap (kept_rows query) same ∙ rows-kept query (kept_groups (column_value query.tables) query ts) ∙ ap (map (λ (e : ViewEntry). e.row)) (entries-kept (column_value query.tables) query ts) in
    let all : sorted_by (row_cmp c.as_slice.result.now) c.in_ok-list_rows.field-0.items ≡ sorted_by (row_cmp query.order) (map (λ e. e.row) (sorted_by entry_cmp wanted)) =
    (λ i. sorted_by (row_cmp (order i)) (rows i)) ∙ rows_of_sorted query.order wanted in
    subst (λ (sorted : List (List Value)). IfOk c.sort_rows.result (λ answer. answer ≡ sorted)) all c.sort_rows.ensures
