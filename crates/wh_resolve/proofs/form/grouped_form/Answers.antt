use Rattle.std.proofs.Common.{◌≡◌, ◌∙◌, ap, map, true, rules}
use Rattle.def_resolve.specs.Names.{column_named}
use Rattle.def_resolve.specs.Resolve.{grouping_holds, resolved_item}
use Rattle.wh_resolve.proofs.Whole.{held}
use Rattle.wh_resolve.proofs.form.grouped_form.Goals as goal

pub returns : goal.returns
returns c =
    let items : c.as_slice-3.result.now ≡ map (λ i. resolved_item (column_named c.args.sources.now) i.what) c.args.query.now.items =
    c.as_slice-3.ensures.items ∙ c.in_ok-items.ensures ∙ ap (map (λ i. resolved_item (column_named c.args.sources.now) i.what)) c.as_slice.ensures.items in
    let keys : c.as_slice-4.result.now ≡ map (column_named c.args.sources.now) c.args.query.now.groups =
    c.as_slice-4.ensures.items ∙ c.in_ok-keys.ensures ∙ ap (map (column_named c.args.sources.now)) c.as_slice-2.ensures.items in
    let holds : c.grouping_holds.result ≡ true = search rules in
    let meant : c.grouping_holds.result ≡ grouping_holds c.args.query.now (column_named c.args.sources.now) (map (λ i. resolved_item (column_named c.args.sources.now) i.what) c.args.query.now.items) (map (column_named c.args.sources.now) c.args.query.now.groups) =
    c.grouping_holds.ensures
    ∙ ap (λ xs. grouping_holds c.args.query.now (column_named c.args.sources.now) xs c.as_slice-4.result.now) items
    ∙ ap (grouping_holds c.args.query.now (column_named c.args.sources.now) (map (λ i. resolved_item (column_named c.args.sources.now) i.what) c.args.query.now.items)) keys in
    held _ _ _ _ _ meant holds c.in_ok-star.ensures
