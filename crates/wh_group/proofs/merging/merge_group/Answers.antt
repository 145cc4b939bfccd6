use Rattle.std.proofs.Common.{◌∙◌, ap, sym, []}
use Rattle.std.specs.Cmp.Lexicographic.{pointwise}
use Rattle.std.specs.Map.{set_value}
use Rattle.std.specs.Ordering.{eq_by_cmp}
use Rattle.indexmap.specs.IndexMap.{insert_entry}
use Rattle.wh_base.specs.Values.{value_cmp}
use Rattle.wh_group.specs.Tallies.{merged_tallies}
use Rattle.wh_group.proofs.Steps.{one_comes_last, one_goes_on}
use Rattle.wh_group.proofs.merging.merge_group.Goals as goal

pub returns-in_ok-merge-in-Some : goal.returns-in_ok-merge-in-Some
returns-in_ok-merge-in-Some c =
    let groups = c.args.groups.now.entries in
    (c.get_mut.follows.holds c.merge.new.self).0
    ∙ ap (set_value (pointwise (eq_by_cmp value_cmp) c.args.key) groups) c.in_ok-merge-in-Some.ensures
    ∙ one_goes_on c.args.key (λ ts. merged_tallies ts c.args.tallies) [] groups c.in-Some.kept.now (sym c.in-Some.ensures.value)

pub returns-in_ok-insert-in-None : goal.returns-in_ok-insert-in-None
returns-in_ok-insert-in-None c =
    let eq = pointwise (eq_by_cmp value_cmp) in
    c.in_ok-insert-in-None.ensures.entries
    ∙ ap (λ map. insert_entry eq map.entries c.args.key c.args.tallies) c.get_mut.follows.holds-at-none
    ∙ one_comes_last c.args.key (λ ts. merged_tallies ts c.args.tallies) [] c.args.groups.now.entries (sym c.in-None.ensures.value)
