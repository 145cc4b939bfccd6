use Rattle.std.proofs.Common.{◌∙◌, ap, sym}
use Rattle.std.specs.Cmp.Lexicographic.{pointwise}
use Rattle.std.specs.Map.{set_value}
use Rattle.std.specs.Ordering.{eq_by_cmp}
use Rattle.def_meaning.specs.Joined.{column_value}
use Rattle.indexmap.specs.IndexMap.{insert_entry}
use Rattle.wh_base.specs.Values.{value_cmp}
use Rattle.wh_group.specs.Tallies.{begun, counted, tallies_with}
use Rattle.wh_group.proofs.Steps.{one_comes_last, one_goes_on}
use Rattle.wh_group.proofs.groups.add_to_group.Goals as goal

pub returns-in_ok-add-in-Some : goal.returns-in_ok-add-in-Some
returns-in_ok-add-in-Some c =
    let aggs = c.args.aggs.now in
    let groups = c.args.groups.now.entries in
    (c.get_mut.follows.holds c.add.new.self).0
    ∙ ap (set_value (pointwise (eq_by_cmp value_cmp) c.args.key) groups) c.in_ok-add-in-Some.ensures
    ∙ one_goes_on c.args.key (tallies_with (counted (column_value c.args.tables.now c.args.tuple.now)) aggs) (begun aggs) groups c.in-Some.tallies.now (sym c.in-Some.ensures.value)

pub returns-in_ok-insert-in-None : goal.returns-in_ok-insert-in-None
returns-in_ok-insert-in-None c =
    let aggs = c.args.aggs.now in
    let groups = c.args.groups.now.entries in
    let value = counted (column_value c.args.tables.now c.args.tuple.now) in
    let eq = pointwise (eq_by_cmp value_cmp) in
    c.in_ok-insert-in-None.ensures.entries
    ∙ ap (λ map. insert_entry eq map.entries c.args.key c.add-in-None.new.self) c.get_mut.follows.holds-at-none
    ∙ ap (insert_entry eq groups c.args.key) (c.in_ok-add-in-None.ensures ∙ ap (tallies_with value aggs) c.in_ok-tallies-in-None.ensures)
    ∙ one_comes_last c.args.key (tallies_with value aggs) (begun aggs) groups (sym c.in-None.ensures.value)
