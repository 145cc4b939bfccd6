use Rattle.std.proofs.Common.{◌≡◌, ◌∙◌, subst, List, IfOk}
use Rattle.def_meaning.specs.Joined.{column_value}
use Rattle.wh_group.specs.Tallies.{Kept, merged_groups}
use Rattle.wh_group.proofs.Merged.{groups-append}
use Rattle.wh_group.proofs.merging.merge.Goals as goal

pub returns : goal.returns
returns c = λ query ts us first second.
    subst (λ (all : List Kept). IfOk c.merge_each.result (λ groups. groups.entries ≡ all))
    ((λ i. merged_groups (first i) (second i)) ∙ groups-append (column_value query.tables) query ts us)
    c.merge_each.ensures
