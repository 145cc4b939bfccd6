-- The entries of a view are determined by which entries there are, in whatever order they come.
use Rattle.std.proofs.Common.{◌≡◌, List}
use Rattle.std.proofs.lemmas.Cmp.{then_total, on_total}
use Rattle.std.proofs.lemmas.Map.Lookups.{CmpEqualImpliesEq}
use Rattle.std.specs.Cmp.{IsTotalOrder}
use Rattle.wh_base.specs.Lists.{sorted_by}
use Rattle.wh_base.specs.Values.{values_cmp}
use Rattle.wh_base.proofs.Sorting.{SameCounts, sorted_same}
use Rattle.wh_base.specs.ValueLaws.{values_total, values_exact, first_equal, second_equal}
use Rattle.wh_base.specs.declared.views.ViewEntry.{ViewEntry}
use Rattle.def_meaning.specs.Meaning.{entry_cmp}

pub entry_total : IsTotalOrder entry_cmp
entry_total = then_total (on_total (λ e. e.key) values_total) (on_total (λ e. e.row) values_total)

pub entry_exact : CmpEqualImpliesEq entry_cmp
entry_exact a b h =
    let keys : a.key ≡ b.key = values_exact a.key b.key (first_equal (values_cmp a.key b.key) (values_cmp a.row b.row) h) in
    let rows : a.row ≡ b.row = values_exact a.row b.row (second_equal (values_cmp a.key b.key) (values_cmp a.row b.row) h) in
    λ i. record { key = keys i; row = rows i }

-- what a delta has to show of its entries: each as often as the definition has it
pub same_entries_same_view : (found wanted : List ViewEntry) → SameCounts found wanted → sorted_by entry_cmp found ≡ sorted_by entry_cmp wanted
same_entries_same_view found wanted = sorted_same entry_cmp entry_total entry_exact found wanted
