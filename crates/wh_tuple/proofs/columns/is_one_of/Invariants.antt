use Rattle.std.proofs.Common.{◌≡◌, drop}
use Rattle.std.specs.List.{list_any}
use Rattle.wh_base.specs.Values.{is_true_that}
use Rattle.wh_base.specs.declared.values.Op.TheVariants.{Eq}
use Rattle.wh_tuple.specs.Meant.{cell_value}
use Rattle.wh_tuple.proofs.columns.is_one_of.Given as goal

-- it is among those that are left
abbrev pub invariant-loop-value : goal.invariant-loop-value
invariant-loop-value l =
    list_any (is_true_that (cell_value l.cell) Eq) (drop l.value-index l.values) ≡ list_any (is_true_that (cell_value l.cell) Eq) l.fn.values
