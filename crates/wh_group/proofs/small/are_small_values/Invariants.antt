use Rattle.std.proofs.Common.{◌≡◌, drop}
use Rattle.std.specs.List.{list_all}
use Rattle.wh_base.specs.Values.{is_small}
use Rattle.wh_group.proofs.small.are_small_values.Given as goal

abbrev pub invariant-loop-value : goal.invariant-loop-value
invariant-loop-value l = list_all is_small (drop l.value-index l.values) ≡ list_all is_small l.values
