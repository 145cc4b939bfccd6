use Rattle.std.proofs.Common.{◌≡◌, drop}
use Rattle.std.specs.List.{list_all}
use Rattle.wh_tuple.specs.Meant.{is_small_row}
use Rattle.wh_group.proofs.small.is_small_tuple.Given as goal

abbrev pub invariant-loop-row : goal.invariant-loop-row
invariant-loop-row l = list_all is_small_row (drop l.row-index l.tuple) ≡ list_all is_small_row l.tuple
