use Rattle.std.proofs.Common.{◌≡◌, ◌≤◌, ◌+◌, drop, length}
use Rattle.std.specs.Prelude.{flat_map}
use Rattle.def_meaning.specs.Accumulated.{item_aggs}
use Rattle.wh_group.proofs.answers.count_aggs.Given as goal

abbrev pub invariant-loop-item : goal.invariant-loop-item
invariant-loop-item l = record {
  all : l.count + length (flat_map item_aggs (drop l.item-index l.items)) ≡ length (flat_map item_aggs l.items);
  within : l.count ≤ l.item-index;
}
