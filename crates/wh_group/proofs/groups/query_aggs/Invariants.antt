use Rattle.std.proofs.Common.{◌≡◌, ◌++◌, map, take}
use Rattle.def_meaning.specs.Accumulated.{selected_aggs}
use Rattle.wh_group.proofs.groups.query_aggs.Given as goal

abbrev pub invariant-loop-test : goal.invariant-loop-test
invariant-loop-test l = l.aggs.items ≡ selected_aggs l.query ++ map (λ t. t.agg) (take l.test-index l.test-items)
