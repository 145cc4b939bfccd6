use Rattle.std.proofs.Common.{◌≡◌, drop}
use Rattle.std.specs.List.{list_all}
use Rattle.wh_group.specs.Tallies.{is_small_agg}
use Rattle.wh_group.proofs.small.are_small_tests.Given as goal

abbrev pub invariant-loop-test : goal.invariant-loop-test
invariant-loop-test l = list_all (λ t. is_small_agg t.agg) (drop l.test-index l.tests) ≡ list_all (λ t. is_small_agg t.agg) l.tests
