use Rattle.std.proofs.Common.{◌≡◌, ◌++◌, drop, map}
use Rattle.def_resolve.specs.Names.{column_named}
use Rattle.def_resolve.specs.Resolve.{resolved_test}
use Rattle.wh_resolve.proofs.parts.resolved_tests.Given as goal

abbrev pub invariant-loop-test : goal.invariant-loop-test
invariant-loop-test l = l.all ++ map (resolved_test (column_named l.sources)) (drop l.test-index l.tests) ≡ map (resolved_test (column_named l.sources)) l.tests
