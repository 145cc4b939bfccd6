use Rattle.std.proofs.Common.{◌≡◌, drop, zip}
use Rattle.std.specs.List.{list_all}
use Rattle.wh_rewrite.specs.Served.{is_still}
use Rattle.wh_rewrite.proofs.staleness.all_still.Given as goal

-- what is left decides
abbrev pub invariant-loop-at : goal.invariant-loop-at
invariant-loop-at g l = list_all (is_still l.tables.tables.items l.point) (zip (drop l.at l.numbers) (drop l.at l.defs)) ≡ list_all (is_still l.tables.tables.items l.point) (zip l.numbers l.defs)
