use Rattle.std.proofs.Common.{◌≡◌, None, drop, option_copied}
use Rattle.wh_rewrite.specs.Served.{best_from, serves}
use Rattle.wh_rewrite.proofs.choosing.best_of.Given as goal

-- what is left goes on from the best so far
abbrev pub invariant-loop-view : goal.invariant-loop-view
invariant-loop-view g l =
    best_from (serves l.tables.tables.items l.query l.text l.level l.enabled) (option_copied l.best) (drop l.view-index l.views)
    ≡ best_from (serves l.tables.tables.items l.query l.text l.level l.enabled) None l.views
