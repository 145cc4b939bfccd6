use Rattle.std.proofs.Common.{◌≡◌, drop}
use Rattle.wh_tuple.specs.Meant.{row_found}
use Rattle.wh_tuple.proofs.columns.row_found.Given as goal

-- it is found in what is left
abbrev pub invariant-loop-at : goal.invariant-loop-at
invariant-loop-at l = row_found (drop l.at l.tables) (drop l.at l.tuple) l.table ≡ row_found l.tables l.tuple l.table
