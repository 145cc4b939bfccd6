use Rattle.std.proofs.Common.{◌≡◌, drop}
use Rattle.std.specs.List.{list_any}
use Rattle.std.specs.Prelude.{◌==◌, length, not}
use Rattle.wh_script.proofs.load.has_other_length.Given as goal

abbrev pub invariant-loop-row : goal.invariant-loop-row
invariant-loop-row l = list_any (λ s. not (length s == l.len)) (drop l.row-index l.rows) ≡ list_any (λ s. not (length s == l.len)) l.rows
