use Rattle.std.proofs.Common.{◌≡◌, drop, map}
use Rattle.def_effect.specs.Block.{given_row_refusal}
use Rattle.wh_base.specs.Lists.{first_of}
use Rattle.wh_base.specs.Values.{given_value}
use Rattle.wh_dml.proofs.asks.given_rows_refusal.Given as goal

abbrev pub invariant-loop-row : goal.invariant-loop-row
invariant-loop-row l = first_of (given_row_refusal l.def l.places) (map (map given_value) (drop l.row-index l.rows)) ≡ first_of (given_row_refusal l.def l.places) (map (map given_value) l.rows)
