use Rattle.std.proofs.Common.{◌≡◌, ◌++◌, drop, map}
use Rattle.def_effect.specs.Block.{load_row_refusal}
use Rattle.wh_base.specs.Lists.{first_of}
use Rattle.wh_load.specs.Capped.{capped_row}
use Rattle.wh_load.proofs.rows.rows_loaded.Given as goal

abbrev pub invariant-loop-row : goal.invariant-loop-row
invariant-loop-row l = record {
  done : l.loaded.items ++ map (capped_row l.def) (drop l.row-index l.rows) ≡ map (capped_row l.def) l.rows;
  none : first_of (load_row_refusal l.def) (drop l.row-index l.rows) ≡ first_of (load_row_refusal l.def) l.rows;
}
