use Rattle.std.proofs.Common.{◌≡◌, ◌++◌, drop, map}
use Rattle.std.specs.Prelude.{zip}
use Rattle.def_effect.specs.Block.{field_misfits}
use Rattle.wh_base.specs.Lists.{first_of}
use Rattle.wh_load.specs.Capped.{capped, loaded_value}
use Rattle.wh_load.proofs.rows.line_loaded.Given as goal

abbrev pub invariant-loop-at : goal.invariant-loop-at
invariant-loop-at l = record {
  done : l.values.items ++ map capped (map loaded_value (zip (drop l.at l.columns) (drop l.at l.fields))) ≡ map capped (map loaded_value (zip l.columns l.fields));
  none : first_of (field_misfits l.def) (zip (drop l.at l.columns) (drop l.at l.fields)) ≡ first_of (field_misfits l.def) (zip l.columns l.fields);
}
