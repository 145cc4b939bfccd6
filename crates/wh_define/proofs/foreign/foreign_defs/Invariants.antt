use Rattle.std.proofs.Common.{◌≡◌, ◌++◌, drop}
use Rattle.std.specs.Prelude.{filter_map}
use Rattle.wh_define.specs.Made.{foreign_from}
use Rattle.wh_define.proofs.foreign.foreign_defs.Given as goal

abbrev pub invariant-loop-key : goal.invariant-loop-key
invariant-loop-key l = l.found ++ filter_map (foreign_from l.defs l.columns) (drop l.key-index l.foreign) ≡ filter_map (foreign_from l.defs l.columns) l.foreign
