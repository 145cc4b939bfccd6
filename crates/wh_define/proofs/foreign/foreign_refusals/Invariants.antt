use Rattle.std.proofs.Common.{◌≡◌, drop}
use Rattle.def_effect.specs.Define.{foreign_refusal}
use Rattle.wh_base.specs.Lists.{first_of}
use Rattle.wh_define.proofs.foreign.foreign_refusals.Given as goal

abbrev pub invariant-loop-key : goal.invariant-loop-key
invariant-loop-key l = first_of (foreign_refusal l.defs l.table l.columns) (drop l.key-index l.foreign) ≡ first_of (foreign_refusal l.defs l.table l.columns) l.foreign
