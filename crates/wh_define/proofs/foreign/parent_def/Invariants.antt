use Rattle.std.proofs.Common.{◌≡◌, drop}
use Rattle.def_effect.specs.Define.{parent_def}
use Rattle.wh_define.proofs.foreign.parent_def.Given as goal

abbrev pub invariant-loop-def : goal.invariant-loop-def
invariant-loop-def l = parent_def (drop l.def-index l.defs) l.reference ≡ parent_def l.defs l.reference
