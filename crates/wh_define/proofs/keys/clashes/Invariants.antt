use Rattle.std.proofs.Common.{◌≡◌, drop}
use Rattle.std.specs.List.{list_any}
use Rattle.def_effect.specs.Define.{keys_clash}
use Rattle.wh_define.proofs.keys.clashes.Given as goal

abbrev pub invariant-loop-one : goal.invariant-loop-one
invariant-loop-one l = list_any (λ j. keys_clash j l.key) (drop l.one-index l.earlier) ≡ list_any (λ j. keys_clash j l.key) l.earlier
