use Rattle.std.proofs.Common.{◌≡◌, ◌++◌, drop}
use Rattle.std.specs.Prelude.{flat_map}
use Rattle.def_effect.specs.Define.{mark_foreign}
use Rattle.wh_define.proofs.foreign.push_marked.Given as goal

abbrev pub invariant-loop-mark : goal.invariant-loop-mark
invariant-loop-mark l = l.foreign.items ++ flat_map (mark_foreign l.column.name) (drop l.mark-index l.mark-items) ≡ l.initial.foreign.items ++ flat_map (mark_foreign l.column.name) l.mark-items
