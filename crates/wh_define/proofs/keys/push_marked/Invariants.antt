use Rattle.std.proofs.Common.{◌≡◌, ◌++◌, drop}
use Rattle.std.specs.Prelude.{flat_map}
use Rattle.def_effect.specs.Define.{mark_key}
use Rattle.wh_define.proofs.keys.push_marked.Given as goal

abbrev pub invariant-loop-mark : goal.invariant-loop-mark
invariant-loop-mark l = l.keys.items ++ flat_map (mark_key l.column.name) (drop l.mark-index l.mark-items) ≡ l.initial.keys.items ++ flat_map (mark_key l.column.name) l.mark-items
