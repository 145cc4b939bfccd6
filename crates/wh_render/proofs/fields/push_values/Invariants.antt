use Rattle.std.proofs.Common.{◌≡◌, ◌++◌, map, take}
use Rattle.wh_base.specs.Values.{value_text}
use Rattle.wh_render.specs.Pieces.{more_parts}
use Rattle.wh_render.proofs.fields.push_values.Given as goal

abbrev pub invariant-loop-value : goal.invariant-loop-value
invariant-loop-value l = l.out.items ≡ l.fn.out.items ++ more_parts 124 (map (value_text l.version) (take l.value-index l.values))
