-- Bounds of ranges as they are kept: by references to the values of conditions.
use Rattle.std.specs.Prelude.{Bool}
use Rattle.wh_base.specs.declared.values.Value.{Value}
use denote.Ref.{Bor}

-- an upper bound, inclusive or not
abbrev pub upper : Bor Value × Bool → Value × Bool
upper b = (b.0.now, b.1)
