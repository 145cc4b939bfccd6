use Rattle.std.proofs.Common.{◌≡◌, drop}
use Rattle.std.specs.List.{list_any}
use Rattle.wh_base.specs.Lists.{same_text}
use Rattle.wh_define.proofs.ranges.has_name.Given as goal

abbrev pub invariant-loop-range : goal.invariant-loop-range
invariant-loop-range l = list_any (λ e. same_text e.name l.name) (drop l.range-index l.earlier) ≡ list_any (λ e. same_text e.name l.name) l.earlier
