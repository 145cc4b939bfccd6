use Rattle.std.proofs.Common.{◌≡◌, drop, map}
use Rattle.wh_base.specs.Lists.{has_text}
use Rattle.wh_dml.proofs.refusals.is_set.Given as goal

abbrev pub invariant-loop-set : goal.invariant-loop-set
invariant-loop-set l = has_text (map (λ s. s.column) (drop l.set-index l.sets)) l.name ≡ has_text (map (λ s. s.column) l.sets) l.name
