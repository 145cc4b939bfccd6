use Rattle.std.proofs.Common.{◌≡◌, drop}
use Rattle.def_effect.specs.Block.{own_value}
use Rattle.def_meaning.specs.Joined.{conditions_true}
use Rattle.wh_dml.proofs.filter.conditions_hold.Given as goal

abbrev pub invariant-loop-condition : goal.invariant-loop-condition
invariant-loop-condition l = conditions_true (own_value l.values) (drop l.condition-index l.conditions) ≡ conditions_true (own_value l.values) l.conditions
