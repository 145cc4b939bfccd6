use Rattle.std.proofs.Common.{◌≡◌, drop}
use Rattle.def_effect.specs.Block.{set_names, unknown_column}
use Rattle.wh_base.specs.Lists.{first_of}
use Rattle.wh_dml.proofs.refusals.unknown_by_item.Given as goal

abbrev pub invariant-loop-set : goal.invariant-loop-set
invariant-loop-set l = first_of (λ s. unknown_column l.def (set_names s)) (drop l.set-index l.sets) ≡ first_of (λ s. unknown_column l.def (set_names s)) l.sets
