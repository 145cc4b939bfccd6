use Rattle.std.proofs.Common.{◌≡◌, drop}
use Rattle.def_effect.specs.Block.{own_kinds_refusal}
use Rattle.def_resolve.specs.Names.{column_named}
use Rattle.wh_base.specs.Lists.{first_of}
use Rattle.wh_dml.proofs.refusals.misfit_by_condition.Given as goal

abbrev pub invariant-loop-condition : goal.invariant-loop-condition
invariant-loop-condition l = first_of (own_kinds_refusal l.def (column_named l.sources)) (drop l.condition-index l.conditions) ≡ first_of (own_kinds_refusal l.def (column_named l.sources)) l.conditions
