use Rattle.std.proofs.Common.{◌≡◌, drop}
use Rattle.wh_dml.specs.Setting.{set_misfit}
use Rattle.wh_base.specs.Lists.{first_of}
use Rattle.wh_dml.proofs.refusals.misfit_by_item.Given as goal

abbrev pub invariant-loop-set : goal.invariant-loop-set
invariant-loop-set l = first_of (set_misfit l.def) (drop l.set-index l.sets) ≡ first_of (set_misfit l.def) l.sets
