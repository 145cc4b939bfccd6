use Rattle.std.proofs.Common.{◌≡◌, drop}
use Rattle.wh_base.specs.Lists.{first_of}
use Rattle.wh_base.specs.Tables.{def_at}
use Rattle.wh_constraints.specs.Constraints.{missing_refusal, parents_refusal}
use Rattle.wh_constraints.proofs.constraints.parents_refusal.Given as goal

abbrev pub invariant-loop-foreign : goal.invariant-loop-foreign
invariant-loop-foreign l = first_of (missing_refusal l.defs l.keys.now l.changes (def_at l.defs l.table)) (drop l.foreign-index l.foreign-items) ≡ parents_refusal l.defs l.keys.now l.table l.changes
