use Rattle.std.proofs.Common.{◌≡◌, drop}
use Rattle.wh_check.specs.Making.{changes_refusal}
use Rattle.wh_check.proofs.rows.changes_refusal.Given as goal

abbrev pub invariant-loop-change : goal.invariant-loop-change
invariant-loop-change l = changes_refusal l.def (drop l.change-index l.changes) ≡ changes_refusal l.def l.changes
