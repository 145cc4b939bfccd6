use Rattle.std.proofs.Common.{◌≡◌, ◌==◌, drop}
use Rattle.std.specs.List.{find}
use Rattle.wh_dml.proofs.set_list.set_at.Given as goal

abbrev pub invariant-loop-set : goal.invariant-loop-set
invariant-loop-set l = find (λ s. s.column == l.place) (drop l.set-index l.sets) ≡ find (λ s. s.column == l.place) l.sets
