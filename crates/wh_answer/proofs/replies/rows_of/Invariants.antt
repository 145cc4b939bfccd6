use Rattle.std.proofs.Common.{◌≡◌, map, take}
use Rattle.wh_base.specs.declared.views.ViewEntry.{ViewEntry}
use Rattle.wh_answer.proofs.replies.rows_of.Given as goal

abbrev pub invariant-loop-entry : goal.invariant-loop-entry
invariant-loop-entry l = l.rows.items ≡ map (λ (e : ViewEntry). e.row) (take l.entry-index l.entries)
