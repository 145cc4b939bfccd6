use Rattle.std.proofs.Common.{◌≡◌}
use Rattle.wh_keyindex.proofs.Numbered.{left_from}
use Rattle.wh_keyindex.proofs.child_index.ChildIndex.drop_places.Given as goal

abbrev pub invariant-loop-place : goal.invariant-loop-place
invariant-loop-place l = l.self ≡ record l.initial.self { values = left_from l.gone l.place l.initial.self.values }
