use Rattle.std.proofs.Common.{subst, sym, ◌≤◌}
use Rattle.wh_table.specs.Stored.{Stored, last_scn}
use Rattle.wh_table.proofs.Keeping.{LivesAt, held_delete, some_live}
use Rattle.wh_table.proofs.table.Table.delete.Goals as goal

pub overflow_sub-self : goal.overflow_sub-self
overflow_sub-self g c =
    let lives = subst (λ (s : Stored). LivesAt s.versions c.args.place) (sym c.self.view_is) c.requires.lives in
    some_live c.self.inside.live c.self.inside.changed c.self.inside.def c.self.inside.segment c.self.inside.given c.args.scn c.args.place c.self.invariant lives

pub invariant_of-self-2 : goal.invariant_of-self-2
invariant_of-self-2 g c =
    let after = subst (λ (s : Stored). last_scn s.versions ≤ c.args.scn) (sym c.self.view_is) c.requires.after in
    let lives = subst (λ (s : Stored). LivesAt s.versions c.args.place) (sym c.self.view_is) c.requires.lives in
    held_delete c.self.inside.live c.self.inside.changed c.self.inside.def c.self.inside.segment c.end.new.self c.self.inside.given c.args.scn c.args.place c.self.invariant after lives c.in_ok-end.ensures.ok
