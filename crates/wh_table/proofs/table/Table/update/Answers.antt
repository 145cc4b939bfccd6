use Rattle.std.proofs.Common.{◌^◌, ◌<◌, ap, subst, sym, ◌∙◌, ◌≤◌}
use Rattle.wh_table.specs.Stored.{Stored, last_scn, updated}
use Rattle.wh_table.proofs.Keeping.{LivesAt, held_update, updated_is}
use Rattle.wh_table.proofs.table.Table.update.Goals as goal

pub invariant_of-self-2 : goal.invariant_of-self-2
invariant_of-self-2 g c =
    let few = subst (λ n. n < 2 ^ 32) c.len-places.ensures.count c.len-places.ensures.few in
    let after = subst (λ (s : Stored). last_scn s.versions ≤ c.args.scn) (sym c.self.view_is) c.requires.after in
    let lives = subst (λ (s : Stored). LivesAt s.versions c.args.place) (sym c.self.view_is) c.requires.lives in
    held_update c.self.inside.live c.self.inside.changed c.self.inside.def c.self.inside.segment c.replace.new.self c.self.inside.given c.args.scn c.args.place c.args.values c.self.invariant after lives few c.requires.small
    c.in_ok-new_place.ensures.ok

pub returns-clause-ok : goal.returns-clause-ok
returns-clause-ok g c =
    let lives = subst (λ (s : Stored). LivesAt s.versions c.args.place) (sym c.self.view_is) c.requires.lives in
    updated_is c.self.inside.live c.self.inside.changed c.self.inside.def c.self.inside.segment c.replace.new.self c.self.inside.given c.args.scn c.args.place c.args.values c.self.invariant lives c.in_ok-new_place.ensures.ok
    ∙ ap (updated c.args.scn c.args.place c.args.values) c.self.view_is
