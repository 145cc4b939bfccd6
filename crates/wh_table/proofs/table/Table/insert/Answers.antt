use Rattle.std.proofs.Common.{◌^◌, subst, sym, ◌<◌, ◌≤◌}
use Rattle.wh_base.specs.Tables.{most_live}
use Rattle.wh_table.specs.Stored.{Stored, last_scn, live_count}
use Rattle.wh_table.proofs.Keeping.{held_insert}
use Rattle.wh_table.proofs.table.Table.insert.Goals as goal

pub invariant_of-self-2 : goal.invariant_of-self-2
invariant_of-self-2 g c =
    let few = subst (λ n. n < 2 ^ 32) c.len-places.ensures.count c.len-places.ensures.few in
    let after = subst (λ (s : Stored). last_scn s.versions ≤ c.args.scn) (sym c.self.view_is) c.requires.after in
    let room = subst (λ (s : Stored). live_count s < most_live) (sym c.self.view_is) c.requires.room in
    held_insert c.self.inside.live c.self.inside.changed c.self.inside.def c.self.inside.segment c.append.new.self c.self.inside.given c.args.scn c.args.values c.self.invariant after room few c.requires.small c.in_ok-place.ensures.ok
