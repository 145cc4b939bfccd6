use Rattle.std.proofs.Common.{◌≤◌, subst, sym}
use Rattle.wh_partmap.proofs.Touching.{told_more}
use Rattle.wh_partmap.specs.History.{last_touched}
use Rattle.wh_partmap.specs.Shown.{shown}
use Rattle.wh_partmap.proofs.part_map.PartMap.touch.Goals as goal

pub invariant_of-self : goal.invariant_of-self
invariant_of-self c =
    let order : last_touched (shown c.self.inside).touches ≤ c.args.touch.scn = subst (λ h. last_touched h.touches ≤ c.args.touch.scn) (sym c.self.view_is) c.requires.order in
    rw c.push_reserved.ensures.items (told_more (shown c.self.inside) c.args.touch _ c.self.invariant order)
