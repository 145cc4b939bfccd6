use Rattle.std.proofs.Common.{◌≡◌, ◌≤◌, ◌∙◌, None, ap, nat_le, reverse, subst, sym}
use Rattle.std.specs.List.{find}
use Rattle.std.specs.Option.{option_copied}
use Rattle.wh_partmap.proofs.Before.{earlier_rise, some_begun}
use Rattle.wh_partmap.specs.Shown.{shown}
use Rattle.wh_partmap.proofs.part_map.PartMap.as_of.Goals as goal

pub list_at-requires : goal.list_at-requires
list_at-requires c = earlier_rise (shown c.self.inside) c.as_slice.result.now c.self.invariant (ap reverse (sym c.as_slice.ensures.value))

-- some list began at the birth
pub unreachable-requires : goal.unreachable-requires
unreachable-requires c =
    let scn = c.args.scn in
    let born : (shown c.self.inside).born ≤ scn = subst (λ h. h.born ≤ scn) (sym c.self.view_is) c.requires in
    let none : find (λ l. nat_le l.since scn) (reverse c.as_slice.result.now) ≡ None = sym c.list_at.ensures ∙ ap option_copied c.in-None.is in
    some_begun (shown c.self.inside) scn c.self.invariant born c.if-self-scn.false
    (subst (λ xs. find (λ l. nat_le l.since scn) (reverse xs) ≡ None) c.as_slice.ensures.value none)
