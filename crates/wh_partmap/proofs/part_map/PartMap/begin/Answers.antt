use Rattle.std.proofs.Common.{◌≡◌, ◌∙◌, ◌++◌, [], ◌∷◌, ◌<◌, ◌≤◌, ap, refl, reverse, subst, sym}
use Rattle.wh_partmap.proofs.Before.{kept_before}
use Rattle.wh_partmap.proofs.Kept.{begun_more}
use Rattle.wh_partmap.specs.History.{lists_of}
use Rattle.wh_partmap.specs.Shown.{shown}
use Rattle.wh_partmap.proofs.part_map.PartMap.begin.Goals as goal

pub invariant_of-self-2 : goal.invariant_of-self-2
invariant_of-self-2 c =
    let h = shown c.self.inside in
    let less : h.since < c.args.scn = subst (λ g. g.since < c.args.scn) (sym c.self.view_is) c.requires.order in
    let made : h.made ≤ c.args.made = subst (λ g. g.made ≤ c.args.made) (sym c.self.view_is) c.requires.made in
    let items = c.push_reserved.ensures.items ∙ ap (λ xs. xs ++ record { since = h.since; parts = c.replace-before.result } ∷ []) c.in_ok-reserve.ensures.items in
    let lists : reverse c.push_reserved.new.self.items ≡ lists_of h = kept_before h c.self.inside.earlier.items c.push_reserved.new.self.items c.replace-before.result refl items c.replace-before.ensures.value in
    rw (c.replace-before.ensures.after, lists) (begun_more h c.args.parts c.args.made c.args.scn c.self.invariant less made c.requires.parts)
