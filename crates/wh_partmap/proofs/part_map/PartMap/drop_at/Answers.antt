use Rattle.std.proofs.Common.{◌≡◌, ◌∙◌, ◌<◌, ap, length, remove, subst, sym}
use Rattle.wh_partmap.proofs.Counted.{parts_fewer, without_place}
use Rattle.wh_partmap.proofs.Kept.{parts_now}
use Rattle.wh_partmap.specs.History.{PartHistory, without_part}
use Rattle.wh_partmap.specs.Laws.{AreParts}
use Rattle.wh_partmap.specs.Shown.{shown}
use Rattle.wh_partmap.proofs.part_map.PartMap.drop_at.Goals as goal

pub change-requires-clause-parts : goal.change-requires-clause-parts
change-requires-clause-parts c =
    let h = shown c.self.inside in
    let fewer = parts_fewer h.made c.number_at-number.result h.parts (parts_now h c.self.invariant) in
    subst (λ g. AreParts g.made c.in-Ok.parts) c.self.view_is (subst (AreParts h.made) (sym c.in-Ok.ensures) fewer)

-- no other partition has its number
pub returns-clause-one : goal.returns-clause-one
returns-clause-one c =
    let h = shown c.self.inside in
    let within : c.args.place < length h.parts = subst (λ g. c.args.place < length g.parts) (sym c.self.view_is) c.requires.place in
    let gone : c.in-Ok.parts ≡ remove h.parts c.args.place =
    c.in-Ok.ensures ∙ ap (without_part h.parts) c.number_at-number.ensures ∙ without_place h.made h.parts c.args.place (parts_now h c.self.invariant) within in
    ap (λ (g : PartHistory). g.parts) c.in-Ok-change.ensures.ok ∙ gone ∙ ap (λ (g : PartHistory). remove g.parts c.args.place) c.self.view_is
