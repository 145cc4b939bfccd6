use Rattle.std.proofs.Common.{◌≡◌, ◌∙◌, ◌<◌, ◌≤◌, OnOk, ap, arith, subst, sym}
use Rattle.wh_partmap.proofs.Before.{put_same, with_later}
use Rattle.wh_partmap.proofs.Kept.{put_instead}
use Rattle.wh_partmap.specs.History.{PartHistory, lists_of, with_parts}
use Rattle.wh_partmap.specs.Laws.{AreParts, IsPartHistory}
use Rattle.wh_partmap.specs.Shown.{shown}
use Rattle.wh_partmap.proofs.part_map.PartMap.change.Goals as goal

pub invariant_of-self : goal.invariant_of-self
invariant_of-self c =
    let h = shown c.self.inside in
    let are : AreParts h.made c.args.parts = subst (λ g. AreParts g.made c.args.parts) (sym c.self.view_is) c.requires.parts in
    put_instead h c.args.parts h.made c.self.invariant (omega arith) are

pub returns-then-self-scn-clause-ok : goal.returns-then-self-scn-clause-ok
returns-then-self-scn-clause-ok c =
    let h = c.args.self.now in
    let kept : IsPartHistory h = subst IsPartHistory c.self.view_is c.self.invariant in
    let less : h.since < c.args.scn = subst (λ g. g.since < c.args.scn) c.self.view_is c.if-self-scn.true in
    let made : c.begin.inside.made ≡ h.made = ap (λ (g : PartHistory). g.made) c.begin.view_is in
    let begun = subst (λ n. OnOk c.begin-then-self-scn.result (c.begin-then-self-scn.new.self ≡ record h { parts = c.args.parts; since = c.args.scn; earlier = lists_of h; made = n })) made c.begin-then-self-scn.ensures.ok in
    subst (λ ls. OnOk c.begin-then-self-scn.result (c.begin-then-self-scn.new.self ≡ record h { parts = c.args.parts; since = c.args.scn; earlier = ls })) (sym (with_later h c.args.scn c.args.parts kept less)) begun

pub returns-else-self-scn-clause-ok : goal.returns-else-self-scn-clause-ok
returns-else-self-scn-clause-ok c =
    let h = shown c.self.inside in
    let le : h.since ≤ c.args.scn = subst (λ g. g.since ≤ c.args.scn) (sym c.self.view_is) c.requires.order in
    let same : h.since ≡ c.args.scn = omega arith in
    put_same h c.args.parts c.args.scn c.self.invariant same ∙ ap (λ g. with_parts g c.args.scn c.args.parts) c.self.view_is
