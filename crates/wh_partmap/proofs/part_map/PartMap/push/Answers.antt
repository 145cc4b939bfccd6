use Rattle.std.proofs.Common.{◌≡◌, ◌<◌, ◌≤◌, OnOk, arith, subst, suc}
use Rattle.wh_partmap.proofs.Before.{added_later, added_same}
use Rattle.wh_partmap.specs.Laws.{IsPartHistory}
use Rattle.wh_partmap.proofs.part_map.PartMap.push.Goals as goal

pub returns-then-self-scn-clause-ok : goal.returns-then-self-scn-clause-ok
returns-then-self-scn-clause-ok c =
    let h = c.args.self.now in
    let kept : IsPartHistory h = subst IsPartHistory c.self.view_is c.self.invariant in
    let less : h.since < c.args.scn = subst (λ g. g.since < c.args.scn) c.self.view_is c.if-self-scn.true in
    let next : c.in-Some.number ≡ suc c.self.inside.made = omega (arith, c.in-Some.ensures) in
    let number : c.in-Some.number ≡ suc h.made = subst (λ g. c.in-Some.number ≡ suc g.made) c.self.view_is next in
    subst (λ g. OnOk c.push_later.result (c.push_later.new.self ≡ g)) (added_later h c.args.name c.args.below c.args.scn c.in-Some.number kept less number) c.push_later.ensures.ok

pub returns-else-self-scn-clause-ok : goal.returns-else-self-scn-clause-ok
returns-else-self-scn-clause-ok c =
    let h = c.args.self.now in
    let kept : IsPartHistory h = subst IsPartHistory c.self.view_is c.self.invariant in
    let not_less : c.args.scn ≤ h.since = subst (λ g. c.args.scn ≤ g.since) c.self.view_is c.if-self-scn.false in
    let same : h.since ≡ c.args.scn = omega (arith, c.requires.order) in
    let next : c.in-Some.number ≡ suc c.self.inside.made = omega (arith, c.in-Some.ensures) in
    let number : c.in-Some.number ≡ suc h.made = subst (λ g. c.in-Some.number ≡ suc g.made) c.self.view_is next in
    subst (λ g. OnOk c.push_now.result (c.push_now.new.self ≡ g)) (added_same h c.args.name c.args.below c.args.scn c.in-Some.number kept same number) c.push_now.ensures.ok
