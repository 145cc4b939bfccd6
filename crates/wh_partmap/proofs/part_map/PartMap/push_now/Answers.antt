use Rattle.std.proofs.Common.{◌≡◌, ◌≤◌, ◌++◌, [], ◌∷◌, arith, subst, suc, sym, true}
use Rattle.def_effect.specs.Define.{is_above_last}
use Rattle.wh_partmap.proofs.Counted.{parts_more}
use Rattle.wh_partmap.proofs.Kept.{parts_now, put_instead}
use Rattle.wh_partmap.specs.History.{upper_bounds}
use Rattle.wh_partmap.specs.Shown.{shown}
use Rattle.wh_partmap.proofs.part_map.PartMap.push_now.Goals as goal

pub invariant_of-self-2 : goal.invariant_of-self-2
invariant_of-self-2 c =
    let h = shown c.self.inside in
    let number : c.args.part.number ≡ suc h.made = subst (λ g. c.args.part.number ≡ suc g.made) (sym c.self.view_is) c.requires.number in
    let above : is_above_last (upper_bounds h.parts) c.args.part.below ≡ true = subst (λ g. is_above_last (upper_bounds g.parts) c.args.part.below ≡ true) (sym c.self.view_is) c.requires.bound in
    let more = parts_more h.made h.parts c.args.part (parts_now h c.self.invariant) number above in
    let le : h.made ≤ c.args.part.number = omega arith in
    rw c.in_ok-push.ensures.ok (put_instead h (h.parts ++ c.args.part ∷ []) c.args.part.number c.self.invariant le more)
