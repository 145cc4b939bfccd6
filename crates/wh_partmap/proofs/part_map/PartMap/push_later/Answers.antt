use Rattle.std.proofs.Common.{◌≡◌, ◌∙◌, ◌++◌, [], ◌∷◌, ap, subst, suc, sym, true}
use Rattle.def_effect.specs.Define.{is_above_last}
use Rattle.wh_partmap.proofs.Counted.{parts_more}
use Rattle.wh_partmap.proofs.Kept.{parts_now}
use Rattle.wh_partmap.specs.History.{upper_bounds}
use Rattle.wh_partmap.specs.Laws.{AreParts}
use Rattle.wh_partmap.specs.Shown.{shown}
use Rattle.wh_partmap.proofs.part_map.PartMap.push_later.Goals as goal

pub begin-requires-clause-parts : goal.begin-requires-clause-parts
begin-requires-clause-parts c =
    let h = shown c.self.inside in
    let number : c.args.part.number ≡ suc h.made = subst (λ g. c.args.part.number ≡ suc g.made) (sym c.self.view_is) c.requires.number in
    let above : is_above_last (upper_bounds h.parts) c.args.part.below ≡ true = subst (λ g. is_above_last (upper_bounds g.parts) c.args.part.below ≡ true) (sym c.self.view_is) c.requires.bound in
    let more = parts_more h.made h.parts c.args.part (parts_now h c.self.invariant) number above in
    subst (AreParts c.args.part.number) (sym (c.in_ok-push.ensures.ok ∙ ap (λ ps. ps ++ c.args.part ∷ []) c.in_ok-parts.ensures)) more
