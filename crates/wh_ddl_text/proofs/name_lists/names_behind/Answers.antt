use Rattle.std.proofs.Common.{[], ◌∷◌, ◌++◌, ◌<◌, ◌≡◌, ◌∙◌, None, Some, ap, arith, length, option_map, rules, sym, take}
use Rattle.def_grammar.specs.Forms.{name_in, without_spaces_before, without_spaces_behind}
use Rattle.wh_ddl_text.specs.NameLists.{names_behind, with_names}
use Rattle.wh_ddl_text.proofs.Commas.{last-name, longer, next-pushed, not-pushed, pushed}
use Rattle.wh_ddl_text.proofs.name_lists.names_behind.Goals as goal

pub returns-then-branch : goal.returns-then-branch
returns-then-branch c =
    let done = c.loop-turn.names in
    let few : length done < 63 = omega (arith, c.loop-turn.invariant.count, c.loop-turn-test.true) in
    let all = last-name done c.loop-turn.rest.now c.comma_place-place.result c.comma_place-place.ensures.count (omega (arith, c.if-place-rest.true)) few in
    sym (all ∙ ap (λ text. option_map (λ n. done ++ n ∷ []) (name_in text)) (sym c.without_spaces_before.ensures.is) ∙ pushed _ _ _ c.in_ok-push_name.ensures (search (rules, c.if-branch.true)))
    ∙ c.loop-turn.invariant.all

pub returns-else-branch : goal.returns-else-branch
returns-else-branch c =
    let done = c.loop-turn.names in
    let few : length done < 63 = omega (arith, c.loop-turn.invariant.count, c.loop-turn-test.true) in
    let all = last-name done c.loop-turn.rest.now c.comma_place-place.result c.comma_place-place.ensures.count (omega (arith, c.if-place-rest.true)) few in
    sym (all ∙ ap (λ text. option_map (λ n. done ++ n ∷ []) (name_in text)) (sym c.without_spaces_before.ensures.is) ∙ not-pushed _ _ _ c.in_ok-push_name.ensures (search (rules, c.if-branch.false)))
    ∙ c.loop-turn.invariant.all

pub returns-then-not-branch : goal.returns-then-not-branch
returns-then-not-branch c =
    let rest = c.loop-turn.rest.now in
    let place = c.comma_place-place.result in
    let piece : c.without_spaces_behind-piece.result.now ≡ without_spaces_behind (without_spaces_before (take place rest)) =
    c.without_spaces_behind-piece.ensures.is ∙ ap without_spaces_behind (c.without_spaces_before-in-loop-turn.ensures.is ∙ ap without_spaces_before c.split_at.ensures.front) in
    sym (next-pushed c.loop-turn.names rest _ place None c.comma_place-place.ensures.count (omega (arith, c.comma_place-place.ensures.within, c.if-place-rest.false)) piece (not-pushed _ _ _ c.in_ok-push_name-2.ensures (search (rules, c.if-not-branch.true))))
    ∙ c.loop-turn.invariant.all

pub loop-turn-preserved : goal.loop-turn-preserved
loop-turn-preserved c =
    let rest = c.loop-turn.rest.now in
    let place = c.comma_place-place.result in
    let new = c.push_name-in-loop-turn.new.names in
    let piece : c.without_spaces_behind-piece.result.now ≡ without_spaces_behind (without_spaces_before (take place rest)) =
    c.without_spaces_behind-piece.ensures.is ∙ ap without_spaces_behind (c.without_spaces_before-in-loop-turn.ensures.is ∙ ap without_spaces_before c.split_at.ensures.front) in
    let got : option_map (λ n. c.loop-turn.names ++ n ∷ []) (name_in c.without_spaces_behind-piece.result.now) ≡ Some new = pushed _ _ _ c.in_ok-push_name-2.ensures (search (rules, c.if-not-branch.false)) in
    record {
      all =
          ap (λ text. with_names new (names_behind text)) c.split_at-in-loop-turn.ensures.back
          ∙ sym (next-pushed c.loop-turn.names rest _ place (Some new) c.comma_place-place.ensures.count (omega (arith, c.comma_place-place.ensures.within, c.if-place-rest.false)) piece got)
          ∙ c.loop-turn.invariant.all;
      count = omega (arith, longer c.loop-turn.names new _ got, c.loop-turn.invariant.count);
      few = omega (arith, c.split_at-in-loop-turn.ensures.back_len, c.loop-turn.invariant.few);
    }
