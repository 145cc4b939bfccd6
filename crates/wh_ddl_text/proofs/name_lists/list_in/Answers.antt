use Rattle.std.proofs.Common.{[], ◌+◌, ◌∙◌, ap, arith, drop, option_map, subst, sym}
use Rattle.def_grammar.specs.Forms.{without_spaces_behind}
use Rattle.wh_ddl_text.specs.NameLists.{names_behind, with_names}
use Rattle.wh_ddl_text.proofs.Commas.{list-read, with_first}
use Rattle.wh_query_text.specs.Pieces.{Makes}
use Rattle.wh_ddl_text.proofs.name_lists.list_in.Goals as goal

pub returns-in-Some : goal.returns-in-Some
returns-in-Some c =
    let text = c.args.text.now in
    let place = c.comma_place-place.result in
    let behind = names_behind (drop (place + 1) text) in
    let read = list-read text _ place _ c.comma_place-place.ensures.count (omega (arith, c.comma_place-place.ensures.within, c.if-place-text.false)) (c.without_spaces_behind-piece.ensures.is ∙ ap without_spaces_behind c.split_at.ensures.front) c.in_ok-first.ensures in
    subst (Makes c.with_first.result)
    (ap (λ rest. option_map (λ names. (c.in-Some.first, names)) (with_names [] (names_behind rest))) c.split_at-in-Some.ensures.back ∙ sym (read ∙ ap (λ o. with_first o behind) c.in-Some.is))
    c.with_first.ensures

pub returns-in-None : goal.returns-in-None
returns-in-None c =
    let text = c.args.text.now in
    let place = c.comma_place-place.result in
    let behind = names_behind (drop (place + 1) text) in
    let read = list-read text _ place _ c.comma_place-place.ensures.count (omega (arith, c.comma_place-place.ensures.within, c.if-place-text.false)) (c.without_spaces_behind-piece.ensures.is ∙ ap without_spaces_behind c.split_at.ensures.front) c.in_ok-first.ensures in
    sym (read ∙ ap (λ o. with_first o behind) c.in-None.is)
