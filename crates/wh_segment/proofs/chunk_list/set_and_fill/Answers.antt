use Rattle.std.proofs.Common.{ap, sym, ◌∙◌, ◌++◌, ◌∷◌, [], slice_set}
use Rattle.wh_base.specs.Lists.{joined_lists}
use Rattle.wh_segment.specs.Chunks.{last_has_room}
use Rattle.wh_segment.proofs.Replacing.{on_err, same_full, same_there}
use Rattle.wh_segment.proofs.chunk_list.set_and_fill.Goals as goal

pub set_and_fill_last-requires-clause-full : goal.set_and_fill_last-requires-clause-full
set_and_fill_last-requires-clause-full g c = same_full c.args.chunks.now (c.in-Some.others.now ++ c.in-Some.last.now ∷ []) (sym c.in-Some.ensures.cases.0) c.requires.full

pub set_and_fill_last-requires-clause-there : goal.set_and_fill_last-requires-clause-there
set_and_fill_last-requires-clause-there g c = same_there c.args.chunks.now (c.in-Some.others.now ++ c.in-Some.last.now ∷ []) c.args.place (sym c.in-Some.ensures.cases.0) c.requires.there

pub set_and_fill_last-requires-clause-room : goal.set_and_fill_last-requires-clause-room
set_and_fill_last-requires-clause-room g c = ap last_has_room (sym c.in-Some.ensures.cases.0) ∙ c.requires.room

pub returns-in_err-set_and_fill_last-in-Some-clause-err : goal.returns-in_err-set_and_fill_last-in-Some-clause-err
returns-in_err-set_and_fill_last-in-Some-clause-err g c =
    let others = c.in_err-set_and_fill_last-in-Some.ensures.err in
    let last = c.in_err-set_and_fill_last-in-Some.ensures.same in
    on_err c.from_residual.result ((λ i. others i ++ last i ∷ []) ∙ sym c.in-Some.ensures.cases.0)

pub returns-clause-ok : goal.returns-clause-ok
returns-clause-ok g c = c.in_ok-set_and_fill_last-in-Some.ensures.ok ∙ ap (λ xs. slice_set (joined_lists xs) c.args.place c.args.item ++ c.args.more ∷ []) (sym c.in-Some.ensures.cases.0)

pub returns-clause-full : goal.returns-clause-full
returns-clause-full g c = c.in_ok-set_and_fill_last-in-Some.ensures.full
