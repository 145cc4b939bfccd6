use Rattle.std.proofs.Common.{arith, ap, sym, ◌∙◌, ◌≡◌, length}
use Rattle.wh_segment.specs.Chunks.{last_has_room}
use Rattle.wh_segment.proofs.Replacing.{back_full, back_list, back_same, on_err, same_full, same_there}
use Rattle.wh_segment.proofs.chunk_list.set_and_push_item.Goals as goal

pub set_and_fill-requires-clause-full : goal.set_and_fill-requires-clause-full
set_and_fill-requires-clause-full g c = same_full c.args.chunks.now.items c.as_mut_slice.result.now c.as_mut_slice.ensures.value c.requires.full

pub set_and_fill-requires-clause-there : goal.set_and_fill-requires-clause-there
set_and_fill-requires-clause-there g c = same_there c.args.chunks.now.items c.as_mut_slice.result.now c.args.place c.as_mut_slice.ensures.value c.requires.there

pub set_and_fill-requires-clause-room : goal.set_and_fill-requires-clause-room
set_and_fill-requires-clause-room g c = ap last_has_room c.as_mut_slice.ensures.value ∙ ap last_has_room (sym c.as_slice.ensures.value) ∙ sym c.last_has_room.ensures ∙ c.if-last_has_room.true

pub returns-in_err-set_and_fill-clause-err : goal.returns-in_err-set_and_fill-clause-err
returns-in_err-set_and_fill-clause-err g c =
    let long : c.args.chunks.now.len ≡ length c.set_and_fill.new.chunks = omega (arith, c.args.chunks.now.ok, c.set_and_fill.auto.chunks, c.as_mut_slice.ensures.len) in
    on_err c.from_residual.result (back_same c.args.chunks.now.items c.as_mut_slice.result.now c.set_and_fill.new.chunks c.args.chunks.now.len long c.as_mut_slice.ensures.value c.in_err-set_and_fill.ensures.err)

pub returns-then-last_has_room-clause-ok : goal.returns-then-last_has_room-clause-ok
returns-then-last_has_room-clause-ok g c =
    let long : c.args.chunks.now.len ≡ length c.set_and_fill.new.chunks = omega (arith, c.args.chunks.now.ok, c.set_and_fill.auto.chunks, c.as_mut_slice.ensures.len) in
    back_list c.args.chunks.now.items c.as_mut_slice.result.now c.set_and_fill.new.chunks c.args.chunks.now.len c.args.place c.args.item c.args.more long c.as_mut_slice.ensures.value c.in_ok-set_and_fill.ensures.ok

pub returns-then-last_has_room-clause-full : goal.returns-then-last_has_room-clause-full
returns-then-last_has_room-clause-full g c =
    let long : c.args.chunks.now.len ≡ length c.set_and_fill.new.chunks = omega (arith, c.args.chunks.now.ok, c.set_and_fill.auto.chunks, c.as_mut_slice.ensures.len) in
    back_full c.args.chunks.now.items c.set_and_fill.new.chunks c.args.chunks.now.len long c.in_ok-set_and_fill.ensures.full

pub set_and_add-requires-clause-full : goal.set_and_add-requires-clause-full
set_and_add-requires-clause-full g c = c.requires.full

pub set_and_add-requires-clause-there : goal.set_and_add-requires-clause-there
set_and_add-requires-clause-there g c = c.requires.there

pub set_and_add-requires-clause-none : goal.set_and_add-requires-clause-none
set_and_add-requires-clause-none g c = ap last_has_room (sym c.as_slice.ensures.value) ∙ sym c.last_has_room.ensures ∙ c.if-last_has_room.false

pub returns-in_err-set_and_add-clause-err : goal.returns-in_err-set_and_add-clause-err
returns-in_err-set_and_add-clause-err g c = on_err c.from_residual-in_err-set_and_add.result c.in_err-set_and_add.ensures.err

pub returns-clause-ok : goal.returns-clause-ok
returns-clause-ok g c = c.in_ok-set_and_add.ensures.ok

pub returns-clause-full : goal.returns-clause-full
returns-clause-full g c = c.in_ok-set_and_add.ensures.full
