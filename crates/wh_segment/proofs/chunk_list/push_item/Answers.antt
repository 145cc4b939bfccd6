use Rattle.std.proofs.Common.{arith, ap, ◌∙◌, sym, length, ◌≡◌}
use Rattle.wh_segment.specs.Chunks.{last_has_room}
use Rattle.wh_segment.proofs.Joined.{last_chunks, last_list, new_chunks, new_list}
use Rattle.wh_segment.proofs.chunk_list.push_item.Goals as goal

pub returns-then-last_has_room-clause-ok : goal.returns-then-last_has_room-clause-ok
returns-then-last_has_room-clause-ok g c =
    let room = ap last_has_room (sym c.as_slice.ensures.value) ∙ sym c.last_has_room.ensures ∙ c.if-last_has_room.true in
    let as_long : c.len-last.result ≡ length c.args.chunks.now.items = omega (arith, c.len-last.ensures, c.args.chunks.now.ok) in
    last_list c.args.chunks.now.items c.len-last.result c.index_mut.result.now c.push.new.self c.args.item room as_long c.index_mut.ensures.value c.in_ok-push.ensures.ok

pub returns-then-last_has_room-clause-full : goal.returns-then-last_has_room-clause-full
returns-then-last_has_room-clause-full g c =
    let room = ap last_has_room (sym c.as_slice.ensures.value) ∙ sym c.last_has_room.ensures ∙ c.if-last_has_room.true in
    let as_long : c.len-last.result ≡ length c.args.chunks.now.items = omega (arith, c.len-last.ensures, c.args.chunks.now.ok) in
    last_chunks c.args.chunks.now.items c.len-last.result c.index_mut.result.now c.push.new.self c.args.item c.requires room as_long c.index_mut.ensures.value c.in_ok-push.ensures.ok

pub returns-clause-ok : goal.returns-clause-ok
returns-clause-ok g c = new_list c.args.chunks.now.items c.push-2.new.self.items c.in_ok-one.field-0 c.args.item c.in_ok-one.ensures c.in_ok-push-2.ensures.items

pub returns-clause-full : goal.returns-clause-full
returns-clause-full g c =
    let room = ap last_has_room (sym c.as_slice.ensures.value) ∙ sym c.last_has_room.ensures ∙ c.if-last_has_room.false in
    new_chunks c.args.chunks.now.items c.push-2.new.self.items c.in_ok-one.field-0 c.args.item c.requires room c.in_ok-one.ensures c.in_ok-push-2.ensures.items
