use Rattle.std.proofs.Common.{arith}
use Rattle.wh_segment.proofs.Joined.{chunk_there}
use Rattle.wh_segment.proofs.Replacing.{added_full, added_is, added_offset}
use Rattle.wh_segment.proofs.chunk_list.set_and_add.Goals as goal

pub index_mut-requires : goal.index_mut-requires
index_mut-requires g c =
    let there = chunk_there c.args.chunks.now.items c.args.place c.requires.full c.requires.there in
    omega (arith, there, c.args.chunks.now.ok, c.reserve.ensures.len)

pub set-requires : goal.set-requires
set-requires g c = added_offset c.args.chunks.now.items c.reserve.new.self.items c.index_mut.result.now c.args.place c.requires.full c.requires.there c.reserve.ensures.items c.index_mut.ensures.value

pub returns-clause-ok : goal.returns-clause-ok
returns-clause-ok g c =
    added_is c.args.chunks.now.items c.reserve.new.self.items c.push_reserved.new.self.items c.index_mut.result.now c.set.new.self c.in_ok-added.added c.args.place c.args.item c.args.more
    c.requires.full c.requires.there c.reserve.ensures.items c.index_mut.ensures.value c.in_ok-set.ensures.ok c.in_ok-added.ensures c.push_reserved.ensures.items

pub returns-clause-full : goal.returns-clause-full
returns-clause-full g c =
    added_full c.args.chunks.now.items c.reserve.new.self.items c.push_reserved.new.self.items c.index_mut.result.now c.set.new.self c.in_ok-added.added c.args.place c.args.item c.args.more
    c.requires.full c.requires.there c.requires.none c.reserve.ensures.items c.index_mut.ensures.value c.in_ok-set.ensures.ok c.in_ok-added.ensures c.push_reserved.ensures.items
