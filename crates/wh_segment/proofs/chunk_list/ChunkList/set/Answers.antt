use Rattle.std.proofs.Common.{arith, ap, ◌∙◌, sym, List, length, slice_set, subst, ◌<◌, ◌/◌, ◌≡◌}
use Rattle.wh_segment.proofs.Joined.{chunk_there, offset_is, set_chunks, set_list}
use Rattle.wh_base.specs.Lists.{joined_lists}
use Rattle.wh_segment.specs.Chunks.{AreChunksOf}
use Rattle.wh_segment.proofs.Replacing.{on_err, set_kept}
use Rattle.wh_segment.proofs.chunk_list.ChunkList.set.Goals as goal

pub index_mut-requires : goal.index_mut-requires
index_mut-requires g c =
    let within = subst (λ (l : List g.row.T.Denot). c.args.place < length l) (sym c.self.view_is) c.requires in
    let there = chunk_there c.self.inside.chunks.items c.args.place c.self.invariant.full within in
    omega (arith, there, c.self.inside.chunks.ok)

pub set-requires : goal.set-requires
set-requires g c =
    let within = subst (λ (l : List g.row.T.Denot). c.args.place < length l) (sym c.self.view_is) c.requires in
    offset_is c.self.inside.chunks.items c.args.place c.index_mut.result.now c.self.invariant.full within c.index_mut.ensures.value

pub invariant_of-self-2 : goal.invariant_of-self-2
invariant_of-self-2 g c =
    let within = subst (λ (l : List g.row.T.Denot). c.args.place < length l) (sym c.self.view_is) c.requires in
    set_chunks c.self.inside.count c.self.inside.chunks.items c.args.place c.index_mut.result.now c.set.new.self c.args.item c.self.invariant within c.index_mut.ensures.value c.in_ok-set.ensures.ok

pub returns-clause-ok : goal.returns-clause-ok
returns-clause-ok g c =
    let within = subst (λ (l : List g.row.T.Denot). c.args.place < length l) (sym c.self.view_is) c.requires in
    set_list c.self.inside.chunks.items c.args.place c.index_mut.result.now c.set.new.self c.args.item c.self.invariant.full within c.index_mut.ensures.value c.in_ok-set.ensures.ok
    ∙ ap (λ (l : List g.row.T.Denot). slice_set l c.args.place c.args.item) c.self.view_is

pub invariant_of-self : goal.invariant_of-self
invariant_of-self g c =
    let kept : slice_set c.self.inside.chunks.items (c.args.place / 1024) c.set.new.self ≡ c.self.inside.chunks.items =
    set_kept c.index_mut.result.now c.self.inside.chunks.items (c.args.place / 1024) c.set.new.self (c.in_err-set.ensures.err ∙ c.index_mut.ensures.value) in
    subst (AreChunksOf c.self.inside.count) (sym kept) c.self.invariant

pub returns-in_err-set-clause-err : goal.returns-in_err-set-clause-err
returns-in_err-set-clause-err g c =
    let kept : slice_set c.self.inside.chunks.items (c.args.place / 1024) c.set.new.self ≡ c.self.inside.chunks.items =
    set_kept c.index_mut.result.now c.self.inside.chunks.items (c.args.place / 1024) c.set.new.self (c.in_err-set.ensures.err ∙ c.index_mut.ensures.value) in
    on_err c.from_residual.result (ap joined_lists kept ∙ c.self.view_is)
