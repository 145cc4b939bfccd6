use Rattle.std.proofs.Common.{ap, ◌∙◌, List, slice_get}
use Rattle.wh_segment.proofs.Joined.{found_is, lost_is}
use Rattle.wh_segment.proofs.chunk_list.ChunkList.get.Goals as goal

pub returns-in-Some : goal.returns-in-Some
returns-in-Some g c =
    let there = c.in-Some.ensures.lookup in
    c.get-in-Some.ensures
    ∙ found_is c.self.inside.chunks.items c.deref.result.now c.args.place c.in-Some.chunk.now c.deref.ensures.value c.self.invariant.full there.3.0 there.1
    ∙ ap (λ (l : List g.row.T.Denot). slice_get l c.args.place) c.self.view_is

pub returns-in-None : goal.returns-in-None
returns-in-None g c =
    lost_is c.self.inside.chunks.items c.deref.result.now c.args.place c.deref.ensures.value c.self.invariant.full c.in-None.ensures.lookup.3
    ∙ ap (λ (l : List g.row.T.Denot). slice_get l c.args.place) c.self.view_is
