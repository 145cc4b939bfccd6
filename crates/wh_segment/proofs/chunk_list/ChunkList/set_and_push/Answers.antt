use Rattle.std.proofs.Common.{arith, ap, subst, sym, ◌∙◌, ◌<◌, ◌++◌, ◌∷◌, [], List, length, slice_set}
use Rattle.wh_base.specs.Lists.{joined_lists}
use Rattle.wh_segment.specs.Chunks.{AreChunksOf}
use Rattle.wh_segment.proofs.Replacing.{counted_put, on_err}
use Rattle.wh_segment.proofs.chunk_list.ChunkList.set_and_push.Goals as goal

pub set_and_push_item-requires-clause-full : goal.set_and_push_item-requires-clause-full
set_and_push_item-requires-clause-full g c = c.self.invariant.full

pub set_and_push_item-requires-clause-there : goal.set_and_push_item-requires-clause-there
set_and_push_item-requires-clause-there g c = subst (λ (l : List g.row.T.Denot). c.args.place < length l) (sym c.self.view_is) c.requires

pub invariant_of-self : goal.invariant_of-self
invariant_of-self g c = subst (AreChunksOf c.self.inside.count) (sym c.in_err-set_and_push_item.ensures.err) c.self.invariant

pub returns-in_err-set_and_push_item-clause-err : goal.returns-in_err-set_and_push_item-clause-err
returns-in_err-set_and_push_item-clause-err g c = on_err c.from_residual.result (ap joined_lists c.in_err-set_and_push_item.ensures.err ∙ c.self.view_is)

pub overflow_add-self : goal.overflow_add-self
overflow_add-self g c = omega (arith, c.if-self-ge-MOST.false)

pub invariant_of-self-2 : goal.invariant_of-self-2
invariant_of-self-2 g c = counted_put c.self.inside.count c.self.inside.chunks.items c.set_and_push_item.new.chunks.items c.args.place c.args.item c.args.more c.self.invariant c.if-self-ge-MOST.false c.in_ok-set_and_push_item.ensures.ok c.in_ok-set_and_push_item.ensures.full

pub returns-clause-ok : goal.returns-clause-ok
returns-clause-ok g c = c.in_ok-set_and_push_item.ensures.ok ∙ ap (λ (l : List g.row.T.Denot). slice_set l c.args.place c.args.item ++ c.args.more ∷ []) c.self.view_is
