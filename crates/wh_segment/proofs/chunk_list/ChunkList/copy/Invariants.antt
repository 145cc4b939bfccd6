use Rattle.std.proofs.Common.{◌≡◌, take}
use Rattle.wh_segment.proofs.chunk_list.ChunkList.copy.Given as goal

abbrev pub invariant-loop-chunk : goal.invariant-loop-chunk
invariant-loop-chunk g l = l.chunks.items ≡ take l.chunk-index l.chunk-items
