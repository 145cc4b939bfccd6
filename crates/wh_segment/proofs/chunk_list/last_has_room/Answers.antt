use Rattle.std.proofs.Common.{ap, ◌∙◌, sym, nat_lt, ℕ}
use Rattle.wh_segment.proofs.Joined.{room_at_last}
use Rattle.wh_segment.proofs.chunk_list.last_has_room.Goals as goal

pub returns-in-Some : goal.returns-in-Some
returns-in-Some g c = ap (λ (n : ℕ). nat_lt n 1024) c.len.ensures ∙ sym (room_at_last c.args.chunks.now c.in-Some.chunk.now c.in-Some.ensures.value)
