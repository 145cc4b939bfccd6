use Rattle.std.proofs.Common.{nat_le, rules, sym}
use Rattle.std.proofs.lemmas.List.{take_rest}
use Rattle.std.proofs.lemmas.List.Sorted.{IsPartitionPoint-from_clause}
use Rattle.wh_partmap.proofs.Touching.{after_point, touches_parted}
use Rattle.wh_partmap.proofs.told.touches_behind.Goals as goal

pub returns : goal.returns
returns c =
    let scn = c.args.scn in
    let point = IsPartitionPoint-from_clause (λ t. nat_le t.scn scn) _ _ c.partition_point-place.ensures.partitioned (touches_parted c.args.touches.now scn c.requires) (λ a r q k. search rules) in
    let after = after_point c.args.touches.now scn c.partition_point-place.result point in
    rw take_rest (sym after)
