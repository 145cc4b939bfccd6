use Rattle.std.proofs.Common.{rules, subst, sym, ◌≡◌}
use Rattle.std.proofs.lemmas.List.Sorted.{IsPartitionPoint-from_clause}
use Rattle.std.specs.List.{prefix_len}
use Rattle.std.specs.List.Sorted.{IsPartitionedBy}
use Rattle.wh_partmap.proofs.Keys.{key_parts}
use Rattle.wh_partmap.proofs.Points.{prefix_from_point}
use Rattle.wh_partmap.specs.History.{lies_below}
use Rattle.wh_partmap.proofs.bounds.count_below.Goals as goal

pub returns : goal.returns
returns c =
    let test = lies_below c.args.key.now in
    let items = c.as_slice.result.now in
    let same : items ≡ c.args.parts.now = c.as_slice.ensures.items in
    let parted : IsPartitionedBy test items = subst (IsPartitionedBy test) (sym same) (key_parts c.args.key.now c.args.parts.now c.requires) in
    let point = IsPartitionPoint-from_clause test _ _ c.partition_point.ensures.partitioned parted (λ a r q k. search rules) in
    sym (subst (λ xs. prefix_len test xs ≡ c.partition_point.result) same (prefix_from_point test items c.partition_point.result c.partition_point.ensures.bound point))
