use Rattle.std.proofs.Common.{leb, rules}
use Rattle.std.proofs.lemmas.List.Sorted.{IsPartitionPoint-from_clause, IsPartitionedBy-leb}
use Rattle.wh_base.specs.declared.logs.LogRow.{LogRow}
use Rattle.wh_log.specs.Log.{scn_of}
use Rattle.wh_log.proofs.Searched.{searched}
use Rattle.wh_log.proofs.sides.count_up_to.Goals as goal

pub returns : goal.returns
returns c =
    let point = IsPartitionPoint-from_clause (λ (r : LogRow). leb r.scn c.args.scn) _ _ c.partition_point.ensures.partitioned (IsPartitionedBy-leb scn_of _ c.args.scn c.requires) (λ a r q k. search rules) in
    let parts = searched c.args.rows.now c.args.scn c.partition_point.result c.partition_point.ensures.bound point in
    record { within = c.partition_point.ensures.bound; first = parts.0; rest = parts.1 }
