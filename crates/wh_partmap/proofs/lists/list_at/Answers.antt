use Rattle.std.proofs.Common.{◌≡◌, ◌-◌, ◌∙◌, length, nat_le, rules, slice_get, subst, sym}
use Rattle.std.specs.Option.{option_copied}
use Rattle.std.proofs.lemmas.List.Sorted.{IsPartitionPoint-from_clause}
use Rattle.wh_partmap.proofs.Before.{lists_parted}
use Rattle.wh_partmap.proofs.Points.{latest_from_point}
use Rattle.wh_partmap.proofs.lists.list_at.Goals as goal

pub returns : goal.returns
returns c =
    let scn = c.args.scn in
    let lists = c.args.lists.now in
    let count = c.partition_point-count.result in
    let point = IsPartitionPoint-from_clause (λ l. nat_le l.since scn) _ _ c.partition_point-count.ensures.partitioned (lists_parted lists scn c.requires) (λ a r q k. search rules) in
    let latest = latest_from_point (λ l. nat_le l.since scn) lists count c.partition_point-count.ensures.bound point in
    subst (λ xs. option_copied c.last.result ≡ slice_get xs (length xs - 1)) c.split_at.ensures.front c.last.ensures.value ∙ sym latest
