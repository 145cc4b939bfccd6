use Rattle.std.proofs.Common.{◌≡◌}
use Rattle.wh_segment.proofs.Removing.{past_below, purged_below}
use Rattle.wh_segment.proofs.segment.remove_past.Given as goal

abbrev pub invariant-loop-place : goal.invariant-loop-place
invariant-loop-place l = record {
  versions : l.versions ≡ purged_below l.to l.place l.initial.versions;
  counted : l.count ≡ past_below l.to l.place l.initial.versions;
}
