use Rattle.std.proofs.Common.{◌≡◌, ◌≤◌, ◌^◌, length}
use Rattle.std.specs.List.{All}
use Rattle.mviewdb.proofs.counters.Given as goal

abbrev pub invariant-loop-place : goal.invariant-loop-place
invariant-loop-place l = record {
  counters : length l.reads.items ≡ l.place;
  low : All (λ n. n ≤ 2 ^ 62) l.reads.items;
}
