use Rattle.std.proofs.Common.{◌≡◌, drop, take}
use Rattle.def_effect.specs.Define.{new_range_refusal, numbered_parts}
use Rattle.def_resolve.specs.Earlier.{first_after, first_in_turn}
use Rattle.wh_define.proofs.ranges.numbered_parts.Given as goal

abbrev pub invariant-loop-at : goal.invariant-loop-at
invariant-loop-at l = record {
  parts : l.parts ≡ numbered_parts 1 (take l.at l.ranges);
  turn : first_after (new_range_refusal l.table l.column l.kind) (take l.at l.ranges) (drop l.at l.ranges) ≡ first_in_turn (new_range_refusal l.table l.column l.kind) l.ranges;
}
