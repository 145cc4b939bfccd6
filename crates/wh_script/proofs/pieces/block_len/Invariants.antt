use Rattle.std.proofs.Common.{◌≡◌, ◌+◌, ◌-◌, ◌≤◌, drop, length}
use Rattle.def_grammar.specs.Lines.{raw_lines}
use Rattle.wh_script.specs.Pieces.{block_len}
use Rattle.wh_script.proofs.pieces.block_len.Given as goal

abbrev pub invariant-loop-at : goal.invariant-loop-at
invariant-loop-at l = record {
  within : l.at ≤ length l.bytes;
  rest : l.at + block_len (raw_lines (drop l.at l.bytes)) ≡ block_len (raw_lines l.bytes);
}

abbrev pub decreases-loop-at : goal.decreases-loop-at
decreases-loop-at l = length l.bytes - l.at
