use Rattle.std.proofs.Common.{◌≡◌, ◌≤◌, take}
use Rattle.std.specs.Prelude.{count_by}
use Rattle.wh_ddl_text.specs.Pieces.{is_option}
use Rattle.wh_ddl_text.proofs.logs.count_of.Given as goal

-- so many of the options before this place
abbrev pub invariant-loop-option : goal.invariant-loop-option
invariant-loop-option l = record {
  count : l.count ≡ count_by (is_option l.wanted) (take l.option-index l.options);
  few : l.count ≤ l.option-index;
}
