use Rattle.std.proofs.Common.{◌≡◌, drop, take}
use Rattle.def_effect.specs.Define.{new_column_refusal}
use Rattle.def_resolve.specs.Earlier.{first_after, first_in_turn}
use Rattle.wh_define.proofs.columns.columns_refusal.Given as goal

abbrev pub invariant-loop-at : goal.invariant-loop-at
invariant-loop-at l = first_after (new_column_refusal l.table) (take l.at l.columns) (drop l.at l.columns) ≡ first_in_turn (new_column_refusal l.table) l.columns
