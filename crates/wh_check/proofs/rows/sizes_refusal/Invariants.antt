use Rattle.std.proofs.Common.{◌≡◌, drop, IsTrue}
use Rattle.std.specs.List.{list_all}
use Rattle.wh_check.specs.Rows.{sizes_refusal}
use Rattle.wh_load.specs.Sized.{kind_is_sized}
use Rattle.wh_check.proofs.rows.sizes_refusal.Given as goal

abbrev pub invariant-loop-at : goal.invariant-loop-at
invariant-loop-at l = record {
  small : IsTrue (list_all (λ c. kind_is_sized c.kind) (drop l.at l.columns));
  rest : sizes_refusal l.table (drop l.at l.columns) (drop l.at l.row) ≡ sizes_refusal l.table l.columns l.row;
}
