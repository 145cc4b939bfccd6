use Rattle.std.proofs.Common.{◌≡◌, length, drop}
use Rattle.wh_dml.specs.Asking.{kinds_refusal}
use Rattle.wh_dml.proofs.asks.kinds_refusal.Given as goal

abbrev pub invariant-loop-at : goal.invariant-loop-at
invariant-loop-at l = record {
  same : length l.places ≡ length l.row;
  rest : kinds_refusal l.def (drop l.at l.places) (drop l.at l.row) ≡ kinds_refusal l.def l.places l.row;
}
