use Rattle.std.proofs.Common.{◌≡◌, drop}
use Rattle.std.specs.List.{list_all}
use Rattle.def_effect.specs.Block.{own_value}
use Rattle.def_meaning.specs.Joined.{edge_true}
use Rattle.wh_dml.proofs.filter.joins_hold.Given as goal

abbrev pub invariant-loop-join : goal.invariant-loop-join
invariant-loop-join l = list_all (edge_true (own_value l.values)) (drop l.join-index l.joins) ≡ list_all (edge_true (own_value l.values)) l.joins
