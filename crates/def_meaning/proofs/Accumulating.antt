-- An aggregate's value is that of what is kept of it.
use Rattle.std.proofs.Common.{◌≡◌, refl, length, List, [], ◌∷◌}
use Rattle.wh_base.specs.declared.values.Value.{Value}
use Rattle.wh_base.specs.declared.columns.ColRef.{ColRef}
use Rattle.wh_base.specs.declared.columns.Agg.{Agg}
use Rattle.wh_base.specs.declared.columns.Agg.TheVariants.{CountAll, Count, Sum, Avg, Min, Max}
use Rattle.def_meaning.specs.Meaning.{agg_value, values_of, sum_value, avg_value, total_of}
use Rattle.def_meaning.specs.Accumulated.{acc_value, acc_of, sum_by_count, average_by}

pub sum_kept : (vs : List Value) → sum_value vs ≡ sum_by_count (length vs) (total_of vs)
sum_kept [] = refl
sum_kept (v ∷ vs) = refl

pub average_kept : (vs : List Value) → avg_value vs ≡ average_by (length vs) (total_of vs)
average_kept [] = refl
average_kept (v ∷ vs) = refl

pub agg_value-acc : {T : Type 0} (value : T → ColRef → Value) (ts : List T) (a : Agg) → agg_value value ts a ≡ acc_value a (acc_of value ts a)
agg_value-acc value ts CountAll = refl
agg_value-acc value ts (Count e) = refl
agg_value-acc value ts (Sum e) = sum_kept (values_of value e ts)
agg_value-acc value ts (Avg e) = average_kept (values_of value e ts)
agg_value-acc value ts (Min e) = refl
agg_value-acc value ts (Max e) = refl
