-- An aggregate by the values that it ranges over: it is the same of the same tuples in any order, and it ranges over what the
-- members of groups have, put together.
use Rattle.std.proofs.Common.{◌≡◌, ◌∙◌, sym, ap, refl, List, [], ◌∷◌, ◌++◌, map}
use Rattle.std.specs.Prelude.{pos}
use Rattle.std.specs.List.{flat_map}
use Rattle.std.proofs.lemmas.List.{length-map, map-append}
use Rattle.wh_base.proofs.Sorting.{SameCounts}
use Rattle.wh_base.specs.declared.values.Value.{Value}
use Rattle.wh_base.specs.declared.values.Value.TheVariants.{Null, Num}
use Rattle.wh_base.specs.declared.columns.Agg.{Agg}
use Rattle.wh_base.specs.declared.columns.Agg.TheVariants.{Avg, Count, CountAll, Max, Min, Sum}
use Rattle.wh_base.specs.declared.columns.ColRef.{ColRef}
use Rattle.wh_base.specs.declared.columns.Expr.{Expr}
use Rattle.def_meaning.specs.Meaning.{Grouped, agg_value, avg_value, count_value, expr_value, max_value, min_value, not_null, sum_value, values_of}
use Rattle.def_meaning.proofs.Merging.{values_of-append}
use Rattle.law_lists.proofs.Counts.{SameCounts-filter, SameCounts-map}
use Rattle.law_lists.proofs.Folds.{average_same, length_same, max_same, min_same, sum_same}
use Rattle.law_lists.proofs.Groups.{members}

abbrev pub of_values : Agg → List Value → Value
of_values CountAll vs = count_value vs
of_values (Count e) vs = count_value vs
of_values (Sum e) vs = sum_value vs
of_values (Avg e) vs = avg_value vs
of_values (Min e) vs = min_value vs
of_values (Max e) vs = max_value vs

pub of_same : (a : Agg) (vs ws : List Value) → SameCounts vs ws → of_values a vs ≡ of_values a ws
of_same CountAll vs ws h = ap (λ k. Num (pos k)) (length_same vs ws h)
of_same (Count e) vs ws h = ap (λ k. Num (pos k)) (length_same vs ws h)
of_same (Sum e) vs ws h = sum_same vs ws h
of_same (Avg e) vs ws h = average_same vs ws h
of_same (Min e) vs ws h = min_same vs ws h
of_same (Max e) vs ws h = max_same vs ws h

-- ---- what an aggregate ranges over; COUNT(*) over one thing for each tuple

module _ {T : Type 0} (value : T → ColRef → Value) where
  abbrev pub wanted_values : Agg → List T → List Value
  wanted_values CountAll ts = map (λ t. Null) ts
  wanted_values (Count e) ts = values_of value e ts
  wanted_values (Sum e) ts = values_of value e ts
  wanted_values (Avg e) ts = values_of value e ts
  wanted_values (Min e) ts = values_of value e ts
  wanted_values (Max e) ts = values_of value e ts

  pub agg_by : (a : Agg) (ts : List T) → agg_value value ts a ≡ of_values a (wanted_values a ts)
  agg_by CountAll ts = ap (λ k. Num (pos k)) (sym (length-map ts (λ t. Null)))
  agg_by (Count e) ts = refl
  agg_by (Sum e) ts = refl
  agg_by (Avg e) ts = refl
  agg_by (Min e) ts = refl
  agg_by (Max e) ts = refl

  values_same : (e : Expr) (ts us : List T) → SameCounts ts us → SameCounts (values_of value e ts) (values_of value e us)
  values_same e ts us h =
      SameCounts-filter not_null (map (λ t. expr_value (value t) e) ts) (map (λ t. expr_value (value t) e) us) (SameCounts-map (λ t. expr_value (value t) e) ts us h)

  pub wanted_same : (a : Agg) (ts us : List T) → SameCounts ts us → SameCounts (wanted_values a ts) (wanted_values a us)
  wanted_same CountAll ts us h = SameCounts-map (λ t. Null) ts us h
  wanted_same (Count e) ts us h = values_same e ts us h
  wanted_same (Sum e) ts us h = values_same e ts us h
  wanted_same (Avg e) ts us h = values_same e ts us h
  wanted_same (Min e) ts us h = values_same e ts us h
  wanted_same (Max e) ts us h = values_same e ts us h

  pub agg_same : (a : Agg) (ts us : List T) → SameCounts ts us → agg_value value ts a ≡ agg_value value us a
  agg_same a ts us h = agg_by a ts ∙ of_same a (wanted_values a ts) (wanted_values a us) (wanted_same a ts us h) ∙ sym (agg_by a us)

  wanted-append : (a : Agg) (ts us : List T) → wanted_values a (ts ++ us) ≡ wanted_values a ts ++ wanted_values a us
  wanted-append CountAll ts us = map-append (λ t. Null) ts us
  wanted-append (Count e) ts us = values_of-append value e ts us
  wanted-append (Sum e) ts us = values_of-append value e ts us
  wanted-append (Avg e) ts us = values_of-append value e ts us
  wanted-append (Min e) ts us = values_of-append value e ts us
  wanted-append (Max e) ts us = values_of-append value e ts us

  wanted_none : (a : Agg) → wanted_values a [] ≡ []
  wanted_none CountAll = refl
  wanted_none (Count e) = refl
  wanted_none (Sum e) = refl
  wanted_none (Avg e) = refl
  wanted_none (Min e) = refl
  wanted_none (Max e) = refl

  pub wanted_members : (row : Grouped T → List Value) (a : Agg) (gs : List (Grouped T)) → flat_map (λ g. wanted_values a g.1) gs ≡ wanted_values a (members row gs)
  wanted_members row a [] = sym (wanted_none a)
  wanted_members row a (g ∷ gs) = ap (λ vs. wanted_values a g.1 ++ vs) (wanted_members row a gs) ∙ sym (wanted-append a g.1 (members row gs))
