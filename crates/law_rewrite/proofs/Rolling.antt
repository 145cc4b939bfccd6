-- An aggregate rolled up over the rows of groups is the aggregate over all their members.
use Rattle.std.proofs.Common.{◌≡◌, ◌∙◌, sym, ap, refl, ℕ, cond, List, [], ◌∷◌, map}
use Rattle.std.specs.Prelude.{pos}
use Rattle.std.specs.List.{flat_map}
use Rattle.wh_base.specs.Tables.{value_at}
use Rattle.wh_base.proofs.Sorting.{SameCounts}
use Rattle.wh_base.specs.declared.values.Value.{Value}
use Rattle.wh_base.specs.declared.values.Value.TheVariants.{Num}
use Rattle.wh_base.specs.declared.columns.Agg.{Agg}
use Rattle.wh_base.specs.declared.columns.ColRef.{ColRef}
use Rattle.def_meaning.specs.Meaning.{Grouped, agg_value, total_of, sum_value, avg_value, count_value, min_value, max_value, not_null}
use Rattle.def_rewriting.specs.Rollup.{Origin, SumsOf, CountsOf, AveragesOf, SumsAndCounts, LeastOf, GreatestOf, rolled, place_values, counts_value, ratio_value, sum_by_part, sum_part, count_part}
use Rattle.law_lists.proofs.Counts.{SameCounts-map, SameCounts-filter}
use Rattle.law_lists.proofs.Folds.{total_same, length_same, sum_same, average_same, min_same, max_same, each_of, sum_parts, count_parts, min_parts, max_parts}
use Rattle.law_lists.proofs.Each.{Each-map}
use Rattle.law_lists.proofs.Groups.{Stands, members}
use Rattle.law_lists.proofs.Aggregates.{wanted_members, wanted_same, wanted_values}
use Rattle.law_rewrite.specs.Words.{Each}
use Rattle.law_rewrite.proofs.Folds.{part_same, average_parts, quotient_parts}

-- what an aggregate's value is of the values that it ranges over
abbrev pub whole : Origin → List Value → Value
whole (SumsOf n) vs = sum_value vs
whole (CountsOf n) vs = count_value vs
whole (AveragesOf n) vs = avg_value vs
whole (SumsAndCounts m n) vs = avg_value vs
whole (LeastOf n) vs = min_value vs
whole (GreatestOf n) vs = max_value vs

-- a row has at the places of an origin what it needs of these values
abbrev pub Serves : Origin → List Value → List Value → Type 0
Serves (SumsOf n) row vs = value_at row n ≡ sum_value vs
Serves (CountsOf n) row vs = value_at row n ≡ count_value vs
Serves (AveragesOf n) row vs = value_at row n ≡ avg_value vs
Serves (SumsAndCounts m n) row vs = (value_at row m ≡ sum_value vs) × (value_at row n ≡ count_value vs)
Serves (LeastOf n) row vs = value_at row n ≡ min_value vs
Serves (GreatestOf n) row vs = value_at row n ≡ max_value vs

-- ---- the rows in another order

place_same : (rows rows' : List (List Value)) → SameCounts rows rows' → (n : ℕ) → SameCounts (place_values rows n) (place_values rows' n)
place_same rows rows' h n =
    SameCounts-filter not_null (map (λ r. value_at r n) rows) (map (λ r. value_at r n) rows') (SameCounts-map (λ r. value_at r n) rows rows' h)

pub rolled_same : (rows rows' : List (List Value)) → SameCounts rows rows' → (o : Origin) → rolled rows o ≡ rolled rows' o
rolled_same rows rows' h (SumsOf n) = sum_same (place_values rows n) (place_values rows' n) (place_same rows rows' h n)
rolled_same rows rows' h (CountsOf n) = ap Num (total_same (place_values rows n) (place_values rows' n) (place_same rows rows' h n))
rolled_same rows rows' h (AveragesOf n) =
    λ i. ratio_value (part_same sum_part (place_values rows n) (place_values rows' n) (place_same rows rows' h n) i) (part_same count_part (place_values rows n) (place_values rows' n) (place_same rows rows' h n) i)
rolled_same rows rows' h (SumsAndCounts m n) =
    λ i. ratio_value (total_same (place_values rows m) (place_values rows' m) (place_same rows rows' h m) i) (total_same (place_values rows n) (place_values rows' n) (place_same rows rows' h n) i)
rolled_same rows rows' h (LeastOf n) = min_same (place_values rows n) (place_values rows' n) (place_same rows rows' h n)
rolled_same rows rows' h (GreatestOf n) = max_same (place_values rows n) (place_values rows' n) (place_same rows rows' h n)

pub whole_same : (o : Origin) (vs ws : List Value) → SameCounts vs ws → whole o vs ≡ whole o ws
whole_same (SumsOf n) vs ws h = sum_same vs ws h
whole_same (CountsOf n) vs ws h = ap (λ k. Num (pos k)) (length_same vs ws h)
whole_same (AveragesOf n) vs ws h = average_same vs ws h
whole_same (SumsAndCounts m n) vs ws h = average_same vs ws h
whole_same (LeastOf n) vs ws h = min_same vs ws h
whole_same (GreatestOf n) vs ws h = max_same vs ws h

-- ---- the rows of groups

module _ {G : Type 0} (row : G → List Value) (part : G → List Value) where
  places_are : (n : ℕ) (f : List Value → Value) (gs : List G) → Each (λ g. value_at (row g) n ≡ f (part g)) gs → place_values (map row gs) n ≡ each_of part f gs
  places_are n f [] h = refl
  places_are n f (g ∷ gs) h =
      (λ i. cond (not_null (h.0 i)) (h.0 i ∷ places_are n f gs h.1 i) (places_are n f gs h.1 i))

  pub rolled_parts : (o : Origin) (gs : List G) → Each (λ g. Serves o (row g) (part g)) gs → rolled (map row gs) o ≡ whole o (flat_map part gs)
  rolled_parts (SumsOf n) gs h = ap sum_value (places_are n sum_value gs h) ∙ sum_parts part gs
  rolled_parts (CountsOf n) gs h = ap counts_value (places_are n count_value gs h) ∙ ap Num (count_parts part gs)
  rolled_parts (AveragesOf n) gs h =
      ap (λ vs. ratio_value (sum_by_part sum_part vs) (sum_by_part count_part vs)) (places_are n avg_value gs h) ∙ average_parts part gs
  rolled_parts (SumsAndCounts m n) gs h =
      (λ i. ratio_value (total_of (places_are m sum_value gs (Each-map (λ g. Serves (SumsAndCounts m n) (row g) (part g)) (λ g. value_at (row g) m ≡ sum_value (part g)) (λ g k. k.0) gs h) i))
      (total_of (places_are n count_value gs (Each-map (λ g. Serves (SumsAndCounts m n) (row g) (part g)) (λ g. value_at (row g) n ≡ count_value (part g)) (λ g k. k.1) gs h) i)))
      ∙ quotient_parts part gs
  rolled_parts (LeastOf n) gs h = ap min_value (places_are n min_value gs h) ∙ min_parts part gs
  rolled_parts (GreatestOf n) gs h = ap max_value (places_are n max_value gs h) ∙ max_parts part gs

-- ---- an aggregate over the rows of groups

module _ {T : Type 0} (value : T → ColRef → Value) where
  -- the aggregate is of the kind of the origin
  abbrev pub Suits : Agg → Origin → Type 0
  Suits a o = (ts : List T) → agg_value value ts a ≡ whole o (wanted_values value a ts)

  module _ (row : Grouped T → List Value) where
    -- rolled up over rows that stand for groups, it is the aggregate over the tuples
    pub rolled_is : (a : Agg) (o : Origin) (gs : List (Grouped T)) (rows : List (List Value)) (ts : List T)
        → Suits a o → Each (λ g. Serves o (row g) (wanted_values value a g.1)) gs → Stands row gs rows ts
        → rolled rows o ≡ agg_value value ts a
    rolled_is a o gs rows ts suits serves s =
        rolled_same rows (map row gs) s.rows_are o
        ∙ rolled_parts row (λ g. wanted_values value a g.1) o gs serves
        ∙ ap (whole o) (wanted_members value row a gs)
        ∙ whole_same o (wanted_values value a (members row gs)) (wanted_values value a ts) (wanted_same value a (members row gs) ts s.tuples_are)
        ∙ sym (suits ts)
