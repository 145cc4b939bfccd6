-- An aggregate over the rows of groups is the aggregate beneath over all their members: a sum of sums, a sum of counts, a least of
-- least values and a greatest of greatest ones.
use Rattle.std.proofs.Common.{◌≡◌, ◌∙◌, sym, ap, refl, arith, true, false, cond, List, [], ◌∷◌, map, Option, Some, None}
use Rattle.std.specs.Prelude.{option_and_then}
use Rattle.std.specs.List.{flat_map}
use Rattle.wh_base.specs.Lists.{is_empty}
use Rattle.wh_base.proofs.Sorting.{SameCounts}
use Rattle.wh_base.specs.declared.values.Value.{Value}
use Rattle.wh_base.specs.declared.values.Value.TheVariants.{Num}
use Rattle.wh_base.specs.declared.columns.Agg.{Agg}
use Rattle.wh_base.specs.declared.columns.Agg.TheVariants.{Avg, Count, CountAll, Max, Min, Sum}
use Rattle.wh_base.specs.declared.columns.ColRef.{ColRef}
use Rattle.wh_base.specs.declared.queries.RawAgg.{RawAgg}
use Rattle.wh_base.specs.declared.queries.RawAgg.TheVariants.{AvgOf, CountOf, CountRows, MaxOf, MinOf, SumOf}
use Rattle.wh_base.specs.declared.queries.RawExpr.{RawExpr}
use Rattle.wh_base.specs.declared.queries.RawExpr.TheVariants.{Column, Constant, Times}
use Rattle.wh_base.specs.declared.views.ViewDef.{ViewDef}
use Rattle.def_meaning.specs.Meaning.{Grouped, agg_value, count_value, group_item, max_value, min_value, not_null, sum_value}
use Rattle.def_nest.specs.Compose.{agg_beneath, composed_agg, greatest_taken, least_taken, summed}
use Rattle.law_lists.proofs.Counts.{SameCounts-filter, SameCounts-map}
use Rattle.law_lists.proofs.Folds.{each_of, max_parts, max_same, min_parts, min_same, sum_parts, sum_same, count_parts}
use Rattle.law_lists.proofs.Groups.{Stands, members}
use Rattle.law_lists.proofs.Aggregates.{agg_by, of_same, of_values, wanted_members, wanted_same, wanted_values}
use Rattle.law_nest.specs.Rolled.{row_expr, row_values, rolled_agg}
use Rattle.law_nest.proofs.Naming.{agg_cell}

-- ---- what is made of the parts

module _ {G : Type 0} (part : G → List Value) where
  -- there is a group, so a sum of counts isn't NULL
  count_sum : (gs : List G) → is_empty gs ≡ false → sum_value (each_of part count_value gs) ≡ count_value (flat_map part gs)
  count_sum [] h = cc
  count_sum (g ∷ gs) h = ap Num (count_parts part (g ∷ gs))

  pub summed_parts : (a b : Agg) → summed a ≡ Some b → (gs : List G) → is_empty gs ≡ false → sum_value (each_of part (of_values a) gs) ≡ of_values a (flat_map part gs)
  summed_parts CountAll b h gs full = count_sum gs full
  summed_parts (Count e) b h gs full = count_sum gs full
  summed_parts (Sum e) b h gs full = sum_parts part gs
  summed_parts (Avg e) b h gs full = cc
  summed_parts (Min e) b h gs full = cc
  summed_parts (Max e) b h gs full = cc

  pub least_parts : (a b : Agg) → least_taken a ≡ Some b → (gs : List G) → min_value (each_of part (of_values a) gs) ≡ of_values a (flat_map part gs)
  least_parts CountAll b h gs = cc
  least_parts (Count e) b h gs = cc
  least_parts (Sum e) b h gs = cc
  least_parts (Avg e) b h gs = cc
  least_parts (Min e) b h gs = min_parts part gs
  least_parts (Max e) b h gs = cc

  pub greatest_parts : (a b : Agg) → greatest_taken a ≡ Some b → (gs : List G) → max_value (each_of part (of_values a) gs) ≡ of_values a (flat_map part gs)
  greatest_parts CountAll b h gs = cc
  greatest_parts (Count e) b h gs = cc
  greatest_parts (Sum e) b h gs = cc
  greatest_parts (Avg e) b h gs = cc
  greatest_parts (Min e) b h gs = cc
  greatest_parts (Max e) b h gs = max_parts part gs

-- the aggregate stays
pub same_summed : (a b : Agg) → summed a ≡ Some b → a ≡ b
same_summed CountAll b h = ap (λ o. or_else o) h where
  or_else : Option Agg → Agg
  or_else None = CountAll
  or_else (Some x) = x
same_summed (Count e) b h = ap (λ o. or_else o) h where
  or_else : Option Agg → Agg
  or_else None = CountAll
  or_else (Some x) = x
same_summed (Sum e) b h = ap (λ o. or_else o) h where
  or_else : Option Agg → Agg
  or_else None = CountAll
  or_else (Some x) = x
same_summed (Avg e) b h = cc
same_summed (Min e) b h = cc
same_summed (Max e) b h = cc

pub same_least : (a b : Agg) → least_taken a ≡ Some b → a ≡ b
same_least CountAll b h = cc
same_least (Count e) b h = cc
same_least (Sum e) b h = cc
same_least (Avg e) b h = cc
same_least (Min e) b h = ap (λ o. or_else o) h where
  or_else : Option Agg → Agg
  or_else None = CountAll
  or_else (Some x) = x
same_least (Max e) b h = cc

pub same_greatest : (a b : Agg) → greatest_taken a ≡ Some b → a ≡ b
same_greatest CountAll b h = cc
same_greatest (Count e) b h = cc
same_greatest (Sum e) b h = cc
same_greatest (Avg e) b h = cc
same_greatest (Min e) b h = cc
same_greatest (Max e) b h = ap (λ o. or_else o) h where
  or_else : Option Agg → Agg
  or_else None = CountAll
  or_else (Some x) = x

-- ---- an aggregate over the rows of groups

module _ {T : Type 0} (value : T → ColRef → Value) where
  module _ (d : ViewDef) where
    -- the row of a group of the view
    abbrev pub beneath_row : Grouped T → List Value
    beneath_row g = map (group_item value d.query.keys g) d.query.items

    -- the aggregate that an expression names, in the row of a group
    expr_is : (e : RawExpr) (a : Agg) → agg_beneath d e ≡ Some a → (g : Grouped T) → row_expr d (beneath_row g) e ≡ of_values a (wanted_values value a g.1)
    expr_is (Column c) a h g = agg_cell d (group_item value d.query.keys g) c a h ∙ agg_by value a g.1
    expr_is (Times b c) a h g = cc
    expr_is (Constant n) a h g = cc

    values_parts : (e : RawExpr) (a : Agg) → agg_beneath d e ≡ Some a → (gs : List (Grouped T)) → row_values d (map beneath_row gs) e ≡ each_of (λ g. wanted_values value a g.1) (of_values a) gs
    values_parts e a h [] = refl
    values_parts e a h (g ∷ gs) =
        λ i. cond (not_null (expr_is e a h g i)) (expr_is e a h g i ∷ values_parts e a h gs i) (values_parts e a h gs i)

    rows_same : (e : RawExpr) (rows rows' : List (List Value)) → SameCounts rows rows' → SameCounts (row_values d rows e) (row_values d rows' e)
    rows_same e rows rows' h =
        SameCounts-filter not_null (map (λ r. row_expr d r e) rows) (map (λ r. row_expr d r e) rows') (SameCounts-map (λ r. row_expr d r e) rows rows' h)

    pub some_group : (gs : List (Grouped T)) (rows : List (List Value)) (ts : List T) → Stands beneath_row gs rows ts → is_empty ts ≡ false → is_empty gs ≡ false
    some_group [] rows [] s h = cc
    some_group [] rows (t ∷ ts) s h = absurd (omega (arith, s.tuples_are (λ _. true)))
    some_group (g ∷ gs) rows ts s h = refl

    -- what is made of the parts is the aggregate over the tuples
    pub whole_is : (a : Agg) (gs : List (Grouped T)) (rows : List (List Value)) (ts : List T) → Stands beneath_row gs rows ts
        → of_values a (flat_map (λ g. wanted_values value a g.1) gs) ≡ agg_value value ts a
    whole_is a gs rows ts s =
        ap (of_values a) (wanted_members value beneath_row a gs)
        ∙ of_same a (wanted_values value a (members beneath_row gs)) (wanted_values value a ts) (wanted_same value a (members beneath_row gs) ts s.tuples_are)
        ∙ sym (agg_by value a ts)

    module _ (gs : List (Grouped T)) (rows : List (List Value)) (ts : List T) (s : Stands beneath_row gs rows ts) (full : is_empty ts ≡ false) where
      sum_is : (e : RawExpr) (a b : Agg) → agg_beneath d e ≡ Some a → summed a ≡ Some b → sum_value (row_values d rows e) ≡ agg_value value ts b
      sum_is e a b named h =
          sum_same (row_values d rows e) (row_values d (map beneath_row gs) e) (rows_same e rows (map beneath_row gs) s.rows_are)
          ∙ ap sum_value (values_parts e a named gs)
          ∙ summed_parts (λ g. wanted_values value a g.1) a b h gs (some_group gs rows ts s full)
          ∙ whole_is a gs rows ts s
          ∙ ap (agg_value value ts) (same_summed a b h)

      least_is : (e : RawExpr) (a b : Agg) → agg_beneath d e ≡ Some a → least_taken a ≡ Some b → min_value (row_values d rows e) ≡ agg_value value ts b
      least_is e a b named h =
          min_same (row_values d rows e) (row_values d (map beneath_row gs) e) (rows_same e rows (map beneath_row gs) s.rows_are)
          ∙ ap min_value (values_parts e a named gs)
          ∙ least_parts (λ g. wanted_values value a g.1) a b h gs
          ∙ whole_is a gs rows ts s
          ∙ ap (agg_value value ts) (same_least a b h)

      greatest_is : (e : RawExpr) (a b : Agg) → agg_beneath d e ≡ Some a → greatest_taken a ≡ Some b → max_value (row_values d rows e) ≡ agg_value value ts b
      greatest_is e a b named h =
          max_same (row_values d rows e) (row_values d (map beneath_row gs) e) (rows_same e rows (map beneath_row gs) s.rows_are)
          ∙ ap max_value (values_parts e a named gs)
          ∙ greatest_parts (λ g. wanted_values value a g.1) a b h gs
          ∙ whole_is a gs rows ts s
          ∙ ap (agg_value value ts) (same_greatest a b h)

      -- **an aggregate over the rows of the view is the composed aggregate over the tuples**
      pub rolled_agg_is : (raw : RawAgg) (b : Agg) → composed_agg d raw ≡ Some b → rolled_agg d rows raw ≡ agg_value value ts b
      rolled_agg_is CountRows b h = cc
      rolled_agg_is (CountOf e) b h = cc
      rolled_agg_is (AvgOf e) b h = cc
      rolled_agg_is (SumOf e) b h = by (agg_beneath d e) refl h
        where
          by : (o : Option Agg) → agg_beneath d e ≡ o → option_and_then summed o ≡ Some b → sum_value (row_values d rows e) ≡ agg_value value ts b
          by None k h = cc
          by (Some a) k h = sum_is e a b k h
      rolled_agg_is (MinOf e) b h = by (agg_beneath d e) refl h
        where
          by : (o : Option Agg) → agg_beneath d e ≡ o → option_and_then least_taken o ≡ Some b → min_value (row_values d rows e) ≡ agg_value value ts b
          by None k h = cc
          by (Some a) k h = least_is e a b k h
      rolled_agg_is (MaxOf e) b h = by (agg_beneath d e) refl h
        where
          by : (o : Option Agg) → agg_beneath d e ≡ o → option_and_then greatest_taken o ≡ Some b → max_value (row_values d rows e) ≡ agg_value value ts b
          by None k h = cc
          by (Some a) k h = greatest_is e a b k h
