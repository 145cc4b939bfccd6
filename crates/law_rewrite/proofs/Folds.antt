-- Averages of the parts of a list: by their own parts, or by sums and counts.
use Rattle.std.proofs.Common.{◌≡◌, ◌∙◌, sym, ap, refl, arith, ℕ, ◌+◌, cond, List, [], ◌∷◌, length}
use Rattle.std.specs.Prelude.{ℤ, pos, ◌+ℤ◌}
use Rattle.std.proofs.Math.IntN.{+ℤ_idl}
use Rattle.std.proofs.lemmas.List.{length-append}
use Rattle.wh_base.proofs.Sorting.{SameCounts}
use Rattle.wh_base.specs.declared.values.Value.{Value}
use Rattle.def_meaning.specs.Meaning.{avg_value, count_value, not_null, sum_value, total_of}
use Rattle.def_meaning.proofs.Merging.{total-append}
use Rattle.def_rewriting.specs.Rollup.{sum_by_part, sum_part, count_part, ratio_value}
use Rattle.law_lists.proofs.Folds.{all_of, count_parts, each_of, fold_same, swap_sum, total_parts}

pub part_same : (f : Value → ℤ) (vs ws : List Value) → SameCounts vs ws → sum_by_part f vs ≡ sum_by_part f ws
part_same f vs ws h = fold_same (sum_by_part f) (λ v n. f v +ℤ n) (λ v us. refl) (λ v w n. swap_sum (f v) (f w) n) vs ws h

module _ {G : Type 0} (part : G → List Value) where
  pub average_sums : (gs : List G) → sum_by_part sum_part (each_of part avg_value gs) ≡ total_of (all_of part gs)
  average_sums [] = refl
  average_sums (g ∷ gs) = by (part g) (average_sums gs) ∙ sym (total-append (part g) (all_of part gs))
    where
      by : (vs : List Value) → sum_by_part sum_part (each_of part avg_value gs) ≡ total_of (all_of part gs)
          → sum_by_part sum_part (cond (not_null (avg_value vs)) (avg_value vs ∷ each_of part avg_value gs) (each_of part avg_value gs)) ≡ total_of vs +ℤ total_of (all_of part gs)
      by [] h = h ∙ sym (+ℤ_idl (total_of (all_of part gs)))
      by (v ∷ vs) h = ap (λ n. total_of (v ∷ vs) +ℤ n) h

  pub average_counts : (gs : List G) → sum_by_part count_part (each_of part avg_value gs) ≡ pos (length (all_of part gs))
  average_counts [] = refl
  average_counts (g ∷ gs) = by (part g) (average_counts gs) ∙ ap pos (sym (length-append (part g) (all_of part gs)))
    where
      by : (vs : List Value) → sum_by_part count_part (each_of part avg_value gs) ≡ pos (length (all_of part gs))
          → sum_by_part count_part (cond (not_null (avg_value vs)) (avg_value vs ∷ each_of part avg_value gs) (each_of part avg_value gs)) ≡ pos (length vs + length (all_of part gs))
      by [] h = h ∙ +ℤ_none (length (all_of part gs))
        where
          +ℤ_none : (n : ℕ) → pos n ≡ pos (0 + n)
          +ℤ_none n = let e : n ≡ 0 + n = omega arith in ap pos e
      by (v ∷ vs) h = ap (λ n. pos (length (v ∷ vs)) +ℤ n) h

  ratio_is : (vs : List Value) → ratio_value (total_of vs) (pos (length vs)) ≡ avg_value vs
  ratio_is [] = refl
  ratio_is (v ∷ vs) = refl

  pub average_parts : (gs : List G) → ratio_value (sum_by_part sum_part (each_of part avg_value gs)) (sum_by_part count_part (each_of part avg_value gs)) ≡ avg_value (all_of part gs)
  average_parts gs = (λ i. ratio_value (average_sums gs i) (average_counts gs i)) ∙ ratio_is (all_of part gs)

  pub quotient_parts : (gs : List G) → ratio_value (total_of (each_of part sum_value gs)) (total_of (each_of part count_value gs)) ≡ avg_value (all_of part gs)
  quotient_parts gs = (λ i. ratio_value (total_parts part gs i) (count_parts part gs i)) ∙ ratio_is (all_of part gs)
