-- Values moved out of a row, column by column.
use Rattle.std.proofs.Common.{◌≡◌, ◌≢◌, ◌∙◌, ◌+◌, ◌<◌, sym, ap, refl, arith, ℕ, zero, suc, false, List, [], ◌∷◌, drop, get_or, length, map, nat_eq, append_assoc, ◌++◌}
use Rattle.std.proofs.lemmas.Bool.Decides.{nat_tests}
use Rattle.std.specs.Prelude.{slice_set}
use Rattle.std.specs.List.{AllByRecursion, IsDistinct}
use Rattle.wh_base.specs.Tables.{value_at}
use Rattle.wh_base.specs.declared.values.Value.{Value}

-- the value at another column stays
other_column : (vs : List Value) (c : ℕ) (w : Value) (k : ℕ) → c ≢ k → value_at (slice_set vs c w) k ≡ value_at vs k
other_column [] c w k h = refl
other_column (v ∷ vs) zero w zero h = absurd (h refl)
other_column (v ∷ vs) zero w (suc k) h = refl
other_column (v ∷ vs) (suc c) w zero h = refl
other_column (v ∷ vs) (suc c) w (suc k) h = other_column vs c w k (λ e. h (ap suc e))

differ_by : (c k : ℕ) → nat_eq c k ≡ false → c ≢ k
differ_by c k h = grind (arith, nat_tests)

untouched : (vs : List Value) (c : ℕ) (w : Value) (cs : List ℕ) → AllByRecursion (λ y. nat_eq c y ≡ false) cs → map (value_at (slice_set vs c w)) cs ≡ map (value_at vs) cs
untouched vs c w [] h = refl
untouched vs c w (k ∷ ks) h = λ i. other_column vs c w k (differ_by c k h.0) i ∷ untouched vs c w ks h.1 i

pick_at : (vs : List Value) (w : Value) (cs : List ℕ) (i : ℕ) → IsDistinct nat_eq cs → i < length cs
    → map (value_at vs) (drop i cs) ≡ value_at vs (get_or cs i 0) ∷ map (value_at (slice_set vs (get_or cs i 0) w)) (drop (suc i) cs)
unfolding IsDistinct
pick_at vs w [] i differ h = absurd (omega arith)
pick_at vs w (c ∷ cs) zero differ h = λ j. value_at vs c ∷ sym (untouched vs c w cs differ.0) j
pick_at vs w (c ∷ cs) (suc i) differ h = pick_at vs w cs i differ.1 (omega arith)

value_there : (vs : List Value) (c : ℕ) (v : Value) → c < length vs → v ≡ get_or vs c v → value_at vs c ≡ v
value_there [] c v h e = absurd (omega arith)
value_there (x ∷ xs) zero v h e = sym e
value_there (x ∷ xs) (suc c) v h e = value_there xs c v (omega arith) e

-- one value more
pub pick_step : (row vs : List Value) (cs : List ℕ) (i : ℕ) (picked more : List Value) (v w : Value)
    → IsDistinct nat_eq cs → i < length cs → get_or cs i 0 < length vs → v ≡ get_or vs (get_or cs i 0) v → more ≡ picked ++ v ∷ []
    → picked ++ map (value_at vs) (drop i cs) ≡ map (value_at row) cs
    → more ++ map (value_at (slice_set vs (get_or cs i 0) w)) (drop (i + 1) cs) ≡ map (value_at row) cs
pick_step row vs cs i picked more v w differ within there is pushed so_far =
    let rest : List Value = map (value_at (slice_set vs (get_or cs i 0) w)) (drop (i + 1) cs) in
    let next : suc i ≡ i + 1 = omega arith in
    let here : map (value_at vs) (drop i cs) ≡ v ∷ rest =
    pick_at vs w cs i differ within ∙ ap (λ x. x ∷ map (value_at (slice_set vs (get_or cs i 0) w)) (drop (suc i) cs)) (value_there vs (get_or cs i 0) v there is) ∙ ap (λ n. v ∷ map (value_at (slice_set vs (get_or cs i 0) w)) (drop n cs)) next in
    ap (λ xs. xs ++ rest) pushed ∙ append_assoc picked (v ∷ []) rest ∙ ap (λ xs. picked ++ xs) (sym here) ∙ so_far
