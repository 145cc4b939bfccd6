-- A list of which the first rows pass a test, and no later one.
use Rattle.std.proofs.Common.{◌≡◌, ◌∙◌, ◌≤◌, ap, refl, arith, ℕ, zero, suc, Bool, true, false, cond, not, List, [], ◌∷◌, drop, leb, length, nat_lt, take}
use Rattle.std.proofs.lemmas.Bool.Decides.{nat_tests}
use Rattle.std.specs.List.{filter}
use Rattle.std.specs.List.Sorted.{IsPartitionPoint}
use Rattle.wh_base.specs.declared.logs.LogRow.{LogRow}
use Rattle.wh_log.specs.Log.{after, up_to}

opposite : (m n : ℕ) → not (leb n m) ≡ nat_lt m n
opposite m n = grind (arith, nat_tests)

module _ {A : Type 0} (p : A → Bool) where
  -- the first are those that pass, and the rest those that don't
  parted : (xs : List A) (i : ℕ) → i ≤ length xs → IsPartitionPoint (λ y. p y ≡ true) (λ y. p y ≡ false) xs i
      → (take i xs ≡ filter p xs) × (drop i xs ≡ filter (λ y. not (p y)) xs)
  parted [] zero within at = (refl, refl)
  parted [] (suc i) within at = absurd (omega arith)
  parted (x ∷ xs) zero within at =
      let rest : (take 0 xs ≡ filter p xs) × (drop 0 xs ≡ filter (λ y. not (p y)) xs) =
      parted xs zero (omega arith) ((λ k d low high. absurd (omega arith)), λ k d low high. at.1 (suc k) d (omega arith) (omega arith)) in
      by (p x) (at.1 0 x (omega arith) (omega arith)) rest
    where
      by : (b : Bool) → b ≡ false → (take 0 xs ≡ filter p xs) × (drop 0 xs ≡ filter (λ y. not (p y)) xs)
          → ([] ≡ cond b (x ∷ filter p xs) (filter p xs)) × (x ∷ xs ≡ cond (not b) (x ∷ filter (λ y. not (p y)) xs) (filter (λ y. not (p y)) xs))
      by true e rest = cc
      by false e rest = (rest.0, λ i. x ∷ rest.1 i)
  parted (x ∷ xs) (suc i) within at =
      by (p x) (at.0 0 x (omega arith) (omega arith))
      (parted xs i (omega arith) ((λ k d low high. at.0 (suc k) d (omega arith) (omega arith)), λ k d low high. at.1 (suc k) d (omega arith) (omega arith)))
    where
      by : (b : Bool) → b ≡ true → (take i xs ≡ filter p xs) × (drop i xs ≡ filter (λ y. not (p y)) xs)
          → (x ∷ take i xs ≡ cond b (x ∷ filter p xs) (filter p xs)) × (drop i xs ≡ cond (not b) (x ∷ filter (λ y. not (p y)) xs) (filter (λ y. not (p y)) xs))
      by true e rest = ((λ j. x ∷ rest.0 j), rest.1)
      by false e rest = cc

not_up_to : (scn : ℕ) (rows : List LogRow) → filter (λ r. not (leb r.scn scn)) rows ≡ after scn rows
not_up_to scn [] = refl
not_up_to scn (r ∷ rs) = by (not (leb r.scn scn)) (nat_lt scn r.scn) (opposite scn r.scn) (not_up_to scn rs)
  where
    by : (a b : Bool) → a ≡ b → filter (λ r. not (leb r.scn scn)) rs ≡ after scn rs → cond a (r ∷ filter (λ r. not (leb r.scn scn)) rs) (filter (λ r. not (leb r.scn scn)) rs) ≡ cond b (r ∷ after scn rs) (after scn rs)
    by a b e rest = ap (λ b. cond b (r ∷ filter (λ r. not (leb r.scn scn)) rs) (filter (λ r. not (leb r.scn scn)) rs)) e ∙ ap (λ l. cond b (r ∷ l) l) rest

-- where a search for an SCN ends
pub searched : (rows : List LogRow) (scn i : ℕ) → i ≤ length rows → IsPartitionPoint (λ r. leb r.scn scn ≡ true) (λ r. leb r.scn scn ≡ false) rows i
    → (take i rows ≡ up_to scn rows) × (drop i rows ≡ after scn rows)
searched rows scn i within at = let both = parted (λ r. leb r.scn scn) rows i within at in (both.0, both.1 ∙ not_up_to scn rows)
