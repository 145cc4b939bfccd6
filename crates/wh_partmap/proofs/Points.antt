-- Lists of which a first part passes a test, and the rest doesn't.
use Rattle.std.proofs.Common.{◌≡◌, ◌+◌, ◌<◌, ◌≤◌, ℕ, zero, suc, Bool, true, false, not, List, [], ◌∷◌, inl, inr, Some, None, reverse, ◌-◌, slice_get, length, take, drop, get_or, refl, arith, sym, ap, ◌∙◌, subst}
use Rattle.std.proofs.Math.Nat.{eq-or-lt_of_le}
use Rattle.std.proofs.lemmas.List.{get_or-reverse, get_or-take, length-reverse, length-take-le}
use Rattle.std.proofs.lemmas.List.Folds.{find_at}
use Rattle.std.proofs.lemmas.List.Sums.{position_or_len_is, prefix_len_is}
use Rattle.std.proofs.lemmas.Option.{slice_get-get_or, slice_get_past}
use Rattle.std.specs.List.{AllPairs, filter, find, position_or_len, prefix_len}
use Rattle.std.specs.List.Sorted.{IsPartitionedBy, IsPartitionPoint}

module _ {X : Type 0} (p : X → Bool) where
  pub parted : (R : X → X → Type 0) (xs : List X) → AllPairs R xs → ((x y : X) → R x y → p y ≡ true → p x ≡ true) → IsPartitionedBy p xs
  parted R xs pairs down i j d le l passes =
      elim (eq-or-lt_of_le le) as (λ _. p (get_or xs i d) ≡ true) [
        | inl same ↦ subst (λ n. p (get_or xs n d) ≡ true) (sym same) passes
        | inr less ↦ down (get_or xs i d) (get_or xs j d) (pairs i j d less l) passes
      ]

  pub prefix_from_point : (xs : List X) (n : ℕ) → n ≤ length xs → IsPartitionPoint (λ y. p y ≡ true) (λ y. p y ≡ false) xs n → prefix_len p xs ≡ n
  prefix_from_point [] n bound point = omega arith
  prefix_from_point (x ∷ xs) n bound point =
      prefix_len_is p (x ∷ xs) n x bound (λ k l. point.0 k x (omega arith) l) (λ l. point.1 n x (omega arith) l)

  -- what doesn't pass is what stands behind the prefix
  pub rest_from_point : (xs : List X) (n : ℕ) → IsPartitionPoint (λ y. p y ≡ true) (λ y. p y ≡ false) xs n → filter (λ y. not (p y)) xs ≡ drop n xs
  rest_from_point [] zero point = refl
  rest_from_point [] (suc n) point = refl
  rest_from_point (x ∷ xs) zero point =
      let head : p x ≡ false = point.1 0 x (omega arith) (omega arith) in
      let rest : filter (λ y. not (p y)) xs ≡ xs =
      rest_from_point xs zero ((λ k d h l. absurd (omega arith)), (λ k d h l. point.1 (suc k) d (omega arith) (omega arith))) in
      rw (head, rest) refl
  rest_from_point (x ∷ xs) (suc n) point =
      let head : p x ≡ true = point.0 0 x (omega arith) (omega arith) in
      rw head (rest_from_point xs n ((λ k d h l. point.0 (suc k) d (omega arith) (omega arith)), (λ k d h l. point.1 (suc k) d (omega arith) (omega arith))))

  -- the first from behind that passes is the last of the prefix
  pub last_from_point : (xs : List X) (n m : ℕ) → n ≤ length xs → IsPartitionPoint (λ y. p y ≡ true) (λ y. p y ≡ false) xs n → n ≡ m + 1 → find p (reverse xs) ≡ slice_get xs m
  last_from_point [] n m bound point e = absurd (omega arith)
  last_from_point (x ∷ xs) n m bound point e =
      let all = x ∷ xs in
      let same : length (reverse all) ≡ length all = length-reverse all in
      let i = length all - n in
      let fails : (k : ℕ) → k < i → p (get_or (reverse all) k x) ≡ false =
      λ k l. rw (get_or-reverse all k x (omega arith)) (point.1 (length all - 1 - k) x (omega arith) (omega arith)) in
      let passes : i < length (reverse all) → p (get_or (reverse all) i x) ≡ true =
      λ l. rw (get_or-reverse all i x (omega arith)) (point.0 (length all - 1 - i) x (omega arith) (omega arith)) in
      let place : position_or_len p (reverse all) ≡ i = position_or_len_is p (reverse all) i x (omega arith) fails passes in
      let there : length all - 1 - i ≡ m = omega arith in
      let item : get_or (reverse all) i x ≡ get_or all m x = get_or-reverse all i x (omega arith) ∙ ap (λ k. get_or all k x) there in
      find_at p (reverse all)
      ∙ ap (slice_get (reverse all)) place
      ∙ slice_get-get_or (reverse all) i x (omega arith)
      ∙ ap Some item
      ∙ sym (slice_get-get_or all m x (omega arith))

  pub none_from_point : (xs : List X) (n : ℕ) → IsPartitionPoint (λ y. p y ≡ true) (λ y. p y ≡ false) xs n → n ≡ 0 → find p (reverse xs) ≡ None
  none_from_point [] n point e = refl
  none_from_point (x ∷ xs) n point e =
      let all = x ∷ xs in
      let same : length (reverse all) ≡ length all = length-reverse all in
      let fails : (k : ℕ) → k < length (reverse all) → p (get_or (reverse all) k x) ≡ false =
      λ k l. rw (get_or-reverse all k x (omega arith)) (point.1 (length all - 1 - k) x (omega arith) (omega arith)) in
      let place : position_or_len p (reverse all) ≡ length (reverse all) = position_or_len_is p (reverse all) (length (reverse all)) x (omega arith) fails (λ l. absurd (omega arith)) in
      find_at p (reverse all) ∙ ap (slice_get (reverse all)) place ∙ slice_get_past (reverse all) (length (reverse all)) (omega arith)

  pub latest_from_point : (xs : List X) (n : ℕ) → n ≤ length xs → IsPartitionPoint (λ y. p y ≡ true) (λ y. p y ≡ false) xs n → find p (reverse xs) ≡ slice_get (take n xs) (length (take n xs) - 1)
  latest_from_point xs zero bound point = none_from_point xs zero point refl
  latest_from_point [] (suc m) bound point = absurd (omega arith)
  latest_from_point (x ∷ xs) (suc m) bound point =
      let all = x ∷ xs in
      let long : length (take (suc m) all) ≡ suc m = length-take-le (suc m) all bound in
      let place : length (take (suc m) all) - 1 ≡ m = omega arith in
      last_from_point all (suc m) m bound point (omega arith)
      ∙ slice_get-get_or all m x (omega arith)
      ∙ ap Some (sym (get_or-take (suc m) all m x (omega arith)))
      ∙ sym (slice_get-get_or (take (suc m) all) m x (omega arith))
      ∙ ap (slice_get (take (suc m) all)) (sym place)
