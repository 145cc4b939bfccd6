-- That a loop over places finds what `position` does.
use Rattle.std.proofs.Common.{◌≡◌, ◌∙◌, ap, refl, arith, ℕ, zero, suc, ◌+◌, ◌<◌, Bool, true, false, List, [], ◌∷◌, ◌++◌, length, Some, None}
use Rattle.std.specs.Prelude.{position, nat_lt}
use Rattle.std.proofs.lemmas.Bool.Decides.{nat_tests}
use Rattle.std.specs.List.{position_or_len}
use Rattle.wh_base.specs.Lists.{count_from}

pub found_at : {A : Type 0} (p : A → Bool) (xs : List A) (n : ℕ) → position_or_len p xs ≡ n → n < length xs → Some n ≡ position p xs
found_at p xs n e h = let less : nat_lt (position_or_len p xs) (length xs) ≡ true = rw e (grind (arith, nat_tests)) in rw (less, e) refl

pub found_none : {A : Type 0} (p : A → Bool) (xs : List A) → position_or_len p xs ≡ length xs → None ≡ position p xs
found_none p xs e = let more : nat_lt (position_or_len p xs) (length xs) ≡ false = rw e (grind (arith, nat_tests)) in rw more refl

-- one place more
count_more : (k n : ℕ) → count_from k n ++ (k + n) ∷ [] ≡ count_from k (suc n)
count_more k zero = ap (λ m. m ∷ []) none_more
  where
    none_more : k + 0 ≡ k
    none_more = omega arith
count_more k (suc n) = ap (λ ns. k ∷ ns) (ap (λ m. count_from (suc k) n ++ m ∷ []) over ∙ count_more (suc k) n)
  where
    over : k + suc n ≡ suc k + n
    over = omega arith

pub count_push : (n : ℕ) (old new : List ℕ) → old ≡ count_from 0 n → new ≡ old ++ n ∷ [] → new ≡ count_from 0 (n + 1)
count_push n old new e pushed = pushed ∙ (λ i. e i ++ n ∷ []) ∙ ap (λ m. count_from 0 n ++ m ∷ []) none_less ∙ count_more 0 n ∙ ap (count_from 0) one_more
  where
    none_less : n ≡ 0 + n
    none_less = omega arith

    one_more : suc n ≡ n + 1
    one_more = omega arith

pub ruleset counting = (count_push)

pub ruleset places = (found_at, found_none)
