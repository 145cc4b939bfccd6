-- That a loop over places finds what `position` does.
use Rattle.std.proofs.Common.{◌≡◌, refl, arith, ℕ, ◌<◌, Bool, true, false, List, length, Some, None}
use Rattle.std.specs.Prelude.{position, nat_lt}
use Rattle.std.proofs.lemmas.Bool.Decides.{nat_tests}
use Rattle.std.specs.List.{position_or_len}

pub found_at : {A : Type 0} (p : A → Bool) (xs : List A) (n : ℕ) → position_or_len p xs ≡ n → n < length xs → Some n ≡ position p xs
found_at p xs n e h = let less : nat_lt (position_or_len p xs) (length xs) ≡ true = rw e (grind (arith, nat_tests)) in rw (less, e) refl

pub found_none : {A : Type 0} (p : A → Bool) (xs : List A) → position_or_len p xs ≡ length xs → None ≡ position p xs
found_none p xs e = let more : nat_lt (position_or_len p xs) (length xs) ≡ false = rw e (grind (arith, nat_tests)) in rw more refl

pub ruleset places = (found_at, found_none)
