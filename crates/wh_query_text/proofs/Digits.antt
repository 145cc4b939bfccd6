-- A digit more of a number.
use Rattle.std.proofs.Common.{◌≡◌, ℕ, ◌+◌, ◌-◌, ◌*◌, ◌<◌, ◌≤◌, ◌^◌, List, [], ◌∷◌, Bool, true, false, Option, Some, None, cond, refl, sym, subst, arith, ◌&&◌}
use Rattle.std.proofs.lemmas.Bool.Decides.{nat_tests}
use Rattle.std.specs.Prelude.{nat_le, nat_lt}
use Rattle.wh_base.specs.Lists.{option_case}
use Rattle.wh_base.specs.Values.{digits_value}

-- a number that is there and below 10 ^ 38
abbrev pub is_small : Option ℕ → Bool
is_small number = option_case number false (λ n. nat_lt n (10 ^ 38))

grows_by : (n d : ℕ) (m : ℕ) (digit : Bool) (read : Option ℕ) → (read ≡ Some m → n * 10 + (d - 48) ≤ m) → cond digit read None ≡ Some m → n ≤ m
grows_by n d m true read more e = omega (arith, more e)
grows_by n d m false read more e = cc

grows : (n : ℕ) (ds : List ℕ) (m : ℕ) → digits_value n ds ≡ Some m → n ≤ m
grows n [] m e = let same : n ≡ m = cc in omega (arith, same)
grows n (d ∷ ds) m e = grows_by n d m (nat_le 48 d && nat_le d 57) (digits_value (n * 10 + (d - 48)) ds) (grows (n * 10 + (d - 48)) ds m) e

small_from : (n : ℕ) (ds : List ℕ) (number : Option ℕ) → digits_value n ds ≡ number → is_small number ≡ true → n < 10 ^ 38
small_from n ds None e h = cc
small_from n ds (Some m) e h = let less : m < 10 ^ 38 = grind (arith, nat_tests, h) in omega (arith, grows n ds m e)

-- what is known of the next digit
pub record Digit (n d : ℕ) (ds : List ℕ) (number : Option ℕ) : Type 0 where
  pub low : 48 ≤ d
  pub rest : digits_value (n * 10 + (d - 48)) ds ≡ number
  pub small : n * 10 + (d - 48) < 10 ^ 38

digit_by : (n d : ℕ) (ds : List ℕ) (number : Option ℕ) (digit : Bool) → (nat_le 48 d && nat_le d 57) ≡ digit → cond digit (digits_value (n * 10 + (d - 48)) ds) None ≡ number → is_small number ≡ true → Digit n d ds number
digit_by n d ds number true t e h = record { low = grind (arith, nat_tests, t); rest = e; small = small_from (n * 10 + (d - 48)) ds number e h }
digit_by n d ds number false t e h = let none : is_small None ≡ true = subst (λ o. is_small o ≡ true) (sym e) h in cc

pub digit_known : (n d : ℕ) (ds : List ℕ) (number : Option ℕ) → digits_value n (d ∷ ds) ≡ number → is_small number ≡ true → Digit n d ds number
digit_known n d ds number e h = digit_by n d ds number (nat_le 48 d && nat_le d 57) refl e h
