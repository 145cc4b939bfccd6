-- The day of a number of 128 bits.
use Rattle.std.proofs.Common.{◌≡◌, ◌∙◌, sym, ap, refl, arith, ◌<◌, ◌^◌, Bool, true, false, cond, Some, None}
use Rattle.std.proofs.lemmas.Int.{fits_signed_from_abs, ints}
use Rattle.std.specs.Int.{w64}
use Rattle.std.specs.Prelude.{FitsSigned, negsuc, pos, unsigned_abs, ℤ}
use Rattle.wh_base.specs.Days.{is_day}
use Rattle.wh_base.specs.Lists.{where_true}
use Rattle.wh_base.specs.Values.{day_value}
use Rattle.wh_base.specs.declared.values.Value.TheVariants.{Day, Num}

-- the number of a day has 64 bits
day_fits : (n : ℤ) → is_day n ≡ true → FitsSigned w64 n
day_fits n h = fits_signed_from_abs w64 n (by n h)
  where
    by : (n : ℤ) → is_day n ≡ true → unsigned_abs n < 2 ^ 63
    by (pos m) h = let low : m < 2932897 = grind (arith, ints) in omega (arith, low)
    by (negsuc m) h = let low : m < 719162 = grind (arith, ints) in omega (arith, low)

pub far_number : (n : ℤ) → (FitsSigned w64 n → ⊥) → Num n ≡ day_value n
far_number n far = by (is_day n) refl
  where
    by : (b : Bool) → is_day n ≡ b → Num n ≡ cond b (Day n) (Num n)
    by true e = absurd (far (day_fits n e))
    by false e = refl

pub number_of_day : (n m d : ℤ) → m ≡ n → Some d ≡ where_true (is_day m) m → Day d ≡ day_value n
number_of_day n m d e h = by (is_day m) h ∙ ap day_value e
  where
    by : (b : Bool) → Some d ≡ where_true b m → Day d ≡ cond b (Day m) (Num m)
    by true h = let same : d ≡ m = cc in ap Day same
    by false h = cc

pub number_of_none : (n m : ℤ) → m ≡ n → None ≡ where_true (is_day m) m → Num n ≡ day_value n
number_of_none n m e h = ap Num (sym e) ∙ by (is_day m) h ∙ ap day_value e
  where
    by : (b : Bool) → None ≡ where_true b m → Num m ≡ cond b (Day m) (Num m)
    by true h = cc
    by false h = refl

pub ruleset days = (far_number, number_of_day, number_of_none)
