-- A word of more than six bytes is no number of sales, and a shorter one is read digit by digit.
use Rattle.std.proofs.Common.{◌≡◌, ◌∙◌, ◌<◌, ◌≤◌, ◌&&◌, ◌+◌, ◌-◌, ◌*◌, ◌^◌, ℕ, List, ◌∷◌, cond, Bool, Option, None, Some, true, false, length, refl, ap, sym, arith, zero, suc}
use Rattle.std.proofs.lemmas.Bool.{and_parts}
use Rattle.std.specs.Prelude.{nat_le, decimal, option_and_then}
use Rattle.std.proofs.lemmas.Bool.Decides.{nat_tests}
use Rattle.std.proofs.lemmas.Fmt.{length-decimal-le}
use Rattle.std.proofs.lemmas.Slice.Eq.{bytes_eq-Decides}
use Rattle.std.specs.Char.{is_ascii_digit}
use Rattle.wh_base.specs.Lists.{same_text, where_true}
use Rattle.wh_base.specs.Values.{digits_number, digits_value}
use Rattle.def_output.specs.Output.{gen_number}

abbrev pub is_sales : List ℕ → ℕ → Bool
is_sales w n = (nat_le 1 n && nat_le n 100000) && same_text (decimal n) w

pub range_of : (w : List ℕ) (n : ℕ) → is_sales w n ≡ true → n ≤ 100000
range_of w n e =
    let range : (nat_le 1 n && nat_le n 100000) ≡ true = (and_parts (nat_le 1 n && nat_le n 100000) (same_text (decimal n) w) e).0 in
    let most : nat_le n 100000 ≡ true = (and_parts (nat_le 1 n) (nat_le n 100000) range).1 in
    grind (arith, nat_tests, most)

pub same_of : (w : List ℕ) (n : ℕ) → is_sales w n ≡ true → decimal n ≡ w
same_of w n e = (bytes_eq-Decides (decimal n) w).0 (and_parts (nat_le 1 n && nat_le n 100000) (same_text (decimal n) w) e).1

-- a number of sales has at most six digits
few_digits : (w : List ℕ) (n : ℕ) → is_sales w n ≡ true → length w ≤ 6
few_digits w n e =
    let some : 0 < 6 = omega arith in
    let fits : n < 10 ^ 6 = omega (arith, range_of w n e) in
    let word : n < 2 ^ 64 = omega (arith, range_of w n e) in
    let few : length (decimal n) ≤ 6 = length-decimal-le 6 n some fits word in
    omega (arith, few, ap length (same_of w n e))

none_of : (w : List ℕ) (o : Option ℕ) → 6 < length w → None ≡ option_and_then (λ n. where_true (is_sales w n) n) o
none_of w None long = refl
none_of w (Some n) long = go (is_sales w n) refl
  where
    go : (b : Bool) → is_sales w n ≡ b → None ≡ where_true b n
    go false e = refl
    go true e = absurd (omega (arith, few_digits w n e, long))

pub long_word : (w : List ℕ) → 6 < length w → None ≡ gen_number w
long_word w long = none_of w (digits_number w) long

-- no digits, no number of sales
pub no_number : (w : List ℕ) → None ≡ digits_number w → None ≡ gen_number w
no_number w none = ap (option_and_then (λ n. where_true (is_sales w n) n)) none

-- the number that was read is that of the word where it is in range and is written so
pub read_number : (w : List ℕ) (n : ℕ) (b : Bool) → Some n ≡ digits_number w → is_sales w n ≡ b → where_true b n ≡ gen_number w
read_number w n b is stands = ap (λ c. where_true c n) (sym stands) ∙ ap (option_and_then (λ m. where_true (is_sales w m) m)) is

-- a byte that is no digit ends it
pub no_digit : (n d : ℕ) (ds : List ℕ) (r : Option ℕ) → digits_value n (d ∷ ds) ≡ r → is_ascii_digit d ≡ false → None ≡ r
no_digit n d ds r e t = sym (ap (λ b. cond b (digits_value (n * 10 + (d - 48)) ds) None) t) ∙ e

-- before the sixth digit the number is small
pub few_so_far : (k n : ℕ) → k < 6 → n < 10 ^ k → n < 100000
few_so_far zero n less few = omega (arith, few)
few_so_far (suc zero) n less few = omega (arith, few)
few_so_far (suc (suc zero)) n less few = omega (arith, few)
few_so_far (suc (suc (suc zero))) n less few = omega (arith, few)
few_so_far (suc (suc (suc (suc zero)))) n less few = omega (arith, few)
few_so_far (suc (suc (suc (suc (suc zero))))) n less few = omega (arith, few)
few_so_far (suc (suc (suc (suc (suc (suc k)))))) n less few = absurd (omega (arith, less))

pub ruleset sales = (long_word, no_number, read_number)
