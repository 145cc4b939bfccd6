-- A number in decimal is a numeral that reads as the number, and the text of a day stands on one line.
use Rattle.std.proofs.Common.{◌≡◌, ℕ, ◌+◌, ◌-◌, ◌*◌, ◌/◌, ◌%◌, ◌^◌, ◌<◌, ◌≤◌, suc, zero, List, [], ◌∷◌, length, refl, ap, ◌∙◌, arith, Some, cond, true, false, Bool}
use Rattle.std.proofs.lemmas.Bool.{and_from}
use Rattle.std.proofs.lemmas.Bool.Decides.{nat_tests}
use Rattle.std.proofs.lemmas.List.Folds.{list_all-append}
use Rattle.std.proofs.Math.Nat.{pow-succ'}
use Rattle.std.specs.Char.{is_ascii_digit}
use Rattle.std.specs.Fmt.{decimal, digit_glyph, digits, digits_onto}
use Rattle.std.specs.List.{list_all}
use Rattle.std.specs.Prelude.{nat_le, nat_lt, not, ℤ, ◌++◌, ◌==◌}
use Rattle.wh_base.specs.Days.{Date, date_of, date_text, day_text, padded}
use Rattle.wh_base.specs.Values.{digits_number, digits_value}
use Rattle.def_grammar.specs.Written.{is_line, is_numeral}

glyph-is : (d : ℕ) → d < 10 → digit_glyph false d ≡ 48 + d
glyph-is d h = grind (arith, nat_tests)

reads-digit : (n d : ℕ) (acc : List ℕ) → d < 10 → digits_value n (digit_glyph false d ∷ acc) ≡ digits_value (n * 10 + d) acc
reads-digit n d acc h =
    let low : nat_le 48 (48 + d) ≡ true = grind (arith, nat_tests) in
    let high : nat_le (48 + d) 57 ≡ true = grind (arith, nat_tests) in
    let same : n * 10 + (48 + d - 48) ≡ n * 10 + d = omega arith in
    rw (glyph-is d h, low, high) (ap (λ m. digits_value m acc) same)

rest-small : (k n : ℕ) → n < 10 ^ suc k → n / 10 < 10 ^ k
rest-small k n h = let same : 10 ^ suc k ≡ 10 ^ k * 10 = pow-succ' 10 k ∙ (omega arith) in omega (arith, h, same)

onto-case : (k n : ℕ) (acc : List ℕ) (b : Bool) → (n / 10 == 0) ≡ b
    → ((acc' : List ℕ) → digits_value 0 (digits_onto k 10 false (n / 10) acc') ≡ digits_value (n / 10) acc')
    → digits_value 0 (cond b (digit_glyph false (n % 10) ∷ acc) (digits_onto k 10 false (n / 10) (digit_glyph false (n % 10) ∷ acc))) ≡ digits_value n acc
onto-case k n acc true e more =
    let none : n / 10 ≡ 0 = grind (arith, nat_tests, e) in
    let small : n % 10 < 10 = omega arith in
    let same : 0 * 10 + n % 10 ≡ n = omega (arith, none) in
    reads-digit 0 (n % 10) acc small ∙ ap (λ m. digits_value m acc) same
onto-case k n acc false e more =
    let small : n % 10 < 10 = omega arith in
    let same : n / 10 * 10 + n % 10 ≡ n = omega arith in
    more (digit_glyph false (n % 10) ∷ acc) ∙ (reads-digit (n / 10) (n % 10) acc small ∙ ap (λ m. digits_value m acc) same)

onto : (k n : ℕ) (acc : List ℕ) → n < 10 ^ k → digits_value 0 (digits_onto k 10 false n acc) ≡ digits_value n acc
onto zero n acc h = let none : 0 ≡ n = omega (arith, h) in ap (λ m. digits_value m acc) none
onto (suc k) n acc h = onto-case k n acc (n / 10 == 0) refl (λ acc'. onto k (n / 10) acc' (rest-small k n h))

-- one more digit leaves all digits
all-case : (k n : ℕ) (acc : List ℕ) (b : Bool) → list_all is_ascii_digit acc ≡ true
    → ((acc' : List ℕ) → list_all is_ascii_digit acc' ≡ true → list_all is_ascii_digit (digits_onto k 10 false (n / 10) acc') ≡ true)
    → list_all is_ascii_digit (cond b (digit_glyph false (n % 10) ∷ acc) (digits_onto k 10 false (n / 10) (digit_glyph false (n % 10) ∷ acc))) ≡ true
all-case k n acc b h more =
    let small : n % 10 < 10 = omega arith in
    let low : nat_le 48 (48 + n % 10) ≡ true = grind (arith, nat_tests) in
    let high : nat_le (48 + n % 10) 57 ≡ true = grind (arith, nat_tests) in
    let first : list_all is_ascii_digit (digit_glyph false (n % 10) ∷ acc) ≡ true = rw (glyph-is (n % 10) small, low, high, h) refl in
    elim b as (λ v. list_all is_ascii_digit (cond v (digit_glyph false (n % 10) ∷ acc) (digits_onto k 10 false (n / 10) (digit_glyph false (n % 10) ∷ acc))) ≡ true)
    [ true ↦ first | false ↦ more (digit_glyph false (n % 10) ∷ acc) first ]

all-digits : (k n : ℕ) (acc : List ℕ) → list_all is_ascii_digit acc ≡ true → list_all is_ascii_digit (digits_onto k 10 false n acc) ≡ true
all-digits zero n acc h = h
all-digits (suc k) n acc h = all-case k n acc (n / 10 == 0) h (λ acc' all. all-digits k (n / 10) acc' all)

-- how many digits there are
length-case : (j k n : ℕ) (acc : List ℕ) (b : Bool) → (n / 10 == 0) ≡ b → n < 10 ^ suc j
    → ((acc' : List ℕ) → n / 10 < 10 ^ j → b ≡ false → length (digits_onto k 10 false (n / 10) acc') ≤ j + length acc')
    → length (cond b (digit_glyph false (n % 10) ∷ acc) (digits_onto k 10 false (n / 10) (digit_glyph false (n % 10) ∷ acc))) ≤ suc j + length acc
length-case j k n acc true e h more = omega arith
length-case j k n acc false e h more = omega (arith, more (digit_glyph false (n % 10) ∷ acc) (rest-small j n h) refl)

length-onto : (j k n : ℕ) (acc : List ℕ) → n < 10 ^ suc j → length (digits_onto k 10 false n acc) ≤ suc j + length acc
length-onto j zero n acc h = omega arith
length-onto zero (suc k) n acc h = length-case zero k n acc (n / 10 == 0) refl h (λ acc' none e. let whole : n / 10 ≡ 0 = omega (arith, none) in absurd (grind (arith, nat_tests, e, whole)))
length-onto (suc j) (suc k) n acc h = length-case (suc j) k n acc (n / 10 == 0) refl h (λ acc' less e. length-onto j k (n / 10) acc' less)

some-case : (k n : ℕ) (acc : List ℕ) (b : Bool) → ((acc' : List ℕ) → length acc' ≤ length (digits_onto k 10 false (n / 10) acc'))
    → length acc < length (cond b (digit_glyph false (n % 10) ∷ acc) (digits_onto k 10 false (n / 10) (digit_glyph false (n % 10) ∷ acc)))
some-case k n acc true more = omega arith
some-case k n acc false more = omega (arith, more (digit_glyph false (n % 10) ∷ acc))

grows : (k n : ℕ) (acc : List ℕ) → length acc ≤ length (digits_onto k 10 false n acc)
grows zero n acc = omega arith
grows (suc k) n acc = let more : length acc < length (digits_onto (suc k) 10 false n acc) = some-case k n acc (n / 10 == 0) (λ acc'. grows k (n / 10) acc') in omega (arith, more)

numeral-from : (ds : List ℕ) → 0 < length ds → length ds ≤ 38 → list_all is_ascii_digit ds ≡ true → is_numeral ds ≡ true
numeral-from [] some few all = absurd (omega (arith, some))
numeral-from (b ∷ bs) some few all = let less : nat_lt (length bs) 38 ≡ true = grind (arith, nat_tests, few) in rw (all, less) refl

pub numeral-decimal : (n : ℕ) → n < 10 ^ 38 → is_numeral (decimal n) ≡ true
unfolding digits
numeral-decimal n h =
    let some : 0 < length (digits_onto 64 10 false n []) = some-case 63 n [] (n / 10 == 0) (λ acc'. grows 63 (n / 10) acc') in
    let few : length (digits_onto 64 10 false n []) ≤ 38 = omega (arith, length-onto 37 64 n [] h) in
    numeral-from (decimal n) some few (all-digits 64 n [] refl)

number-from : (ds : List ℕ) (m : ℕ) → 0 < length ds → digits_value 0 ds ≡ Some m → digits_number ds ≡ Some m
number-from [] m some e = absurd (omega (arith, some))
number-from (b ∷ bs) m some e = e

wide : (n : ℕ) → n < 10 ^ 38 → n < 10 ^ 64
wide n h = omega (arith, h)

pub number-decimal : (n : ℕ) → n < 10 ^ 38 → digits_number (decimal n) ≡ Some n
unfolding digits
number-decimal n h =
    let some : 0 < length (digits_onto 64 10 false n []) = some-case 63 n [] (n / 10 == 0) (λ acc'. grows 63 (n / 10) acc') in
    number-from (decimal n) n some (onto 64 n [] (wide n h))

-- ---- days

lines : (xs ys : List ℕ) → is_line xs ≡ true → is_line ys ≡ true → is_line (xs ++ ys) ≡ true
lines xs ys h k = list_all-append (λ b. not (b == 10)) xs ys ∙ and_from (is_line xs) (is_line ys) h k

digit-line : (n : ℕ) → is_line ((48 + n % 10) ∷ []) ≡ true
digit-line n = let kept : not (48 + n % 10 == 10) ≡ true = grind (arith, nat_tests) in rw kept refl

padded-line : (k n : ℕ) → is_line (padded k n) ≡ true
padded-line zero n = refl
padded-line (suc k) n = lines (padded k (n / 10)) ((48 + n % 10) ∷ []) (padded-line k (n / 10)) (digit-line n)

date-line : (d : Date) → is_line (date_text d) ≡ true
date-line d =
    lines (padded 4 d.year) (45 ∷ (padded 2 d.month ++ (45 ∷ padded 2 d.day))) (padded-line 4 d.year)
    (lines (padded 2 d.month) (45 ∷ padded 2 d.day) (padded-line 2 d.month) (padded-line 2 d.day))

pub day-line : (n : ℤ) → is_line (day_text n) ≡ true
day-line n = date-line (date_of n)
