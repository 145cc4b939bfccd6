-- Session numbers and the one or two digits that they are.
use Rattle.std.proofs.Common.{◌≡◌, ℕ, ◌≤◌, ◌<◌, ◌+◌, suc, zero, List, Bool, true, false, Option, Some, None, refl, ap, sym, subst, ◌∙◌, arith}
use Rattle.std.proofs.lemmas.Bool.{and_parts}
use Rattle.std.proofs.lemmas.Slice.Eq.{bytes_eq-Decides}
use Rattle.std.proofs.lemmas.Bool.Decides.{nat_tests}
use Rattle.std.specs.Fmt.{digits}
use Rattle.std.specs.List.{list_all}
use Rattle.std.specs.Prelude.{◌==◌, ◌&&◌, decimal, nat_le, option_and_then}
use Rattle.def_grammar.specs.Script.{session_number}
use Rattle.wh_base.specs.Lists.{count_from, option_nat_is, same_text, where_true}
use Rattle.wh_base.specs.Values.{digits_number}
use Rattle.wh_script.specs.Sections.{is_session, session_by_digits, two_digits}

-- the decimal of a number reads as that number, both ways
abbrev pub reads_back : ℕ → Bool
reads_back n = (two_digits (decimal n) == n) && option_nat_is (session_number (decimal n)) n

all_read_back : list_all reads_back (count_from 1 64) ≡ true
unfolding digits
all_read_back = refl

-- what holds of the numbers from one on holds of each of them
among : (p : ℕ → Bool) (start k : ℕ) → list_all p (count_from start k) ≡ true → (n : ℕ) → start ≤ n → n < start + k → p n ≡ true
among p start zero h n low high = absurd (omega (arith, low, high))
among p start (suc k) h n low high = by_test (start == n) refl (among p (suc start) k (and_parts (p start) _ h).1 n)
  where
    by_test : (t : Bool) → (start == n) ≡ t → (suc start ≤ n → n < suc start + k → p n ≡ true) → p n ≡ true
    by_test true e more = let same : start ≡ n = grind (arith, nat_tests, e) in subst (λ m. p m ≡ true) same (and_parts (p start) _ h).0
    by_test false e more = let other : suc start ≤ n = grind (arith, nat_tests, e, low) in more other (omega (arith, high))

reads : (n : ℕ) → 1 ≤ n → n ≤ 64 → reads_back n ≡ true
reads n low high = among reads_back 1 64 all_read_back n low (omega (arith, high))

some_is : (o : Option ℕ) (n : ℕ) → option_nat_is o n ≡ true → o ≡ Some n
some_is None n h = cc
some_is (Some m) n h = let same : m ≡ n = grind (arith, nat_tests, h) in ap Some same

-- what a word that is this session number is
pub record IsSession (n : ℕ) (w : List ℕ) : Type 0 where
  pub digits : two_digits w ≡ n
  pub reads : session_number w ≡ Some n

is_session-means : (n : ℕ) (w : List ℕ) → is_session n w ≡ true → IsSession n w
is_session-means n w h =
    let bounds : (nat_le 1 n && nat_le n 64) ≡ true = (and_parts (nat_le 1 n && nat_le n 64) (same_text (decimal n) w) h).0 in
    let low_test : nat_le 1 n ≡ true = (and_parts (nat_le 1 n) (nat_le n 64) bounds).0 in
    let high_test : nat_le n 64 ≡ true = (and_parts (nat_le 1 n) (nat_le n 64) bounds).1 in
    let low : 1 ≤ n = grind (arith, nat_tests, low_test) in
    let high : n ≤ 64 = grind (arith, nat_tests, high_test) in
    let same : decimal n ≡ w = (bytes_eq-Decides (decimal n) w).0 (and_parts (nat_le 1 n && nat_le n 64) (same_text (decimal n) w) h).1 in
    let all : reads_back n ≡ true = reads n low high in
    let both : (two_digits (decimal n) == n) ≡ true = (and_parts (two_digits (decimal n) == n) (option_nat_is (session_number (decimal n)) n) all).0 in
    let digits : two_digits (decimal n) ≡ n = grind (arith, nat_tests, both) in
    subst (IsSession n) same (record { digits = digits; reads = some_is (session_number (decimal n)) n (and_parts (two_digits (decimal n) == n) _ all).1 })

where_some : (b : Bool) (n m : ℕ) → where_true b n ≡ Some m → (b ≡ true) × (n ≡ m)
where_some true n m h = (refl, search (h))
where_some false n m h = cc

number_is : (w : List ℕ) (o : Option ℕ) (m : ℕ) → option_and_then (λ n. where_true (is_session n w) n) o ≡ Some m → is_session m w ≡ true
number_is w None m h = cc
number_is w (Some n) m h = let both : (is_session n w ≡ true) × (n ≡ m) = where_some (is_session n w) n m h in subst (λ k. is_session k w ≡ true) both.1 both.0

-- the digits alone can be the number
pub session_number-digits : (w : List ℕ) → session_by_digits w ≡ session_number w
session_number-digits w = by_number (session_number w) refl
  where
    by_test : (t : Bool) → is_session (two_digits w) w ≡ t → session_number w ≡ None → where_true t (two_digits w) ≡ None
    by_test false e none = refl
    by_test true e none = let some : session_number w ≡ Some (two_digits w) = (is_session-means (two_digits w) w e).reads in cc

    by_number : (o : Option ℕ) → session_number w ≡ o → session_by_digits w ≡ session_number w
    by_number None e = by_test (is_session (two_digits w) w) refl e ∙ sym e
    by_number (Some m) e =
        let is : is_session m w ≡ true = number_is w (digits_number w) m e in
        let same : m ≡ two_digits w = sym (is_session-means m w is).digits in
        subst (λ n. where_true (is_session n w) n ≡ session_number w) same (ap (λ b. where_true b m) is ∙ sym e)

pub ruleset sessions = (session_number-digits)
