-- The size of numbers.
use Rattle.std.proofs.Common.{◌≡◌, ℕ, ◌+◌, ◌*◌, ◌<◌, ◌≤◌, suc, zero, List, [], ◌∷◌, length, refl, ap, sym, ◌∙◌, arith, Option, Some, None, cond, true, false, Bool, Ok, subst, length-drop}
use Rattle.std.proofs.lemmas.Bool.{and_parts}
use Rattle.std.specs.Cmp.Derive.{both_true}
use Rattle.wh_lex.proofs.Spans.{tokens_of-spans}
use Rattle.std.proofs.Math.Nat.{mul-le-mul_right, pow-le-pow_right, pow-succ', mul_assoc}
use Rattle.std.proofs.lemmas.List.{length-take, length-take-le}
use Rattle.std.proofs.lemmas.List.Sums.{take_while-cons}
use Rattle.std.proofs.lemmas.Bool.Decides.{nat_tests}
use Rattle.std.specs.Prelude.{take, drop, take_while, nat_lt, ◌^◌, ◌-◌, slice_index}
use Rattle.std.specs.List.{list_all, prefix_len}
use Rattle.std.specs.Char.{is_ascii_digit}
use Rattle.wh_base.specs.Values.{digits_value}
use Rattle.wh_lex.specs.declared.front.Front.{Front}
use Rattle.wh_lex.specs.declared.front.Front.TheVariants as front
use Rattle.wh_lex.specs.declared.front.Start.{Start}
use Rattle.wh_lex.specs.declared.front.Start.TheVariants as starts
use Rattle.wh_base.specs.declared.tokens.Token.{Token}
use Rattle.wh_base.specs.declared.tokens.TokenKind.{TokenKind}
use Rattle.wh_base.specs.declared.tokens.TokenKind.TheVariants as kinds
use Rattle.wh_lex.specs.Tokens.{digits_len, front_of, mark_len, mark_part, number_part, part_of, run_part, start_of, text_of, text_part}
use Rattle.wh_lex.specs.Lex.{AreSpans, number_fits, token_fits, tokens_of}

-- the number that digits stand for, and how large it is at the most
record Worth (n : ℕ) (ds : List ℕ) : Type 0 where
  number : ℕ
  is : digits_value n ds ≡ Some number
  below : number < (n + 1) * 10 ^ length ds

larger : (n d k m : ℕ) → d ≤ 9 → m < (n * 10 + d + 1) * 10 ^ k → m < (n + 1) * 10 ^ suc k
larger n d k m h less =
    let room : n * 10 + d + 1 ≤ (n + 1) * 10 = omega arith in
    let more : (n * 10 + d + 1) * 10 ^ k ≤ (n + 1) * 10 * 10 ^ k = mul-le-mul_right (10 ^ k) room in
    let same : (n + 1) * 10 ^ suc k ≡ (n + 1) * 10 * 10 ^ k = ap (λ p. (n + 1) * p) (pow-succ' 10 k) ∙ sym (mul_assoc (n + 1) 10 (10 ^ k)) in
    rw same (omega (arith, less, more))

worth_more : (n b : ℕ) (bs : List ℕ) → b - 48 ≤ 9 → Worth (n * 10 + (b - 48)) bs → is_ascii_digit b ≡ true → Worth n (b ∷ bs)
worth_more n b bs small w digit = record { number = w.number; is = rw digit w.is; below = larger n (b - 48) (length bs) w.number small w.below }

worth : (n : ℕ) (ds : List ℕ) → list_all is_ascii_digit ds ≡ true → Worth n ds
worth n [] h = record { number = n; is = refl; below = omega arith }
worth n (b ∷ bs) h =
    let digit : is_ascii_digit b ≡ true = (and_parts (is_ascii_digit b) (list_all is_ascii_digit bs) h).0 in
    worth_more n b bs (grind (arith, nat_tests, digit)) (worth (n * 10 + (b - 48)) bs (and_parts (is_ascii_digit b) (list_all is_ascii_digit bs) h).1) digit

taken_first : (b : ℕ) (bytes : List ℕ) (first : Bool) → is_ascii_digit b ≡ first → list_all is_ascii_digit (take (digits_len bytes) bytes) ≡ true → list_all is_ascii_digit (take (length (cond (is_ascii_digit b) (b ∷ take_while is_ascii_digit bytes) [])) (b ∷ bytes)) ≡ true
taken_first b bytes true e h = rw e (both_true e h)
taken_first b bytes false e h = rw e refl

digits_taken : (bytes : List ℕ) → list_all is_ascii_digit (take (digits_len bytes) bytes) ≡ true
digits_taken [] = refl
digits_taken (b ∷ bytes) = rw (take_while-cons is_ascii_digit b bytes) (taken_first b bytes (is_ascii_digit b) refl (digits_taken bytes))

-- a number of a text is small enough
abbrev FrontFits : Front → Type 0
FrontFits (front.Blank more) = Unit {0}
FrontFits (front.Token kind text more) = number_fits kind text ≡ true
FrontFits front.Bad = Unit {0}
FrontFits front.Open = Unit {0}

small_number : (ds : List ℕ) (w : Worth 0 ds) → 0 < length ds → length ds ≤ 38 → number_fits kinds.Number ds ≡ true
small_number [] w some few = absurd (omega arith)
small_number (d ∷ ds) w some few =
    let most : 10 ^ length (d ∷ ds) ≤ 10 ^ 38 = pow-le-pow_right (omega arith) few in
    let less : w.number < 10 ^ 38 = omega (arith, w.below, most) in
    rw w.is (grind (arith, nat_tests, less))

number_run : (more : ℕ) (text : List ℕ) → length text ≡ more + 1 → list_all is_ascii_digit text ≡ true → FrontFits (run_part kinds.Number 38 more text)
number_run more text len digits = by_size (nat_lt more 38) refl
  where
    by_size : (small : Bool) → nat_lt more 38 ≡ small → FrontFits (cond small (front.Token kinds.Number text more) front.Bad)
    by_size true e = small_number text (worth 0 text digits) (omega arith) (let less : more < 38 = grind (arith, nat_tests, e) in omega arith)
    by_size false e = tt

number_front : (b : ℕ) (bytes : List ℕ) → is_ascii_digit b ≡ true → FrontFits (number_part (b ∷ bytes))
number_front b bytes digit =
    let one : digits_len bytes + 1 ≡ suc (digits_len bytes) = omega arith in
    number_run (digits_len bytes) (take (digits_len bytes + 1) (b ∷ bytes)) (omega (arith, taken_length)) (rw one (both_true digit (digits_taken bytes)))
  where
    taken_length : length (take (digits_len bytes + 1) (b ∷ bytes)) ≡ digits_len bytes + 1
    taken_length = let one : digits_len bytes + 1 ≡ suc (digits_len bytes) = omega arith in rw one (length-take-le (suc (digits_len bytes)) (b ∷ bytes) (omega (arith, length-take (prefix_len is_ascii_digit bytes) bytes)))

other_run : (kind : TokenKind) (most more : ℕ) (text : List ℕ) → number_fits kind text ≡ true → FrontFits (run_part kind most more text)
other_run kind most more text h = by_size (nat_lt more most)
  where
    by_size : (small : Bool) → FrontFits (cond small (front.Token kind text more) front.Bad)
    by_size true = h
    by_size false = tt

first_digit : (p q r s t : Bool) → cond p starts.Blank (cond q starts.Comment (cond r starts.Name (cond s starts.Number (cond t starts.Quote starts.Mark)))) ≡ starts.Number → s ≡ true
first_digit true q r s t e = cc
first_digit false true r s t e = cc
first_digit false false true s t e = cc
first_digit false false false true t e = refl
first_digit false false false false true e = cc
first_digit false false false false false e = cc

starts_number : (b next : ℕ) → start_of b next ≡ starts.Number → is_ascii_digit b ≡ true
starts_number b next e = first_digit _ _ _ _ _ e

mark_fits : (n : ℕ) (bytes : List ℕ) → FrontFits (mark_part n bytes)
mark_fits zero bytes = tt
mark_fits (suc more) bytes = refl

text_fits : (t : Option (List ℕ × ℕ)) → FrontFits (text_part t)
text_fits None = tt
text_fits (Some t) = refl

part_fits : (s : Start) (b : ℕ) (bytes : List ℕ) → (s ≡ starts.Number → is_ascii_digit b ≡ true) → FrontFits (part_of s (b ∷ bytes))
part_fits starts.Blank b bytes h = tt
part_fits starts.Comment b bytes h = tt
part_fits starts.Name b bytes h = other_run _ _ _ _ refl
part_fits starts.Number b bytes h = number_front b bytes (h refl)
part_fits starts.Quote b bytes h = text_fits (text_of bytes)
part_fits starts.Mark b bytes h = mark_fits (mark_len (slice_index (b ∷ bytes) 0) (slice_index (b ∷ bytes) 1)) (b ∷ bytes)

pub front_fits : (bytes : List ℕ) (kind : TokenKind) (text : List ℕ) (more : ℕ) → 0 < length bytes → front_of bytes ≡ front.Token kind text more → number_fits kind text ≡ true
unfolding front_of
front_fits [] kind text more h e = absurd (omega arith)
front_fits (b ∷ bytes) kind text more h e = subst FrontFits e (part_fits (start_of b (slice_index (b ∷ bytes) 1)) b bytes (starts_number b (slice_index (b ∷ bytes) 1)))

-- the numbers of tokens that stand in a text
spans_fit : (bytes : List ℕ) (low : ℕ) (ts : List Token) → AreSpans bytes low ts → list_all token_fits ts ≡ true
spans_fit bytes low [] h = refl
spans_fit bytes low (t ∷ ts) h =
    both_true (front_fits (drop t.start bytes) t.kind t.text _ (omega (arith, h.0.some, h.0.within, length-drop t.start bytes)) h.0.reads) (spans_fit bytes t.end ts h.1)

-- the numbers of the tokens of a text
pub tokens_of-fit : (bytes : List ℕ) (ts : List Token) → tokens_of bytes ≡ Ok ts → list_all token_fits ts ≡ true
tokens_of-fit bytes ts h = spans_fit bytes 0 ts (tokens_of-spans bytes ts h)

pub ruleset numbers = (tokens_of-fit)
