-- Each token of a text has a text that a token may have.
use Rattle.std.proofs.Common.{◌≡◌, ℕ, ◌+◌, suc, zero, List, [], ◌∷◌, length, get_or, refl, ap, sym, arith, true, false, Bool, ◌&&◌, ◌||◌, map, take, subst, Result, Ok, Err, Option, Some, None, inl, inr}
use Rattle.std.proofs.lemmas.Bool.Decides.{nat_tests}
use Rattle.std.proofs.lemmas.List.{length-map}
use Rattle.std.proofs.lemmas.List.Sums.{take_while-cons}
use Rattle.std.specs.Char.{is_ascii_alphabetic, is_ascii_digit, to_ascii_uppercase}
use Rattle.std.specs.List.{list_all}
use Rattle.std.specs.Prelude.{if◌then◌else◌, nat_lt, take_while, ◌==◌}
use Rattle.wh_base.specs.Lists.{has_text}
use Rattle.wh_lex.specs.Lex.{after, tokens_from, tokens_of, with_front}
use Rattle.wh_lex.specs.Tokens.{front_of, is_name_byte, is_single, mark_part, name_part, number_part, part_of, text_more, text_of, text_part}
use Rattle.wh_lex.specs.declared.front.Front.{Front}
use Rattle.wh_lex.specs.declared.front.Front.TheVariants as front
use Rattle.wh_lex.specs.declared.front.Start.TheVariants as starts
use Rattle.wh_lex.specs.declared.lex.LexFault.{LexFault}
use Rattle.wh_base.specs.declared.tokens.Token.{Token}
use Rattle.wh_base.specs.declared.tokens.TokenKind.TheVariants as kinds
use Rattle.def_grammar.specs.Written.{Each, IsSpelled, is_folded, is_line, is_spelling, marks}
use Rattle.wh_query_print.proofs.Laid.{or-cases}

-- what stands at the front, where it is a token, has such a text
abbrev FrontSpelled : Front → Type 0
FrontSpelled (front.Blank more) = Unit {0}
FrontSpelled (front.Token kind text more) = is_spelling kind text ≡ true
FrontSpelled front.Bad = Unit {0}
FrontSpelled front.Open = Unit {0}

take-run : (p : ℕ → Bool) (bs : List ℕ) → take (length (take_while p bs)) bs ≡ take_while p bs
take-run p [] = refl
take-run p (b ∷ bs) = take-run-at p b bs (p b) refl (take-run p bs)
  where
    take-run-at : (p : ℕ → Bool) (b : ℕ) (bs : List ℕ) (q : Bool) → p b ≡ q → take (length (take_while p bs)) bs ≡ take_while p bs → take (length (take_while p (b ∷ bs))) (b ∷ bs) ≡ take_while p (b ∷ bs)
    take-run-at p b bs true e more = rw (take_while-cons p b bs, e) (ap (λ xs. b ∷ xs) more)
    take-run-at p b bs false e more = rw (take_while-cons p b bs, e) refl

upper-letter : (b : ℕ) → is_ascii_alphabetic b ≡ true → is_ascii_alphabetic (to_ascii_uppercase b) ≡ true
upper-letter b h = grind (arith, nat_tests, h)

upper-folded : (b : ℕ) → is_name_byte b ≡ true → is_folded (to_ascii_uppercase b) ≡ true
upper-folded b h = grind (arith, nat_tests, h)

letter-byte : (b : ℕ) → is_ascii_alphabetic b ≡ true → is_name_byte b ≡ true
letter-byte b h = grind (arith, nat_tests, h)

run-all : (p q : ℕ → Bool) (f : ℕ → ℕ) (bs : List ℕ) → ((b : ℕ) → p b ≡ true → q (f b) ≡ true) → list_all q (map f (take_while p bs)) ≡ true
run-all p q f [] h = refl
run-all p q f (b ∷ bs) h = run-all-at p q f b bs (p b) refl h (run-all p q f bs h)
  where
    run-all-at : (p q : ℕ → Bool) (f : ℕ → ℕ) (b : ℕ) (bs : List ℕ) (t : Bool) → p b ≡ t → ((c : ℕ) → p c ≡ true → q (f c) ≡ true) → list_all q (map f (take_while p bs)) ≡ true → list_all q (map f (take_while p (b ∷ bs))) ≡ true
    run-all-at p q f b bs true e h more = rw (take_while-cons p b bs, e, h b e, more) refl
    run-all-at p q f b bs false e h more = rw (take_while-cons p b bs, e) refl

map-same : (bs : List ℕ) → map (λ b. b) bs ≡ bs
map-same [] = refl
map-same (b ∷ bs) = ap (λ xs. b ∷ xs) (map-same bs)

one-more : (n : ℕ) → n + 1 ≡ suc n
one-more n = omega arith

spelled-name : (b : ℕ) (bs : List ℕ) → is_ascii_alphabetic b ≡ true → FrontSpelled (name_part (b ∷ bs))
spelled-name b bs letter = at (nat_lt (length (take_while is_name_byte bs)) 30) refl
  where
    at : (few : Bool) → nat_lt (length (take_while is_name_byte bs)) 30 ≡ few
        → FrontSpelled (if few then front.Token kinds.Name (map to_ascii_uppercase (take (length (take_while is_name_byte bs) + 1) (b ∷ bs))) (length (take_while is_name_byte bs)) else front.Bad)
    at true e =
        let whole : take (length (take_while is_name_byte bs) + 1) (b ∷ bs) ≡ b ∷ take_while is_name_byte bs = rw (one-more (length (take_while is_name_byte bs))) (ap (λ xs. b ∷ xs) (take-run is_name_byte bs)) in
        let first : is_folded (to_ascii_uppercase b) ≡ true = upper-folded b (letter-byte b letter) in
        let others : list_all is_folded (map to_ascii_uppercase (take_while is_name_byte bs)) ≡ true = run-all is_name_byte is_folded to_ascii_uppercase bs upper-folded in
        rw (whole, first, upper-letter b letter, others, length-map (take_while is_name_byte bs) to_ascii_uppercase) e
    at false e = tt

spelled-number : (b : ℕ) (bs : List ℕ) → is_ascii_digit b ≡ true → FrontSpelled (number_part (b ∷ bs))
spelled-number b bs digit = at (nat_lt (length (take_while is_ascii_digit bs)) 38) refl
  where
    at : (few : Bool) → nat_lt (length (take_while is_ascii_digit bs)) 38 ≡ few
        → FrontSpelled (if few then front.Token kinds.Number (take (length (take_while is_ascii_digit bs) + 1) (b ∷ bs)) (length (take_while is_ascii_digit bs)) else front.Bad)
    at true e =
        let whole : take (length (take_while is_ascii_digit bs) + 1) (b ∷ bs) ≡ b ∷ take_while is_ascii_digit bs = rw (one-more (length (take_while is_ascii_digit bs))) (ap (λ xs. b ∷ xs) (take-run is_ascii_digit bs)) in
        let others : list_all is_ascii_digit (map (λ c. c) (take_while is_ascii_digit bs)) ≡ true = run-all is_ascii_digit is_ascii_digit (λ c. c) bs (λ c h. h) in
        let all : list_all is_ascii_digit (take_while is_ascii_digit bs) ≡ true = subst (λ xs. list_all is_ascii_digit xs ≡ true) (map-same (take_while is_ascii_digit bs)) others in
        rw (whole, digit, all) e
    at false e = tt

abbrev IsLine : Option (List ℕ × ℕ) → Type 0
IsLine None = Unit {0}
IsLine (Some t) = is_line t.0 ≡ true

line-more : (b n : ℕ) (t : Option (List ℕ × ℕ)) → (b == 10) ≡ false → IsLine t → IsLine (text_more b n t)
line-more b n None e h = tt
line-more b n (Some t) e h = rw (e, h) refl

line-step : (b c : ℕ) (bs : List ℕ) (end quote twice : Bool) → (b == 10) ≡ end → IsLine (text_of bs) → IsLine (text_of (c ∷ bs))
    → IsLine (if end then None else (if quote then (if twice then text_more 39 2 (text_of bs) else Some ([], 1)) else text_more b 1 (text_of (c ∷ bs))))
line-step b c bs true quote twice e two one = tt
line-step b c bs false true true e two one = line-more 39 2 (text_of bs) refl two
line-step b c bs false true false e two one = refl
line-step b c bs false false twice e two one = line-more b 1 (text_of (c ∷ bs)) e one

line-last : (quote : Bool) → IsLine (if quote then Some ([], 1) else None)
line-last true = refl
line-last false = tt

text-line : (bs : List ℕ) → IsLine (text_of bs)
text-line [] = tt
text-line (b ∷ []) = line-last (b == 39)
text-line (b ∷ c ∷ bs) = line-step b c bs (b == 10) (b == 39) (c == 39) refl (text-line bs) (text-line (c ∷ bs))

spelled-text : (t : Option (List ℕ × ℕ)) → IsLine t → FrontSpelled (text_part t)
spelled-text None h = tt
spelled-text (Some t) h = h

-- ---- marks

same-number : (b n : ℕ) → (b == n) ≡ true → b ≡ n
same-number b n h = grind (arith, nat_tests, h)

single-mark : (b : ℕ) → is_single b ≡ true → has_text marks (b ∷ []) ≡ true
single-mark b h = elim (or-cases (b == 40 || b == 41 || b == 44 || b == 46 || b == 59 || b == 42 || b == 61 || b == 43 || b == 45) (b == 63) h) [ inl e10 ↦ elim (or-cases (b == 40 || b == 41 || b == 44 || b == 46 || b == 59 || b == 42 || b == 61 || b == 43) (b == 45) e10) [ inl e9 ↦ elim (or-cases (b == 40 || b == 41 || b == 44 || b == 46 || b == 59 || b == 42 || b == 61) (b == 43) e9) [ inl e8 ↦ elim (or-cases (b == 40 || b == 41 || b == 44 || b == 46 || b == 59 || b == 42) (b == 61) e8) [ inl e7 ↦ elim (or-cases (b == 40 || b == 41 || b == 44 || b == 46 || b == 59) (b == 42) e7) [ inl e6 ↦ elim (or-cases (b == 40 || b == 41 || b == 44 || b == 46) (b == 59) e6) [ inl e5 ↦ elim (or-cases (b == 40 || b == 41 || b == 44) (b == 46) e5) [ inl e4 ↦ elim (or-cases (b == 40 || b == 41) (b == 44) e4) [ inl e3 ↦ elim (or-cases (b == 40) (b == 41) e3) [ inl e2 ↦ subst (λ c. has_text marks (c ∷ []) ≡ true) (sym (same-number b 40 e2)) refl | inr e2 ↦ subst (λ c. has_text marks (c ∷ []) ≡ true) (sym (same-number b 41 e2)) refl ] | inr e3 ↦ subst (λ c. has_text marks (c ∷ []) ≡ true) (sym (same-number b 44 e3)) refl ] | inr e4 ↦ subst (λ c. has_text marks (c ∷ []) ≡ true) (sym (same-number b 46 e4)) refl ] | inr e5 ↦ subst (λ c. has_text marks (c ∷ []) ≡ true) (sym (same-number b 59 e5)) refl ] | inr e6 ↦ subst (λ c. has_text marks (c ∷ []) ≡ true) (sym (same-number b 42 e6)) refl ] | inr e7 ↦ subst (λ c. has_text marks (c ∷ []) ≡ true) (sym (same-number b 61 e7)) refl ] | inr e8 ↦ subst (λ c. has_text marks (c ∷ []) ≡ true) (sym (same-number b 43 e8)) refl ] | inr e9 ↦ subst (λ c. has_text marks (c ∷ []) ≡ true) (sym (same-number b 45 e9)) refl ] | inr e10 ↦ subst (λ c. has_text marks (c ∷ []) ≡ true) (sym (same-number b 63 e10)) refl ]

spelled-single : (b : ℕ) (bs : List ℕ) (single : Bool) → is_single b ≡ single → FrontSpelled (mark_part (if single then 1 else 0) (b ∷ bs))
spelled-single b bs true e = single-mark b e
spelled-single b bs false e = tt

spelled-mark : (b : ℕ) (bs : List ℕ) (less greater bang : Bool) → (b == 60) ≡ less → (b == 62) ≡ greater → (b == 33) ≡ bang
    → FrontSpelled (mark_part (if less then (if get_or bs 0 0 == 62 || get_or bs 0 0 == 61 then 2 else 1)
    else (if greater then (if get_or bs 0 0 == 61 then 2 else 1) else (if bang then (if get_or bs 0 0 == 61 then 2 else 0) else (if is_single b then 1 else 0)))) (b ∷ bs))
spelled-mark b [] true greater bang e f g = rw (same-number b 60 e) refl
spelled-mark b (c ∷ bs) true greater bang e f g = rw (same-number b 60 e) (less-more c bs (c == 62) (c == 61) refl refl)
  where
    less-more : (c : ℕ) (bs : List ℕ) (p q : Bool) → (c == 62) ≡ p → (c == 61) ≡ q → FrontSpelled (mark_part (if p || q then 2 else 1) (60 ∷ c ∷ bs))
    less-more c bs true q e f = rw (same-number c 62 e) refl
    less-more c bs false true e f = rw (same-number c 61 f) refl
    less-more c bs false false e f = refl
spelled-mark b [] false true bang e f g = rw (same-number b 62 f) refl
spelled-mark b (c ∷ bs) false true bang e f g = rw (same-number b 62 f) (greater-more c bs (c == 61) refl)
  where
    greater-more : (c : ℕ) (bs : List ℕ) (p : Bool) → (c == 61) ≡ p → FrontSpelled (mark_part (if p then 2 else 1) (62 ∷ c ∷ bs))
    greater-more c bs true e = rw (same-number c 61 e) refl
    greater-more c bs false e = refl
spelled-mark b [] false false true e f g = tt
spelled-mark b (c ∷ bs) false false true e f g = rw (same-number b 33 g) (bang-more c bs (c == 61) refl)
  where
    bang-more : (c : ℕ) (bs : List ℕ) (p : Bool) → (c == 61) ≡ p → FrontSpelled (mark_part (if p then 2 else 0) (33 ∷ c ∷ bs))
    bang-more c bs true e = rw (same-number c 61 e) refl
    bang-more c bs false e = tt
spelled-mark b bs false false false e f g = spelled-single b bs (is_single b) refl

-- ---- each token

front-by : (b : ℕ) (bs : List ℕ) (blank comment letter digit quote : Bool) → is_ascii_alphabetic b ≡ letter → is_ascii_digit b ≡ digit
    → FrontSpelled (part_of (if blank then starts.Blank else (if comment then starts.Comment else (if letter then starts.Name else (if digit then starts.Number else (if quote then starts.Quote else starts.Mark))))) (b ∷ bs))
front-by b bs true comment letter digit quote e f = tt
front-by b bs false true letter digit quote e f = tt
front-by b bs false false true digit quote e f = spelled-name b bs e
front-by b bs false false false true quote e f = spelled-number b bs f
front-by b bs false false false false true e f = spelled-text (text_of bs) (text-line bs)
front-by b bs false false false false false e f = spelled-mark b bs (b == 60) (b == 62) (b == 33) refl refl refl

front-spelled : (b : ℕ) (bs : List ℕ) → FrontSpelled (front_of (b ∷ bs))
unfolding front_of
front-spelled b bs = front-by b bs (b == 32 || b == 9 || b == 10 || (b == 13 && get_or bs 0 0 == 10)) (b == 45 && get_or bs 0 0 == 45) (is_ascii_alphabetic b) (is_ascii_digit b) (b == 39) refl refl

-- each of the tokens that were read
abbrev EachRead : Result (List Token) LexFault → Type 0
EachRead (Ok ts) = Each IsSpelled ts
EachRead (Err e) = Unit {0}

each-more : (t : Token) (r : Result (List Token) LexFault) → IsSpelled t → EachRead r → EachRead (with_front (t ∷ []) r)
each-more t (Ok ts) one more = (one, more)
each-more t (Err e) one more = tt

each-after : (x : Front) (place : ℕ) (rest : ℕ → Result (List Token) LexFault) → FrontSpelled x → ((n : ℕ) → EachRead (rest n)) → EachRead (after x place rest)
each-after (front.Blank more) place rest one others = others more
each-after (front.Token kind text more) place rest one others = each-more (record { kind = kind; text = text; start = place; end = place + (more + 1) }) (rest more) one (others more)
each-after front.Bad place rest one others = tt
each-after front.Open place rest one others = tt

each-from : (skip place : ℕ) (bytes : List ℕ) → EachRead (tokens_from skip place bytes)
each-from skip place [] = tt
each-from (suc skip) place (b ∷ bytes) = each-from skip (suc place) bytes
each-from zero place (b ∷ bytes) = each-after (front_of (b ∷ bytes)) place (λ more. tokens_from more (suc place) bytes) (front-spelled b bytes) (λ more. each-from more (suc place) bytes)

of-read : (r : Result (List Token) LexFault) (ts : List Token) → EachRead r → r ≡ Ok ts → Each IsSpelled ts
of-read r ts all e = subst EachRead e all

pub tokens-spelled : (text : List ℕ) (ts : List Token) → tokens_of text ≡ Ok ts → Each IsSpelled ts
unfolding tokens_of
tokens-spelled text ts e = of-read (tokens_from 0 0 text) ts (each-from 0 0 text) e
