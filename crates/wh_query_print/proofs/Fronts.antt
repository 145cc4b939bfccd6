-- What stands at the front of a text that begins with a token as it is written.
use Rattle.std.proofs.Common.{◌≡◌, ℕ, ◌+◌, suc, List, [], ◌∷◌, ◌++◌, length, get_or, refl, ap, sym, ◌∙◌, append_assoc, arith, Some, cond, true, false, Bool, ◌&&◌, map}
use Rattle.std.proofs.lemmas.Bool.{and_parts}
use Rattle.std.proofs.Math.Seq.{take-append_seam}
use Rattle.std.proofs.lemmas.Bool.Decides.{nat_tests}
use Rattle.std.proofs.lemmas.List.{length-append}
use Rattle.std.proofs.lemmas.List.Sums.{take_while-cons}
use Rattle.std.specs.Char.{is_ascii_alphabetic, is_ascii_digit, to_ascii_uppercase}
use Rattle.std.specs.List.{list_all}
use Rattle.std.specs.Prelude.{flat_map, nat_lt, not, take_while, ◌==◌}
use Rattle.wh_lex.specs.Tokens.{front_of, is_name_byte, name_part, number_part, start_of, text_more, text_of}
use Rattle.wh_lex.specs.declared.front.Front.TheVariants as front
use Rattle.wh_lex.specs.declared.front.Start.TheVariants as starts
use Rattle.wh_base.specs.declared.tokens.TokenKind.TheVariants as kinds
use Rattle.def_grammar.specs.Reading.{doubled}
use Rattle.def_grammar.specs.Written.{is_folded, is_identifier, is_line, is_numeral}

-- the text begins with such a byte
abbrev pub begins : (ℕ → Bool) → List ℕ → Bool
begins p [] = false
begins p (b ∷ bs) = p b

run : (p : ℕ → Bool) (xs rest : List ℕ) → list_all p xs ≡ true → begins p rest ≡ false → take_while p (xs ++ rest) ≡ xs
run p [] [] all ends = refl
run p [] (b ∷ bs) all ends = rw (take_while-cons p b bs, ends) refl
run p (x ∷ xs) rest all ends = rw (take_while-cons p x (xs ++ rest), (and_parts (p x) (list_all p xs) all).0) (ap (λ ys. x ∷ ys) (run p xs rest (and_parts (p x) (list_all p xs) all).1 ends))

start-name : (b next : ℕ) → is_ascii_alphabetic b ≡ true → start_of b next ≡ starts.Name
start-name b next h = grind (arith, nat_tests, h)

start-number : (b next : ℕ) → is_ascii_digit b ≡ true → start_of b next ≡ starts.Number
start-number b next h = grind (arith, nat_tests, h)

folded-name : (bs : List ℕ) → list_all is_folded bs ≡ true → list_all is_name_byte bs ≡ true
folded-name [] h = refl
folded-name (b ∷ bs) h =
    let first : is_folded b ≡ true = (and_parts (is_folded b) (list_all is_folded bs) h).0 in
    rw ((and_parts (is_name_byte b) (to_ascii_uppercase b == b) first).0, folded-name bs (and_parts (is_folded b) (list_all is_folded bs) h).1) refl

folded-same : (bs : List ℕ) → list_all is_folded bs ≡ true → map to_ascii_uppercase bs ≡ bs
folded-same [] h = refl
folded-same (b ∷ bs) h =
    let first : is_folded b ≡ true = (and_parts (is_folded b) (list_all is_folded bs) h).0 in
    let same : (to_ascii_uppercase b == b) ≡ true = (and_parts (is_name_byte b) (to_ascii_uppercase b == b) first).1 in
    let upper : to_ascii_uppercase b ≡ b = grind (arith, nat_tests, same) in
    rw (upper, folded-same bs (and_parts (is_folded b) (list_all is_folded bs) h).1) refl

part-name : (b : ℕ) (bs rest : List ℕ) → list_all is_folded (b ∷ bs) ≡ true → nat_lt (length bs) 30 ≡ true → begins is_name_byte rest ≡ false
    → name_part (b ∷ (bs ++ rest)) ≡ front.Token kinds.Name (b ∷ bs) (length bs)
part-name b bs rest all few ends =
    let whole : take_while is_name_byte (bs ++ rest) ≡ bs = run is_name_byte bs rest (folded-name bs (and_parts (is_folded b) (list_all is_folded bs) all).1) ends in
    let more : length bs + 1 ≡ suc (length bs) = omega arith in
    rw (whole, few, more, take-append_seam bs rest) (ap (λ t. front.Token kinds.Name t (length bs)) (folded-same (b ∷ bs) all))

pub front-name : (b : ℕ) (bs rest : List ℕ) → is_identifier (b ∷ bs) ≡ true → begins is_name_byte rest ≡ false
    → front_of (b ∷ (bs ++ rest)) ≡ front.Token kinds.Name (b ∷ bs) (length bs)
unfolding front_of
front-name b bs rest h ends =
    let letter : is_ascii_alphabetic b ≡ true = (and_parts (is_ascii_alphabetic b) (list_all is_folded (b ∷ bs) && nat_lt (length bs) 30) h).0 in
    let others : (list_all is_folded (b ∷ bs) && nat_lt (length bs) 30) ≡ true = (and_parts (is_ascii_alphabetic b) (list_all is_folded (b ∷ bs) && nat_lt (length bs) 30) h).1 in
    rw (start-name b (get_or (b ∷ (bs ++ rest)) 1 0) letter) (part-name b bs rest (and_parts (list_all is_folded (b ∷ bs)) (nat_lt (length bs) 30) others).0 (and_parts (list_all is_folded (b ∷ bs)) (nat_lt (length bs) 30) others).1 ends)

part-number : (b : ℕ) (bs rest : List ℕ) → list_all is_ascii_digit bs ≡ true → nat_lt (length bs) 38 ≡ true → begins is_ascii_digit rest ≡ false
    → number_part (b ∷ (bs ++ rest)) ≡ front.Token kinds.Number (b ∷ bs) (length bs)
part-number b bs rest all few ends =
    let whole : take_while is_ascii_digit (bs ++ rest) ≡ bs = run is_ascii_digit bs rest all ends in
    let more : length bs + 1 ≡ suc (length bs) = omega arith in
    rw (whole, few, more, take-append_seam bs rest) refl

pub front-number : (b : ℕ) (bs rest : List ℕ) → is_numeral (b ∷ bs) ≡ true → begins is_ascii_digit rest ≡ false
    → front_of (b ∷ (bs ++ rest)) ≡ front.Token kinds.Number (b ∷ bs) (length bs)
unfolding front_of
front-number b bs rest h ends =
    let all : list_all is_ascii_digit (b ∷ bs) ≡ true = (and_parts (list_all is_ascii_digit (b ∷ bs)) (nat_lt (length bs) 38) h).0 in
    rw (start-number b (get_or (b ∷ (bs ++ rest)) 1 0) (and_parts (is_ascii_digit b) (list_all is_ascii_digit bs) all).0)
    (part-number b bs rest (and_parts (is_ascii_digit b) (list_all is_ascii_digit bs) all).1 (and_parts (list_all is_ascii_digit (b ∷ bs)) (nat_lt (length bs) 38) h).1 ends)

plain : (b : ℕ) (bs : List ℕ) → (b == 10) ≡ false → (b == 39) ≡ false → text_of (b ∷ bs) ≡ text_more b 1 (text_of bs)
plain b [] n q = rw q refl
plain b (c ∷ bs) n q = rw (n, q) refl

closed : (rest : List ℕ) → begins (λ b. b == 39) rest ≡ false → text_of (39 ∷ rest) ≡ Some ([], 1)
closed [] h = refl
closed (c ∷ bs) h = rw h refl

quoted-byte : (b : ℕ) (bs more : List ℕ) (n : ℕ) (q : Bool) → (b == 39) ≡ q → (b == 10) ≡ false → text_of more ≡ Some (bs, n)
    → text_of (cond q (39 ∷ 39 ∷ []) (b ∷ []) ++ more) ≡ Some (b ∷ bs, length (cond q (39 ∷ 39 ∷ []) (b ∷ [])) + n)
quoted-byte b bs more n true e line read = let same : b ≡ 39 = grind (arith, nat_tests, e) in rw (read, same) refl
quoted-byte b bs more n false e line read = plain b more line e ∙ rw read refl

line-byte : (b : ℕ) → not (b == 10) ≡ true → (b == 10) ≡ false
line-byte b h = grind (arith, nat_tests, h)

pub quoted-text : (text rest : List ℕ) → is_line text ≡ true → begins (λ b. b == 39) rest ≡ false
    → text_of (flat_map doubled text ++ 39 ∷ rest) ≡ Some (text, length (flat_map doubled text) + 1)
quoted-text [] rest line ends = closed rest ends
quoted-text (b ∷ bs) rest line ends =
    let one : not (b == 10) ≡ true = (and_parts (not (b == 10)) (is_line bs) line).0 in
    let more : text_of (flat_map doubled bs ++ 39 ∷ rest) ≡ Some (bs, length (flat_map doubled bs) + 1) = quoted-text bs rest (and_parts (not (b == 10)) (is_line bs) line).1 ends in
    let read : text_of (doubled b ++ (flat_map doubled bs ++ 39 ∷ rest)) ≡ Some (b ∷ bs, length (doubled b) + (length (flat_map doubled bs) + 1)) = quoted-byte b bs (flat_map doubled bs ++ 39 ∷ rest) (length (flat_map doubled bs) + 1) (b == 39) refl (line-byte b one) more in
    let bytes : length (doubled b) + (length (flat_map doubled bs) + 1) ≡ length (doubled b ++ flat_map doubled bs) + 1 = omega (arith, length-append (doubled b) (flat_map doubled bs)) in
    rw (append_assoc (doubled b) (flat_map doubled bs) (39 ∷ rest), sym bytes) read
