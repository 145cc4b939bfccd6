-- Tokens that are laid out as a text are the tokens of the text.
use Rattle.std.proofs.Common.{◌≡◌, ℕ, ◌+◌, suc, List, [], ◌∷◌, ◌++◌, length, refl, ap, sym, ◌∙◌, append_assoc, arith, true, false, Bool, ◌&&◌, ◌||◌, cond, map, subst, Result, Ok, Err, ◌⊎◌, inl, inr}
use Rattle.std.proofs.lemmas.Bool.{and_parts}
use Rattle.std.proofs.Math.Bool.{and-false}
use Rattle.std.proofs.lemmas.Bool.Decides.{nat_tests}
use Rattle.std.proofs.lemmas.List.{length-append}
use Rattle.std.specs.Char.{is_ascii_digit}
use Rattle.std.specs.List.{list_all}
use Rattle.std.specs.Prelude.{codes, flat_map, nat_lt, not, ◌==◌}
use Rattle.wh_base.specs.Lists.{has_text, same_text}
use Rattle.wh_lex.specs.Lex.{after, tokens_from, tokens_of, with_front}
use Rattle.wh_lex.specs.Tokens.{front_of, is_name_byte, text_part}
use Rattle.wh_lex.specs.declared.front.Front.TheVariants as front
use Rattle.wh_lex.specs.declared.lex.LexFault.{LexFault}
use Rattle.wh_base.specs.declared.tokens.Token.{Token}
use Rattle.wh_base.specs.declared.tokens.TokenKind.{TokenKind}
use Rattle.wh_base.specs.declared.tokens.TokenKind.TheVariants as kinds
use Rattle.def_grammar.specs.Canonical.{is_call, is_closing, is_joined, is_negative, is_opening, laid, laid_behind, quoted_text, written_token}
use Rattle.def_grammar.specs.Reading.{doubled, is_token, same_token_kind}
use Rattle.def_grammar.specs.Written.{Each, IsSpelled, is_line, is_numeral, is_spelling}
use Rattle.wh_query_print.specs.Kept.{unplaced}
use Rattle.wh_query_print.proofs.Fronts.{begins, front-name, front-number, quoted-text}
use Rattle.wh_query_print.proofs.Marks.{front-mark, goes_on, open_marks, same-text}

-- the bytes that would go on a token, if they stood behind it
abbrev pub goes : TokenKind → List ℕ → ℕ → Bool
goes kinds.Name text b = is_name_byte b
goes kinds.Number text b = is_ascii_digit b
goes kinds.Text text b = b == 39
goes kinds.Mark text b = has_text open_marks text && goes_on b

abbrev pub written : TokenKind → List ℕ → List ℕ
written kind text = cond (same_token_kind kind kinds.Text) (quoted_text text) text

-- how the token is read at the front of a text
pub record Starts (kind : TokenKind) (text : List ℕ) : Type 0 where
  first : ℕ
  others : List ℕ
  is : written kind text ≡ first ∷ others
  read : (rest : List ℕ) → begins (goes kind text) rest ≡ false → front_of (first ∷ (others ++ rest)) ≡ front.Token kind text (length others)

front-quoted : (text rest : List ℕ) → is_line text ≡ true → begins (λ b. b == 39) rest ≡ false
    → front_of (39 ∷ ((flat_map doubled text ++ 39 ∷ []) ++ rest)) ≡ front.Token kinds.Text text (length (flat_map doubled text ++ 39 ∷ []))
unfolding front_of
front-quoted text rest line ends =
    let few : length (flat_map doubled text ++ 39 ∷ []) ≡ length (flat_map doubled text) + 1 = length-append (flat_map doubled text) (39 ∷ []) in
    rw (append_assoc (flat_map doubled text) (39 ∷ []) rest, few) (ap (λ t. text_part t) (quoted-text text rest line ends))

goes_on-open : (p : Bool) (rest : List ℕ) → begins (λ b. p && goes_on b) rest ≡ false → p ≡ true → begins goes_on rest ≡ false
goes_on-open true [] ends h = refl
goes_on-open true (b ∷ bs) ends h = ends
goes_on-open false rest ends h = cc

pub starts : (kind : TokenKind) (text : List ℕ) → is_spelling kind text ≡ true → Starts kind text
starts kinds.Name [] h = cc
starts kinds.Name (b ∷ bs) h = record { first = b; others = bs; is = refl; read = λ rest ends. front-name b bs rest h ends }
starts kinds.Number [] h = cc
starts kinds.Number (b ∷ bs) h = record { first = b; others = bs; is = refl; read = λ rest ends. front-number b bs rest h ends }
starts kinds.Text text h = record { first = 39; others = flat_map doubled text ++ 39 ∷ []; is = refl; read = λ rest ends. front-quoted text rest h ends }
starts kinds.Mark [] h = cc
starts kinds.Mark (b ∷ bs) h = record { first = b; others = bs; is = refl; read = λ rest ends. front-mark (b ∷ bs) h rest (goes_on-open (has_text open_marks (b ∷ bs)) rest ends) (length bs) refl }

past : (xs rest : List ℕ) (p : ℕ) → tokens_from (length xs) p (xs ++ rest) ≡ tokens_from 0 (p + length xs) rest
past [] rest p = ap (λ n. tokens_from 0 n rest) (omega arith)
past (x ∷ xs) rest p = past xs rest (suc p) ∙ ap (λ n. tokens_from 0 n rest) (omega arith)

-- these tokens, whatever their places are
abbrev pub AreTokens : Result (List Token) LexFault → List Token → Type 0
AreTokens (Ok ts) us = map unplaced ts ≡ map unplaced us
AreTokens (Err e) us = ⊥

one-more : (t u : Token) (us : List Token) (r : Result (List Token) LexFault) → unplaced t ≡ unplaced u → AreTokens r us → AreTokens (with_front (t ∷ []) r) (u ∷ us)
one-more t u us (Ok ts) same h = rw (same, h) refl
one-more t u us (Err e) same h = h

pub lex-one : (t : Token) (us : List Token) (rest : List ℕ) (place : ℕ) → Starts t.kind t.text → begins (goes t.kind t.text) rest ≡ false
    → ((p : ℕ) → AreTokens (tokens_from 0 p rest) us) → AreTokens (tokens_from 0 place (written_token t ++ rest)) (t ∷ us)
lex-one t us rest place s ends more =
    let P : Result (List Token) LexFault → Type 0 = λ r. AreTokens r (t ∷ us) in
    let n : ℕ = length s.others in
    let tok : Token = record { kind = t.kind; text = t.text; start = place; end = place + (n + 1) } in
    let behind : AreTokens (tokens_from n (suc place) (s.others ++ rest)) us = subst (λ r. AreTokens r us) (sym (past s.others rest (suc place))) (more (suc place + n)) in
    let read : tokens_from 0 place (s.first ∷ (s.others ++ rest)) ≡ with_front (tok ∷ []) (tokens_from n (suc place) (s.others ++ rest)) = ap (λ x. after x place (λ m. tokens_from m (suc place) (s.others ++ rest))) (s.read rest ends) in
    let bytes : written_token t ++ rest ≡ s.first ∷ (s.others ++ rest) = ap (λ w. w ++ rest) s.is in
    subst P (sym (ap (λ w. tokens_from 0 place w) bytes ∙ read)) (one-more tok t us (tokens_from n (suc place) (s.others ++ rest)) refl behind)

-- ---- no token goes on in the next

pub or-cases : (p q : Bool) → (p || q) ≡ true → (p ≡ true) ⊎ (q ≡ true)
or-cases true q h = inl refl
or-cases false q h = inr h

abbrev Stops : ℕ → Type 0
Stops b = (kind : TokenKind) (text : List ℕ) → goes kind text b ≡ false

stops-mark : (b : ℕ) → is_name_byte b ≡ false → is_ascii_digit b ≡ false → (b == 39) ≡ false → goes_on b ≡ false → Stops b
stops-mark b name digit quote on kinds.Name text = name
stops-mark b name digit quote on kinds.Number text = digit
stops-mark b name digit quote on kinds.Text text = quote
stops-mark b name digit quote on kinds.Mark text = rw on (and-false (has_text open_marks text))

kind-is : (k l : TokenKind) → same_token_kind k l ≡ true → k ≡ l
kind-is kinds.Name kinds.Name h = refl
kind-is kinds.Number kinds.Number h = refl
kind-is kinds.Text kinds.Text h = refl
kind-is kinds.Mark kinds.Mark h = refl
kind-is _ _ h = cc

token-kind : (k : TokenKind) (w : List ℕ) (t : Token) → is_token k w t ≡ true → t.kind ≡ k
token-kind k w t h = kind-is t.kind k (and_parts (same_token_kind t.kind k) (same_text t.text w) h).0

token-text : (k : TokenKind) (w : List ℕ) (t : Token) → is_token k w t ≡ true → t.text ≡ w
token-text k w t h = same-text t.text w (and_parts (same_token_kind t.kind k) (same_text t.text w) h).1

-- behind any token stands this mark
before-mark : (t u : Token) (b : ℕ) (more : List ℕ) → Stops b → is_token kinds.Mark (b ∷ []) u ≡ true → begins (goes t.kind t.text) (written_token u ++ more) ≡ false
before-mark t u b more stops h = rw (token-kind kinds.Mark (b ∷ []) u h, token-text kinds.Mark (b ∷ []) u h) (stops t.kind t.text)

-- anything stands behind this mark
behind-mark : (t : Token) (w : List ℕ) (bytes : List ℕ) → has_text open_marks w ≡ false → is_token kinds.Mark w t ≡ true → begins (goes t.kind t.text) bytes ≡ false
behind-mark t w [] closed h = refl
behind-mark t w (b ∷ bs) closed h = rw (token-kind kinds.Mark w t h, token-text kinds.Mark w t h, closed) refl

digit-stops : (b : ℕ) → is_ascii_digit b ≡ true → goes_on b ≡ false
digit-stops b h = grind (arith, nat_tests, h)

number-first : (text more : List ℕ) → is_numeral text ≡ true → begins (goes kinds.Mark (codes "-")) (text ++ more) ≡ false
number-first [] more h = cc
number-first (b ∷ bs) more h = digit-stops b (and_parts (is_ascii_digit b) (list_all is_ascii_digit bs) (and_parts (list_all is_ascii_digit (b ∷ bs)) (nat_lt (length bs) 38) h).0).0

number-behind : (t : Token) (kind : TokenKind) (text more : List ℕ) → is_spelling kind text ≡ true → kind ≡ kinds.Number → is_token kinds.Mark (codes "-") t ≡ true
    → begins (goes t.kind t.text) (written kind text ++ more) ≡ false
number-behind t kinds.Number text more h same minus = rw (token-kind kinds.Mark (codes "-") t minus, token-text kinds.Mark (codes "-") t minus) (number-first text more h)
number-behind t kinds.Name text more h same minus = let no : same_token_kind kinds.Name kinds.Number ≡ true = ap (λ k. same_token_kind k kinds.Number) same in cc
number-behind t kinds.Text text more h same minus = let no : same_token_kind kinds.Text kinds.Number ≡ true = ap (λ k. same_token_kind k kinds.Number) same in cc
number-behind t kinds.Mark text more h same minus = let no : same_token_kind kinds.Mark kinds.Number ≡ true = ap (λ k. same_token_kind k kinds.Number) same in cc

joined-opening : (t : Token) (bytes : List ℕ) → is_opening t ≡ true → begins (goes t.kind t.text) bytes ≡ false
joined-opening t bytes h =
    elim (or-cases (is_token kinds.Mark (codes "(") t) (is_token kinds.Mark (codes ".") t) h)
    [ inl e ↦ behind-mark t (codes "(") bytes refl e | inr e ↦ behind-mark t (codes ".") bytes refl e ]

joined-closing : (t u : Token) (more : List ℕ) → is_closing u ≡ true → begins (goes t.kind t.text) (written_token u ++ more) ≡ false
joined-closing t u more h =
    elim (or-cases (is_token kinds.Mark (codes ",") u || is_token kinds.Mark (codes ".") u) (is_token kinds.Mark (codes ")") u) h) [
      | inl e ↦ elim (or-cases (is_token kinds.Mark (codes ",") u) (is_token kinds.Mark (codes ".") u) e)
          [ inl f ↦ before-mark t u 44 more (stops-mark 44 refl refl refl refl) f | inr f ↦ before-mark t u 46 more (stops-mark 46 refl refl refl refl) f ]
      | inr e ↦ before-mark t u 41 more (stops-mark 41 refl refl refl refl) e
    ]

joined-call : (t u : Token) (more : List ℕ) → is_call t u ≡ true → begins (goes t.kind t.text) (written_token u ++ more) ≡ false
joined-call t u more h =
    let opens : is_token kinds.Mark (codes "(") u && same_token_kind t.kind kinds.Name ≡ true = (and_parts (is_token kinds.Mark (codes "(") u && same_token_kind t.kind kinds.Name) (not (is_token kinds.Name (codes "IN") t)) h).0 in
    before-mark t u 40 more (stops-mark 40 refl refl refl refl) (and_parts (is_token kinds.Mark (codes "(") u) (same_token_kind t.kind kinds.Name) opens).0

joined-negative : (t u : Token) (more : List ℕ) → IsSpelled u → is_negative t u ≡ true → begins (goes t.kind t.text) (written_token u ++ more) ≡ false
joined-negative t u more spelled h =
    number-behind t u.kind u.text more spelled (kind-is u.kind kinds.Number (and_parts (is_token kinds.Mark (codes "-") t) (same_token_kind u.kind kinds.Number) h).1) (and_parts (is_token kinds.Mark (codes "-") t) (same_token_kind u.kind kinds.Number) h).0

joined : (t u : Token) (more : List ℕ) → IsSpelled u → is_joined t u ≡ true → begins (goes t.kind t.text) (written_token u ++ more) ≡ false
joined t u more spelled h =
    elim (or-cases (is_opening t || is_closing u || is_call t u) (is_negative t u) h) [
      | inl e ↦ elim (or-cases (is_opening t || is_closing u) (is_call t u) e) [
        | inl f ↦ elim (or-cases (is_opening t) (is_closing u) f) [ inl g ↦ joined-opening t (written_token u ++ more) g | inr g ↦ joined-closing t u more g ]
        | inr f ↦ joined-call t u more f
      ]
      | inr e ↦ joined-negative t u more spelled e
    ]

pub stops-space : (kind : TokenKind) (text more : List ℕ) → begins (goes kind text) (32 ∷ more) ≡ false
stops-space kind text more = stops-mark 32 refl refl refl refl kind text

clear : (t u : Token) (more : List ℕ) (b : Bool) → is_joined t u ≡ b → IsSpelled u → begins (goes t.kind t.text) (cond b [] (32 ∷ []) ++ (written_token u ++ more)) ≡ false
clear t u more true e spelled = joined t u more spelled e
clear t u more false e spelled = stops-space t.kind t.text (written_token u ++ more)

blank : (rest : List ℕ) → front_of (32 ∷ rest) ≡ front.Blank 0
unfolding front_of
blank rest = refl

pub past-gap : (b : Bool) (rest : List ℕ) (us : List Token) → ((p : ℕ) → AreTokens (tokens_from 0 p rest) us) → (p : ℕ) → AreTokens (tokens_from 0 p (cond b [] (32 ∷ []) ++ rest)) us
past-gap true rest us more p = more p
past-gap false rest us more p =
    let read : tokens_from 0 p (32 ∷ rest) ≡ tokens_from 0 (suc p) rest = ap (λ x. after x p (λ m. tokens_from m (suc p) rest)) (blank rest) in
    subst (λ r. AreTokens r us) (sym read) (more (suc p))

lex-behind : (t : Token) (us : List Token) (place : ℕ) → IsSpelled t → Each IsSpelled us → AreTokens (tokens_from 0 place (written_token t ++ laid_behind t us)) (t ∷ us)
lex-behind t [] place spelled all = lex-one t [] [] place (starts t.kind t.text spelled) refl (λ p. refl)
lex-behind t (u ∷ us) place spelled all =
    lex-one t (u ∷ us) (laid_behind t (u ∷ us)) place (starts t.kind t.text spelled) (clear t u (laid_behind u us) (is_joined t u) refl all.0)
    (past-gap (is_joined t u) (written_token u ++ laid_behind u us) (u ∷ us) (λ p. lex-behind u us p all.0 all.1))

-- the tokens of a text that was made of tokens are those
pub laid-tokens : (ts : List Token) → Each IsSpelled ts → AreTokens (tokens_of (laid ts)) ts
unfolding tokens_of
laid-tokens [] all = refl
laid-tokens (t ∷ ts) all = lex-behind t ts 0 all.0 all.1
