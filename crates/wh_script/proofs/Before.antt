-- The tokens of a text before its first fault.
use Rattle.std.proofs.Common.{◌≡◌, ℕ, ◌+◌, ◌-◌, ◌<◌, ◌≤◌, suc, zero, Bool, true, false, cond, List, [], ◌∷◌, ◌++◌, length, drop, take, refl, ap, ◌∙◌, sym, subst, arith, Option, Some, None, Result, Ok, Err, length-drop}
use Rattle.std.proofs.lemmas.Bool.{and_from, lt-ltb}
use Rattle.std.proofs.lemmas.Bool.Decides.{nat_tests}
use Rattle.std.proofs.lemmas.List.{drop-drop, length-take-le}
use Rattle.std.proofs.lemmas.Slice.Eq.{bytes_eq-Decides}
use Rattle.std.specs.Char.{to_ascii_uppercase}
use Rattle.std.specs.List.{list_all}
use Rattle.std.specs.Prelude.{◌==◌, bytes_eq, codes, map, nat_lt, not, option_to_list, slice_index}
use Rattle.def_grammar.specs.Script.{fault_place}
use Rattle.wh_lex.specs.Lex.{after, closed_by, ends_statement, in_statement, is_semicolon, statement_at, statement_from, token_at, tokens_from, with_front, with_tokens}
use Rattle.wh_lex.proofs.Spans.{front_within}
use Rattle.wh_lex.specs.Tokens as lexed
use Rattle.wh_lex.specs.Tokens.{digits_len, front_of, mark_len, mark_part, name_len, part_of, start_of, text_of, text_part}
use Rattle.wh_lex.specs.declared.front.Front.{Front}
use Rattle.wh_lex.specs.declared.front.Front.TheVariants as front
use Rattle.wh_lex.specs.declared.front.Start.{Start}
use Rattle.wh_lex.specs.declared.front.Start.TheVariants as starts
use Rattle.wh_lex.specs.declared.lex.LexFault.{LexFault}
use Rattle.wh_lex.specs.declared.lex.LexFault.TheVariants as faults
use Rattle.wh_lex.specs.declared.lex.StatementTokens.{StatementTokens}
use Rattle.wh_base.specs.declared.tokens.Token.{Token}
use Rattle.wh_base.specs.declared.tokens.TokenKind.{TokenKind}
use Rattle.wh_base.specs.declared.tokens.TokenKind.TheVariants as kinds
use Rattle.wh_script.proofs.Cuts.{IsCutBehind, front-cut}

-- what stands at a place, and then the tokens behind so many more bytes; none from a fault on
abbrev pub before_at : Front → ℕ → (ℕ → List Token) → List Token
before_at (front.Blank more) place rest = rest more
before_at (front.Token kind text more) place rest = token_at kind text place more ∷ rest more
before_at front.Bad place rest = []
before_at front.Open place rest = []

-- the tokens before the first fault, where the first bytes belong to what was read before
abbrev pub good_tokens : ℕ → ℕ → List ℕ → List Token
good_tokens skip place [] = []
good_tokens (suc skip) place (b ∷ bytes) = good_tokens skip (suc place) bytes
good_tokens zero place (b ∷ bytes) = before_at (front_of (b ∷ bytes)) place (λ more. good_tokens more (suc place) bytes)

front_fault : (some : List Token) (r : Result (List Token) LexFault) (e : LexFault) → with_front some r ≡ Err e → r ≡ Err e
front_fault some (Ok s) e h = cc
front_fault some (Err f) e h = h

-- ---- without a fault

all_at : (x : Front) (place : ℕ) (f : ℕ → Result (List Token) LexFault) (g : ℕ → List Token) (ts : List Token) → ((n : ℕ) (us : List Token) → f n ≡ Ok us → g n ≡ us) → after x place f ≡ Ok ts → before_at x place g ≡ ts
all_at (front.Blank more) place f g ts same h = same more ts h
all_at (front.Token kind text more) place f g ts same h = behind (f more) refl h
  where
    behind : (r : Result (List Token) LexFault) → f more ≡ r → with_front (token_at kind text place more ∷ []) r ≡ Ok ts → token_at kind text place more ∷ g more ≡ ts
    behind (Ok us) e k = let all : token_at kind text place more ∷ us ≡ ts = cc in rw (same more us e) all
    behind (Err f) e k = cc
all_at front.Bad place f g ts same h = cc
all_at front.Open place f g ts same h = cc

pub before-all : (skip place : ℕ) (bytes : List ℕ) (ts : List Token) → tokens_from skip place bytes ≡ Ok ts → good_tokens skip place bytes ≡ ts
before-all skip place [] ts h = cc
before-all (suc skip) place (b ∷ bytes) ts h = before-all skip (suc place) bytes ts h
before-all zero place (b ∷ bytes) ts h = all_at (front_of (b ∷ bytes)) place (λ more. tokens_from more (suc place) bytes) (λ more. good_tokens more (suc place) bytes) ts (λ n us e. before-all n (suc place) bytes us e) h

-- ---- the place of a fault

pub record IsBetween (low high : ℕ) (e : LexFault) : Type 0 where
  pub from : low ≤ fault_place e
  pub before : fault_place e < high

wider : (low high low2 high2 : ℕ) (e : LexFault) → low2 ≤ low → high ≤ high2 → IsBetween low high e → IsBetween low2 high2 e
wider low high low2 high2 e h k w = record { from = omega (arith, h, w.from); before = omega (arith, k, w.before) }

within_at : (x : Front) (place high : ℕ) (f : ℕ → Result (List Token) LexFault) (e : LexFault) → place < high → ((n : ℕ) → f n ≡ Err e → IsBetween (suc place + n) high e) → after x place f ≡ Err e → IsBetween place high e
within_at (front.Blank more) place high f e some same h = wider (suc place + more) high place high e (omega arith) (omega arith) (same more h)
within_at (front.Token kind text more) place high f e some same h = wider (suc place + more) high place high e (omega arith) (omega arith) (same more (front_fault (token_at kind text place more ∷ []) (f more) e h))
within_at front.Bad place high f e some same h = let is : faults.BadCharacter place ≡ e = cc in subst (IsBetween place high) is (record { from = omega arith; before = some })
within_at front.Open place high f e some same h = let is : faults.OpenQuote place ≡ e = cc in subst (IsBetween place high) is (record { from = omega arith; before = some })

within_from : (skip place : ℕ) (bytes : List ℕ) (e : LexFault) → tokens_from skip place bytes ≡ Err e → IsBetween (place + skip) (place + length bytes) e
within_from skip place [] e h = cc
within_from (suc skip) place (b ∷ bytes) e h = wider (suc place + skip) (suc place + length bytes) (place + suc skip) (place + length (b ∷ bytes)) e (omega arith) (omega arith) (within_from skip (suc place) bytes e h)
within_from zero place (b ∷ bytes) e h =
    wider place (place + length (b ∷ bytes)) (place + 0) (place + length (b ∷ bytes)) e (omega arith) (omega arith)
    (within_at (front_of (b ∷ bytes)) place (place + length (b ∷ bytes)) (λ more. tokens_from more (suc place) bytes) e (omega arith)
    (λ n k. wider (suc place + n) (suc place + length bytes) (suc place + n) (place + length (b ∷ bytes)) e (omega arith) (omega arith) (within_from n (suc place) bytes e k)) h)

-- ---- cut off at the fault

-- a CR at the front is white space before an LF, and a fault before anything else
cr_front : (c : ℕ) (bs : List ℕ) → (c == 10) ≡ false → front_of (13 ∷ c ∷ bs) ≡ front.Bad
unfolding front_of
cr_front c bs h = rw h refl

cr_alone : front_of (13 ∷ []) ≡ front.Bad
unfolding front_of
cr_alone = refl

cr_lf : (bs : List ℕ) → front_of (13 ∷ 10 ∷ bs) ≡ front.Blank 0
unfolding front_of
cr_lf bs = refl

lf_front : (bs : List ℕ) → front_of (10 ∷ bs) ≡ front.Blank 0
unfolding front_of
lf_front [] = refl
lf_front (c ∷ bs) = refl

cr_far : (place : ℕ) (bytes : List ℕ) (e : LexFault) (n : ℕ) → IsCutBehind (front_of (13 ∷ bytes)) n → after (front_of (13 ∷ bytes)) place (λ more. tokens_from more (suc place) bytes) ≡ Err e → place + 2 ≤ fault_place e
cr_far place [] e n some h = absurd (subst (λ x. IsCutBehind x n) cr_alone some)
cr_far place (c ∷ bs) e n some h = by_test (c == 10) refl
  where
    by_test : (t : Bool) → (c == 10) ≡ t → place + 2 ≤ fault_place e
    by_test false k = absurd (subst (λ x. IsCutBehind x n) (cr_front c bs k) some)
    by_test true k =
        let lf : c ≡ 10 = grind (arith, nat_tests, k) in
        let here : after (front_of (13 ∷ 10 ∷ bs)) place (λ more. tokens_from more (suc place) (10 ∷ bs)) ≡ Err e = subst (λ d. after (front_of (13 ∷ d ∷ bs)) place (λ more. tokens_from more (suc place) (d ∷ bs)) ≡ Err e) lf h in
        let one : tokens_from 0 (suc place) (10 ∷ bs) ≡ Err e = subst (λ x. after x place (λ more. tokens_from more (suc place) (10 ∷ bs)) ≡ Err e) (cr_lf bs) here in
        let two : tokens_from 0 (suc (suc place)) bs ≡ Err e = subst (λ x. after x (suc place) (λ more. tokens_from more (suc (suc place)) bs) ≡ Err e) (lf_front bs) one in
        omega (arith, (within_from 0 (suc (suc place)) bs e two).from)

cr_fits : (b place : ℕ) (bytes : List ℕ) (x : Front) (e : LexFault) (n : ℕ) → front_of (b ∷ bytes) ≡ x → IsCutBehind x n → after x place (λ more. tokens_from more (suc place) bytes) ≡ Err e → place + n ≡ fault_place e → b ≡ 13 → 2 ≤ n
cr_fits b place bytes x e n is some h at cr =
    let far : (d : ℕ) → b ≡ d → d ≡ 13 → place + 2 ≤ fault_place e = λ d same k.
    let front : front_of (13 ∷ bytes) ≡ x = subst (λ c. front_of (c ∷ bytes) ≡ x) cr is in
    cr_far place bytes e n (subst (λ y. IsCutBehind y n) (sym front) some) (subst (λ y. after y place (λ more. tokens_from more (suc place) bytes) ≡ Err e) (sym front) h) in
    omega (arith, at, far b refl cr)

-- the front of a text that is cut off at its fault
front_there : (b place m : ℕ) (bytes : List ℕ) (x : Front) (e : LexFault) → front_of (b ∷ bytes) ≡ x → IsCutBehind x (suc m) → after x place (λ more. tokens_from more (suc place) bytes) ≡ Err e → place + suc m ≡ fault_place e → front_of (b ∷ take m bytes) ≡ x
front_there b place m bytes x e is some h at = front-cut (b ∷ bytes) (suc m) (cr_fits b place bytes x e (suc m) is some h at) (subst (λ y. IsCutBehind y (suc m)) (sym is) some) ∙ is

module _ (b place : ℕ) (bytes : List ℕ) (e : LexFault) (later : (n m : ℕ) → tokens_from n (suc place) bytes ≡ Err e → suc place + m ≡ fault_place e → tokens_from n (suc place) (take m bytes) ≡ Ok (good_tokens n (suc place) bytes)) where
  cut_at : (x : Front) (n : ℕ) → front_of (b ∷ bytes) ≡ x → after x place (λ more. tokens_from more (suc place) bytes) ≡ Err e → place + n ≡ fault_place e → tokens_from 0 place (take n (b ∷ bytes)) ≡ Ok (before_at x place (λ more. good_tokens more (suc place) bytes))
  cut_at (front.Blank more) zero is h at = absurd (omega (arith, at, (within_from more (suc place) bytes e h).from))
  cut_at (front.Blank more) (suc m) is h at =
      let fits : more < suc m = omega (arith, at, (within_from more (suc place) bytes e h).from) in
      rw (front_there b place m bytes (front.Blank more) e is fits h at) (later more m h (omega (arith, at)))
  cut_at (front.Token kind text more) zero is h at = absurd (omega (arith, at, (within_from more (suc place) bytes e (front_fault (token_at kind text place more ∷ []) _ e h)).from))
  cut_at (front.Token kind text more) (suc m) is h at =
      let inner : tokens_from more (suc place) bytes ≡ Err e = front_fault (token_at kind text place more ∷ []) _ e h in
      let fits : more < suc m = omega (arith, at, (within_from more (suc place) bytes e inner).from) in
      rw (front_there b place m bytes (front.Token kind text more) e is fits h at) (ap (with_front (token_at kind text place more ∷ [])) (later more m inner (omega (arith, at))))
  cut_at front.Bad n is h at =
      let same : faults.BadCharacter place ≡ e = cc in
      let none : n ≡ 0 = omega (arith, at, ap fault_place same) in
      rw none refl
  cut_at front.Open n is h at =
      let same : faults.OpenQuote place ≡ e = cc in
      let none : n ≡ 0 = omega (arith, at, ap fault_place same) in
      rw none refl

cut_from : (skip place n : ℕ) (bytes : List ℕ) (e : LexFault) → tokens_from skip place bytes ≡ Err e → place + n ≡ fault_place e → tokens_from skip place (take n bytes) ≡ Ok (good_tokens skip place bytes)
cut_from skip place n [] e h at = cc
cut_from (suc skip) place zero (b ∷ bytes) e h at = absurd (omega (arith, at, (within_from skip (suc place) bytes e h).from))
cut_from (suc skip) place (suc n) (b ∷ bytes) e h at = cut_from skip (suc place) n bytes e h (omega (arith, at))
cut_from zero place n (b ∷ bytes) e h at = cut_at b place bytes e (λ k m f a. cut_from k (suc place) m bytes e f a) (front_of (b ∷ bytes)) n refl h at

-- the tokens before a fault are those of the text that is cut off there
pub before-cut : (place : ℕ) (bytes : List ℕ) (e : LexFault) → tokens_from 0 place bytes ≡ Err e → tokens_from 0 place (take (fault_place e - place) bytes) ≡ Ok (good_tokens 0 place bytes)
before-cut place bytes e h = cut_from 0 place (fault_place e - place) bytes e h (omega (arith, (within_from 0 place bytes e h).from))

-- ---- a statement

-- bytes that belong to what was read before are passed over
before-skip : (n place : ℕ) (bytes : List ℕ) → good_tokens n place bytes ≡ good_tokens 0 (place + n) (drop n bytes)
before-skip zero place [] = refl
before-skip (suc n) place [] = refl
before-skip zero place (b ∷ bytes) = ap (λ p. good_tokens 0 p (b ∷ bytes)) (omega arith)
before-skip (suc n) place (b ∷ bytes) = before-skip n (suc place) bytes ∙ ap (λ p. good_tokens 0 p (drop n bytes)) (omega arith)

-- a statement's tokens, and those behind it so many bytes on
pub record IsFront (bytes : List ℕ) (place : ℕ) (all : List Token) (s : StatementTokens) : Type 0 where
  pub later : place ≤ s.next
  pub rest : all ≡ (s.tokens ++ option_to_list s.closed) ++ good_tokens 0 s.next (drop (s.next - place) bytes)

front_later : (b place : ℕ) (bytes : List ℕ) (all : List Token) (s : StatementTokens) → IsFront bytes (suc place) all s → IsFront (b ∷ bytes) place all s
front_later b place bytes all s f =
    let one : s.next - place ≡ suc (s.next - suc place) = omega (arith, f.later) in
    record { later = omega (arith, f.later); rest = rw one f.rest }

befores_end : (place n : ℕ) → good_tokens 0 place (drop n []) ≡ []
befores_end place zero = refl
befores_end place (suc n) = refl

module _ (b place : ℕ) (bytes : List ℕ) (later : (n : ℕ) (u : StatementTokens) → statement_from n (suc place) bytes ≡ Ok u → IsFront bytes (suc place) (good_tokens n (suc place) bytes) u) where
  behind_token : (t : Token) (more : ℕ) → good_tokens more (suc place) bytes ≡ good_tokens 0 (place + (more + 1)) (drop (place + (more + 1) - place) (b ∷ bytes))
  behind_token t more =
      let p : suc place + more ≡ place + (more + 1) = omega arith in
      let q : place + (more + 1) - place ≡ suc more = omega arith in
      rw q (before-skip more (suc place) bytes ∙ ap (λ n. good_tokens 0 n (drop more bytes)) p)

  at_token : (t : Token) (more : ℕ) (r : Result StatementTokens LexFault) (s : StatementTokens) → statement_from more (suc place) bytes ≡ r → with_tokens (t ∷ []) r ≡ Ok s → IsFront (b ∷ bytes) place (t ∷ good_tokens more (suc place) bytes) s
  at_token t more (Ok u) s e k =
      let front : IsFront (b ∷ bytes) place (good_tokens more (suc place) bytes) u = front_later b place bytes _ u (later more u e) in
      let same : record { tokens = t ∷ u.tokens; closed = u.closed; next = u.next } ≡ s = cc in
      subst (IsFront (b ∷ bytes) place (t ∷ good_tokens more (suc place) bytes)) same (record { later = front.later; rest = ap (λ us. t ∷ us) front.rest })
  at_token t more (Err g) s e k = cc

  at_either : (closes : Bool) (kind : TokenKind) (text : List ℕ) (more : ℕ) (s : StatementTokens) → cond closes (closed_by (token_at kind text place more)) (with_tokens (token_at kind text place more ∷ []) (statement_from more (suc place) bytes)) ≡ Ok s → IsFront (b ∷ bytes) place (token_at kind text place more ∷ good_tokens more (suc place) bytes) s
  at_either true kind text more s e =
      let same : record { tokens = []; closed = Some (token_at kind text place more); next = place + (more + 1) } ≡ s = cc in
      subst (IsFront (b ∷ bytes) place (token_at kind text place more ∷ good_tokens more (suc place) bytes)) same
      (record { later = omega arith; rest = ap (λ us. token_at kind text place more ∷ us) (behind_token (token_at kind text place more) more) })
  at_either false kind text more s e = at_token (token_at kind text place more) more (statement_from more (suc place) bytes) s refl e

  front_at : (x : Front) (s : StatementTokens) → in_statement x place (λ more. statement_from more (suc place) bytes) ≡ Ok s → IsFront (b ∷ bytes) place (before_at x place (λ more. good_tokens more (suc place) bytes)) s
  front_at (front.Blank more) s k = front_later b place bytes _ s (later more s k)
  front_at (front.Token kind text more) s k = at_either (is_semicolon kind text) kind text more s k
  front_at front.Bad s k = cc
  front_at front.Open s k = cc

statement_front : (skip place : ℕ) (bytes : List ℕ) (s : StatementTokens) → statement_from skip place bytes ≡ Ok s → IsFront bytes place (good_tokens skip place bytes) s
statement_front skip place [] s h =
    let same : record { tokens = []; closed = None; next = place + skip } ≡ s = cc in
    subst (IsFront [] place []) same (record { later = omega arith; rest = sym (befores_end (place + skip) (place + skip - place)) })
statement_front (suc skip) place (b ∷ bytes) s h = front_later b place bytes _ s (statement_front skip (suc place) bytes s h)
statement_front zero place (b ∷ bytes) s h = front_at b place bytes (λ n u k. statement_front n (suc place) bytes u k) (front_of (b ∷ bytes)) s h

-- the tokens from a place on are a statement's, and those from behind it on
pub before-statement : (text : List ℕ) (at : ℕ) (s : StatementTokens) → statement_at text at ≡ Ok s → good_tokens 0 at (drop at text) ≡ (s.tokens ++ option_to_list s.closed) ++ good_tokens 0 s.next (drop s.next text)
unfolding statement_at
before-statement text at s h =
    let f : IsFront (drop at text) at (good_tokens 0 at (drop at text)) s = statement_front 0 at (drop at text) s h in
    let sum : at + (s.next - at) ≡ s.next = omega (arith, f.later) in
    f.rest ∙ ap (λ bs. (s.tokens ++ option_to_list s.closed) ++ good_tokens 0 s.next bs) (drop-drop (s.next - at) at text ∙ ap (λ n. drop n text) sum)

-- ---- no semicolon before a fault in a statement

not_inner : (closes : Bool) (t : Token) (r : Result StatementTokens LexFault) (e : LexFault) → cond closes (closed_by t) (with_tokens (t ∷ []) r) ≡ Err e → (closes ≡ false) × (r ≡ Err e)
not_inner true t r e h = cc
not_inner false t (Ok s) e h = cc
not_inner false t (Err f) e h = (refl, h)

inner_at : (x : Front) (place : ℕ) (f : ℕ → Result StatementTokens LexFault) (g : ℕ → List Token) (e : LexFault) → ((n : ℕ) → f n ≡ Err e → list_all (λ t. not (ends_statement t)) (g n) ≡ true) → in_statement x place f ≡ Err e → list_all (λ t. not (ends_statement t)) (before_at x place g) ≡ true
inner_at (front.Blank more) place f g e same h = same more h
inner_at (front.Token kind text more) place f g e same h =
    let in_text = not_inner (is_semicolon kind text) (token_at kind text place more) (f more) e h in
    rw in_text.0 (same more in_text.1)
inner_at front.Bad place f g e same h = refl
inner_at front.Open place f g e same h = refl

inner_from : (skip place : ℕ) (bytes : List ℕ) (e : LexFault) → statement_from skip place bytes ≡ Err e → list_all (λ t. not (ends_statement t)) (good_tokens skip place bytes) ≡ true
inner_from skip place [] e h = refl
inner_from (suc skip) place (b ∷ bytes) e h = inner_from skip (suc place) bytes e h
inner_from zero place (b ∷ bytes) e h = inner_at (front_of (b ∷ bytes)) place (λ more. statement_from more (suc place) bytes) (λ more. good_tokens more (suc place) bytes) e (λ n k. inner_from n (suc place) bytes e k) h

pub before-inner : (text : List ℕ) (at : ℕ) (e : LexFault) → statement_at text at ≡ Err e → list_all (λ t. not (ends_statement t)) (good_tokens 0 at (drop at text)) ≡ true
unfolding statement_at
before-inner text at e h = inner_from 0 at (drop at text) e h

pub fault-between : (text : List ℕ) (at : ℕ) (e : LexFault) → tokens_from 0 at (drop at text) ≡ Err e → at ≤ length text → IsBetween at (length text) e
fault-between text at e h within =
    let w : IsBetween (at + 0) (at + length (drop at text)) e = within_from 0 at (drop at text) e h in
    record { from = omega (arith, w.from); before = omega (arith, w.before, length-drop at text) }

-- ---- the places of a statement's tokens

-- these tokens begin from one place on and before another
abbrev pub ArePlaced : ℕ → ℕ → List Token → Type 0
ArePlaced low high [] = Unit {0}
ArePlaced low high (t ∷ ts) = (low ≤ t.start) × (t.start < high) × ArePlaced low high ts

-- so do those of a statement
abbrev pub IsPlaced : ℕ → StatementTokens → Type 0
IsPlaced low s = ArePlaced low s.next (s.tokens ++ option_to_list s.closed)

placed-earlier : (low high place : ℕ) (ts : List Token) → place ≤ low → ArePlaced low high ts → ArePlaced place high ts
placed-earlier low high place [] h w = tt
placed-earlier low high place (t ∷ ts) h w = (omega (arith, h, w.0), w.1, placed-earlier low high place ts h w.2)

pub placed-before : (low high place : ℕ) (ts : List Token) → high ≤ place → ArePlaced low high ts → list_all (λ t. nat_lt t.start place) ts ≡ true
placed-before low high place [] h w = refl
placed-before low high place (t ∷ ts) h w = and_from (nat_lt t.start place) (list_all (λ u. nat_lt u.start place) ts) (lt-ltb t.start place (omega (arith, h, w.1))) (placed-before low high place ts h w.2)

placed_token : (closes : Bool) (place more : ℕ) (kind : TokenKind) (text : List ℕ) (r : Result StatementTokens LexFault) (s : StatementTokens) → ((u : StatementTokens) → r ≡ Ok u → (place < u.next) × IsPlaced (suc place) u) → cond closes (closed_by (token_at kind text place more)) (with_tokens (token_at kind text place more ∷ []) r) ≡ Ok s → IsPlaced place s
placed_token true place more kind text r s later h =
    let same : record { tokens = []; closed = Some (token_at kind text place more); next = place + (more + 1) } ≡ s = cc in
    subst (IsPlaced place) same (omega arith, omega arith, tt)
placed_token false place more kind text (Ok u) s later h =
    let same : record { tokens = token_at kind text place more ∷ u.tokens; closed = u.closed; next = u.next } ≡ s = cc in
    let known = later u refl in
    subst (IsPlaced place) same (omega arith, known.0, placed-earlier (suc place) u.next place (u.tokens ++ option_to_list u.closed) (omega arith) known.1)
placed_token false place more kind text (Err e) s later h = cc

placed_at : (x : Front) (place : ℕ) (f : ℕ → Result StatementTokens LexFault) (s : StatementTokens) → ((n : ℕ) (u : StatementTokens) → f n ≡ Ok u → (place < u.next) × IsPlaced (suc place) u) → in_statement x place f ≡ Ok s → IsPlaced place s
placed_at (front.Blank more) place f s later h = placed-earlier (suc place) s.next place (s.tokens ++ option_to_list s.closed) (omega arith) (later more s h).1
placed_at (front.Token kind text more) place f s later h = placed_token (is_semicolon kind text) place more kind text (f more) s (later more) h
placed_at front.Bad place f s later h = cc
placed_at front.Open place f s later h = cc

placed_from : (skip place : ℕ) (bytes : List ℕ) (s : StatementTokens) → statement_from skip place bytes ≡ Ok s → IsPlaced place s
placed_from skip place [] s h =
    let same : record { tokens = []; closed = None; next = place + skip } ≡ s = cc in
    subst (IsPlaced place) same tt
placed_from (suc skip) place (b ∷ bytes) s h = placed-earlier (suc place) s.next place (s.tokens ++ option_to_list s.closed) (omega arith) (placed_from skip (suc place) bytes s h)
placed_from zero place (b ∷ bytes) s h =
    placed_at (front_of (b ∷ bytes)) place (λ more. statement_from more (suc place) bytes) s
    (λ n u k. let low : suc place ≤ u.next = (statement_front n (suc place) bytes u k).later in (omega (arith, low), placed_from n (suc place) bytes u k)) h

-- the tokens of a statement and its semicolon begin from the place that it was read from on and before what is left
pub statement-placed : (text : List ℕ) (at : ℕ) (s : StatementTokens) → statement_at text at ≡ Ok s → IsPlaced at s
unfolding statement_at
statement-placed text at s h = placed_from 0 at (drop at text) s h

-- ---- a semicolon is one byte

mark_text : (start : Start) (bytes text : List ℕ) (more : ℕ) → part_of start bytes ≡ front.Token kinds.Mark text more → take (suc more) bytes ≡ text
mark_text starts.Blank bytes text more h = cc
mark_text starts.Comment bytes text more h = cc
mark_text starts.Name bytes text more h = by_run (nat_lt (name_len (drop 1 bytes)) 30) h
  where
    by_run : (b : Bool) → cond b (front.Token kinds.Name (map to_ascii_uppercase (take (name_len (drop 1 bytes) + 1) bytes)) (name_len (drop 1 bytes))) front.Bad ≡ front.Token kinds.Mark text more → take (suc more) bytes ≡ text
    by_run true k = cc
    by_run false k = cc
mark_text starts.Number bytes text more h = by_run (nat_lt (digits_len (drop 1 bytes)) 38) h
  where
    by_run : (b : Bool) → cond b (front.Token kinds.Number (take (digits_len (drop 1 bytes) + 1) bytes) (digits_len (drop 1 bytes))) front.Bad ≡ front.Token kinds.Mark text more → take (suc more) bytes ≡ text
    by_run true k = cc
    by_run false k = cc
mark_text starts.Quote bytes text more h = by_text (text_of (drop 1 bytes)) h
  where
    by_text : (o : Option (List ℕ × ℕ)) → text_part o ≡ front.Token kinds.Mark text more → take (suc more) bytes ≡ text
    by_text None k = cc
    by_text (Some t) k = cc
mark_text starts.Mark bytes text more h = by_len (mark_len (slice_index bytes 0) (slice_index bytes 1)) h
  where
    by_len : (n : ℕ) → mark_part n bytes ≡ front.Token kinds.Mark text more → take (suc more) bytes ≡ text
    by_len zero k = cc
    by_len (suc m) k =
        let same : take (suc m) bytes ≡ text = cc in
        let count : more ≡ m = cc in
        ap (λ n. take (suc n) bytes) count ∙ same

one_byte : (bytes text : List ℕ) (more : ℕ) → more < length bytes → take (suc more) bytes ≡ text → bytes_eq text (codes ";") ≡ true → more ≡ 0
one_byte bytes text more some same h =
    let is : text ≡ codes ";" = (bytes_eq-Decides text (codes ";")).0 h in
    let one : length (take (suc more) bytes) ≡ 1 = ap length (same ∙ is) in
    omega (arith, one, length-take-le (suc more) bytes (omega (arith, some)))

semicolon_one : (kind : TokenKind) (b : ℕ) (bytes text : List ℕ) (more : ℕ) → front_of (b ∷ bytes) ≡ front.Token kind text more → is_semicolon kind text ≡ true → more ≡ 0
unfolding front_of
semicolon_one kinds.Mark b bytes text more is h =
    one_byte (b ∷ bytes) text more (subst (λ x. lexed.IsWithin x (b ∷ bytes)) is (front_within (b ∷ bytes) (omega arith)))
    (mark_text (start_of b (slice_index (b ∷ bytes) 1)) (b ∷ bytes) text more is) h
semicolon_one kinds.Name b bytes text more is h = cc
semicolon_one kinds.Number b bytes text more is h = cc
semicolon_one kinds.Text b bytes text more is h = cc

-- what is left begins right behind the semicolon
abbrev pub IsNarrow : StatementTokens → Type 0
IsNarrow s = (t : Token) → s.closed ≡ Some t → s.next ≤ suc t.start

narrow_token : (closes : Bool) (place more : ℕ) (kind : TokenKind) (text : List ℕ) (r : Result StatementTokens LexFault) (s : StatementTokens) → (closes ≡ true → more ≡ 0) → ((u : StatementTokens) → r ≡ Ok u → IsNarrow u) → cond closes (closed_by (token_at kind text place more)) (with_tokens (token_at kind text place more ∷ []) r) ≡ Ok s → IsNarrow s
narrow_token true place more kind text r s one later h =
    let same : record { tokens = []; closed = Some (token_at kind text place more); next = place + (more + 1) } ≡ s = cc in
    subst IsNarrow same
    (λ t e.
    let is : token_at kind text place more ≡ t = cc in
    let start : place ≡ t.start = ap (λ (u : Token). u.start) is in
    omega (arith, one refl, start))
narrow_token false place more kind text (Ok u) s one later h =
    let same : record { tokens = token_at kind text place more ∷ u.tokens; closed = u.closed; next = u.next } ≡ s = cc in
    subst IsNarrow same (later u refl)
narrow_token false place more kind text (Err e) s one later h = cc

narrow_at : (x : Front) (b place : ℕ) (bytes : List ℕ) (s : StatementTokens) → front_of (b ∷ bytes) ≡ x → ((n : ℕ) (u : StatementTokens) → statement_from n (suc place) bytes ≡ Ok u → IsNarrow u) → in_statement x place (λ more. statement_from more (suc place) bytes) ≡ Ok s → IsNarrow s
narrow_at (front.Blank more) b place bytes s is later h = later more s h
narrow_at (front.Token kind text more) b place bytes s is later h = narrow_token (is_semicolon kind text) place more kind text (statement_from more (suc place) bytes) s (semicolon_one kind b bytes text more is) (later more) h
narrow_at front.Bad b place bytes s is later h = cc
narrow_at front.Open b place bytes s is later h = cc

narrow_from : (skip place : ℕ) (bytes : List ℕ) (s : StatementTokens) → statement_from skip place bytes ≡ Ok s → IsNarrow s
narrow_from skip place [] s h =
    let same : record { tokens = []; closed = None; next = place + skip } ≡ s = cc in
    subst IsNarrow same (λ t e. cc)
narrow_from (suc skip) place (b ∷ bytes) s h = narrow_from skip (suc place) bytes s h
narrow_from zero place (b ∷ bytes) s h = narrow_at (front_of (b ∷ bytes)) b place bytes s refl (λ n u k. narrow_from n (suc place) bytes u k) h

pub statement-narrow : (text : List ℕ) (at : ℕ) (s : StatementTokens) → statement_at text at ≡ Ok s → IsNarrow s
unfolding statement_at
statement-narrow text at s h = narrow_from 0 at (drop at text) s h

pub ruleset befores = (before-all, before-cut)
