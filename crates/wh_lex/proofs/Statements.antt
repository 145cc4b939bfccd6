-- What the tokens of one statement have to do with those of the whole text.
use Rattle.std.proofs.Common.{◌≡◌, ℕ, ◌+◌, ◌-◌, ◌<◌, ◌≤◌, suc, zero, List, [], ◌∷◌, ◌++◌, length, drop, refl, ap, sym, ◌∙◌, subst, append_assoc, append-nil, arith, Result, Ok, Err, Bool, true, false, cond, Option, Some, None, length-drop}
use Rattle.std.proofs.Math.ListN.{drop_of_length-le}
use Rattle.std.proofs.lemmas.List.{drop_more, drop-drop}
use Rattle.std.specs.Cmp.Derive.{both_true}
use Rattle.std.specs.Prelude.{not, option_to_list}
use Rattle.wh_lex.specs.declared.front.Front.{Front}
use Rattle.wh_lex.specs.declared.front.Front.TheVariants as front
use Rattle.wh_base.specs.declared.tokens.Token.{Token}
use Rattle.wh_base.specs.declared.tokens.TokenKind.{TokenKind}
use Rattle.wh_lex.specs.declared.lex.LexFault.{LexFault}
use Rattle.wh_lex.specs.declared.lex.LexFault.TheVariants as faults
use Rattle.wh_lex.specs.declared.lex.StatementTokens.{StatementTokens}
use Rattle.wh_lex.specs.Tokens.{IsWithin, front_of}
use Rattle.wh_lex.specs.Lex.{IsFaultOf, IsStatement, after, closed_by, ends_statement, in_statement, is_semicolon, number_fits, statement_at, statement_from, token_at, token_fits, tokens_at, tokens_from, tokens_of, with_front, with_tokens}
use Rattle.wh_lex.proofs.Numbers.{front_fits}
use Rattle.wh_lex.proofs.Spans.{front_within, next}

-- bytes that belong to what was read before are passed over
tokens_from-skip : (n place : ℕ) (bytes : List ℕ) → tokens_from n place bytes ≡ tokens_from 0 (place + n) (drop n bytes)
tokens_from-skip zero place [] = refl
tokens_from-skip (suc n) place [] = refl
tokens_from-skip zero place (b ∷ bytes) = ap (λ p. tokens_from 0 p (b ∷ bytes)) (omega arith)
tokens_from-skip (suc n) place (b ∷ bytes) = tokens_from-skip n (suc place) bytes ∙ ap (λ p. tokens_from 0 p (drop n bytes)) (omega arith)

pub with_front-more : (some more : List Token) (rest : Result (List Token) LexFault) → with_front some (with_front more rest) ≡ with_front (some ++ more) rest
with_front-more some more (Ok rest) = ap Ok (sym (append_assoc some more rest))
with_front-more some more (Err e) = refl

pub tokens_at-end : (bytes : List ℕ) (place : ℕ) → length bytes ≤ place → tokens_at bytes place ≡ Ok []
unfolding tokens_at
tokens_at-end bytes place h = rw (drop_of_length-le bytes h) refl

-- ---- faults

with_tokens-fault : (some : List Token) (r : Result StatementTokens LexFault) (e : LexFault) → with_tokens some r ≡ Err e → r ≡ Err e
with_tokens-fault some (Ok s) e h = cc
with_tokens-fault some (Err f) e h = h

token_fault : (closes : Bool) (t : Token) (r : Result StatementTokens LexFault) (all : Result (List Token) LexFault) (e : LexFault) → (r ≡ Err e → all ≡ Err e) → cond closes (closed_by t) (with_tokens (t ∷ []) r) ≡ Err e → with_front (t ∷ []) all ≡ Err e
token_fault true t r all e same h = cc
token_fault false t r all e same h = ap (with_front (t ∷ [])) (same (with_tokens-fault (t ∷ []) r e h))

fault_after : (x : Front) (place : ℕ) (f : ℕ → Result StatementTokens LexFault) (g : ℕ → Result (List Token) LexFault) (e : LexFault) → ((n : ℕ) → f n ≡ Err e → g n ≡ Err e) → in_statement x place f ≡ Err e → after x place g ≡ Err e
fault_after (front.Blank more) place f g e same h = same more h
fault_after (front.Token kind text more) place f g e same h = token_fault (is_semicolon kind text) (token_at kind text place more) (f more) (g more) e (same more) h
fault_after front.Bad place f g e same h = ap (λ r. Err r) (let inner : faults.BadCharacter place ≡ e = cc in inner)
fault_after front.Open place f g e same h = ap (λ r. Err r) (let inner : faults.OpenQuote place ≡ e = cc in inner)

fault_from : (skip place : ℕ) (bytes : List ℕ) (e : LexFault) → statement_from skip place bytes ≡ Err e → tokens_from skip place bytes ≡ Err e
fault_from skip place [] e h = cc
fault_from (suc skip) place (b ∷ bytes) e h = fault_from skip (suc place) bytes e h
fault_from zero place (b ∷ bytes) e h = fault_after (front_of (b ∷ bytes)) place (λ more. statement_from more (suc place) bytes) (λ more. tokens_from more (suc place) bytes) e (λ n. fault_from n (suc place) bytes e) h

fault_named : (all : Result (List Token) LexFault) (e : LexFault) → all ≡ Err e → IsFaultOf all e
fault_named all faults.Memory h = tt
fault_named all (faults.BadCharacter place) h = h
fault_named all (faults.OpenQuote place) h = h

-- a fault before the semicolon is the text's
pub statement_at-fault : (bytes : List ℕ) (place : ℕ) (e : LexFault) → statement_at bytes place ≡ Err e → IsFaultOf (tokens_at bytes place) e
unfolding statement_at tokens_at
statement_at-fault bytes place e h = fault_named _ e (fault_from 0 place (drop place bytes) e h)

-- ---- what is left behind a statement

module _ (bytes : List ℕ) where
  -- the same from an earlier place on
  from_earlier : (low high : ℕ) (all : Result (List Token) LexFault) (s : StatementTokens) → low < high → IsStatement bytes high all s → IsStatement bytes low all s
  from_earlier low high all s h part = record {
    all = part.all;
    inner = part.inner;
    closed = part.closed;
    later = omega (arith, part.later);
    forward = λ some. omega (arith, part.later);
    within = part.within;
    numbers = part.numbers;
  }

  -- one more token in front
  with_first : (t : Token) (low high : ℕ) (all : Result (List Token) LexFault) (s : StatementTokens) → low < high → ends_statement t ≡ false → token_fits t ≡ true → IsStatement bytes high all s → IsStatement bytes low (with_front (t ∷ []) all) (record { tokens = t ∷ s.tokens; closed = s.closed; next = s.next })
  with_first t low high all s h stays fits part = record {
    all = ap (with_front (t ∷ [])) part.all ∙ with_front-more (t ∷ []) (s.tokens ++ option_to_list s.closed) (tokens_at bytes s.next);
    inner = both_true (ap not stays) part.inner;
    closed = part.closed;
    later = omega (arith, part.later);
    forward = λ some. omega (arith, part.later);
    within = part.within;
    numbers = both_true fits part.numbers;
  }

  left_behind : (place more : ℕ) (rest : List ℕ) → drop (suc place) bytes ≡ rest → tokens_from more (suc place) rest ≡ tokens_at bytes (place + (more + 1))
  unfolding tokens_at
  left_behind place more rest d =
      let p : suc place + more ≡ place + (more + 1) = omega arith in
      tokens_from-skip more (suc place) rest ∙ rw (← d) (rw (drop-drop, p) refl)

  -- the semicolon
  at_semicolon : (kind : TokenKind) (text : List ℕ) (place more : ℕ) (rest : List ℕ) (s : StatementTokens) → drop (suc place) bytes ≡ rest → place + (more + 1) ≤ length bytes → is_semicolon kind text ≡ true → closed_by (token_at kind text place more) ≡ Ok s → IsStatement bytes place (with_front (token_at kind text place more ∷ []) (tokens_from more (suc place) rest)) s
  at_semicolon kind text place more rest s d fits closes h =
      let same : record { tokens = []; closed = Some (token_at kind text place more); next = place + (more + 1) } ≡ s = cc in
      subst (IsStatement bytes place (with_front (token_at kind text place more ∷ []) (tokens_from more (suc place) rest))) same
      (record {
        all = ap (with_front (token_at kind text place more ∷ [])) (left_behind place more rest d);
        inner = refl;
        closed = closes;
        later = omega arith;
        forward = λ some. omega arith;
        within = fits;
        numbers = refl;
      })

  -- a token before the semicolon
  at_token : (t : Token) (place high : ℕ) (all : Result (List Token) LexFault) (r : Result StatementTokens LexFault) (s : StatementTokens) → place < high → ends_statement t ≡ false → token_fits t ≡ true → ((u : StatementTokens) → r ≡ Ok u → IsStatement bytes high all u) → with_tokens (t ∷ []) r ≡ Ok s → IsStatement bytes place (with_front (t ∷ []) all) s
  at_token t place high all (Ok u) s h stays fits later e =
      let same : record { tokens = t ∷ u.tokens; closed = u.closed; next = u.next } ≡ s = cc in
      subst (IsStatement bytes place (with_front (t ∷ []) all)) same (with_first t place high all u h stays fits (later u refl))
  at_token t place high all (Err f) s h stays fits later e = cc

  at_either : (closes : Bool) (kind : TokenKind) (text : List ℕ) (place more : ℕ) (rest : List ℕ) (s : StatementTokens) → is_semicolon kind text ≡ closes → drop (suc place) bytes ≡ rest → place + (more + 1) ≤ length bytes → number_fits kind text ≡ true → ((u : StatementTokens) → statement_from more (suc place) rest ≡ Ok u → IsStatement bytes (suc place + more) (tokens_from more (suc place) rest) u) → cond closes (closed_by (token_at kind text place more)) (with_tokens (token_at kind text place more ∷ []) (statement_from more (suc place) rest)) ≡ Ok s → IsStatement bytes place (with_front (token_at kind text place more ∷ []) (tokens_from more (suc place) rest)) s
  at_either true kind text place more rest s c d fits small later e = at_semicolon kind text place more rest s d fits c e
  at_either false kind text place more rest s c d fits small later e = at_token (token_at kind text place more) place (suc place + more) (tokens_from more (suc place) rest) (statement_from more (suc place) rest) s (omega arith) c small later e

  at_front : (x : Front) (place : ℕ) (rest : List ℕ) (s : StatementTokens) → front_of (drop place bytes) ≡ x → place < length bytes → drop (suc place) bytes ≡ rest → IsWithin x (drop place bytes) → ((more : ℕ) (u : StatementTokens) → suc place + more ≤ length bytes → statement_from more (suc place) rest ≡ Ok u → IsStatement bytes (suc place + more) (tokens_from more (suc place) rest) u) → in_statement x place (λ more. statement_from more (suc place) rest) ≡ Ok s → IsStatement bytes place (after x place (λ more. tokens_from more (suc place) rest)) s
  at_front (front.Blank more) place rest s x some d within later e =
      from_earlier place (suc place + more) (tokens_from more (suc place) rest) s (omega arith) (later more s (omega (arith, length-drop place bytes)) e)
  at_front (front.Token kind text more) place rest s x some d within later e =
      let here : 0 < length (drop place bytes) = omega (arith, length-drop place bytes) in
      let fits : suc place + more ≤ length bytes = omega (arith, length-drop place bytes) in
      at_either (is_semicolon kind text) kind text place more rest s refl d (omega arith) (front_fits (drop place bytes) kind text more here x) (λ u h. later more u fits h) e
  at_front front.Bad place rest s x some d within later e = cc
  at_front front.Open place rest s x some d within later e = cc

  part_from : (rest : List ℕ) (skip place : ℕ) (s : StatementTokens) → drop place bytes ≡ rest → place + skip ≤ length bytes → statement_from skip place rest ≡ Ok s → IsStatement bytes (place + skip) (tokens_from skip place rest) s
  part_from [] skip place s d fits e =
      let same : record { tokens = []; closed = None; next = place + skip } ≡ s = cc in
      let done : place + skip ≡ length bytes = omega (arith, length-drop place bytes, ap length d) in
      subst (IsStatement bytes (place + skip) (Ok [])) same
      (record { all = rw (tokens_at-end bytes (place + skip) (omega arith)) refl; inner = refl; closed = done; later = omega arith; forward = λ some. absurd (omega arith); within = fits; numbers = refl })
  part_from (b ∷ rest) (suc skip) place s d fits e =
      let p : suc place + skip ≡ place + suc skip = omega arith in
      subst (λ low. IsStatement bytes low (tokens_from skip (suc place) rest) s) p (part_from rest skip (suc place) s (next bytes rest b place d) (omega arith) e)
  part_from (b ∷ rest) zero place s d fits e =
      let p : place ≡ place + 0 = omega arith in
      let some : place < length bytes = omega (arith, length-drop place bytes, ap length d) in
      subst (λ low. IsStatement bytes low (after (front_of (b ∷ rest)) place (λ more. tokens_from more (suc place) rest)) s) p
      (at_front (front_of (b ∷ rest)) place rest s (ap front_of d) some (next bytes rest b place d) (rw d (front_within (b ∷ rest) (omega arith)))
      (λ more u h. part_from rest more (suc place) u (next bytes rest b place d) h) e)

-- the tokens of a statement are those of the text up to its semicolon
pub statement_at-part : (bytes : List ℕ) (place : ℕ) (s : StatementTokens) → place ≤ length bytes → statement_at bytes place ≡ Ok s → IsStatement bytes place (tokens_at bytes place) s
unfolding statement_at tokens_at
statement_at-part bytes place s within h =
    let p : place + 0 ≡ place = omega arith in
    subst (λ low. IsStatement bytes low (tokens_from 0 place (drop place bytes)) s) p (part_from bytes (drop place bytes) 0 place s refl (omega arith) h)

pub tokens_at-first : (bytes : List ℕ) → tokens_at bytes 0 ≡ tokens_of bytes
unfolding tokens_at tokens_of
tokens_at-first bytes = refl

pub ruleset laws = (statement_at-fault, statement_at-part)

pub ruleset steps = (with_front-more, tokens_at-first, tokens_at-end, append-nil)
