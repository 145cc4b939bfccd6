-- Steps through the tokens of a statement.
use Rattle.std.proofs.Common.{◌≡◌, ℕ, ◌+◌, ◌<◌, ◌≤◌, suc, zero, List, [], ◌∷◌, ◌++◌, length, get_or, drop, refl, ap, ◌∙◌, sym, append_assoc, append-nil, arith, Result, Ok, Err, true, false, cond, Some, None}
use Rattle.std.proofs.Math.ListN.{drop_of_length-le}
use Rattle.std.proofs.lemmas.List.{drop_more, drop-drop}
use Rattle.wh_lex.specs.declared.front.Front.{Front}
use Rattle.wh_lex.specs.declared.front.Front.TheVariants as front
use Rattle.wh_base.specs.declared.tokens.Token.{Token}
use Rattle.wh_base.specs.declared.tokens.TokenKind.{TokenKind}
use Rattle.wh_lex.specs.declared.lex.LexFault.{LexFault}
use Rattle.wh_lex.specs.declared.lex.StatementTokens.{StatementTokens}
use Rattle.wh_lex.specs.Tokens.{front_of}
use Rattle.wh_lex.specs.Lex.{closed_by, in_statement, is_semicolon, statement_from, token_at, with_tokens}

ended : ℕ → Result StatementTokens LexFault
ended place = Ok (record { tokens = []; closed = None; next = place })

-- bytes that belong to what was read before are passed over
pub statement_from-skip : (n place : ℕ) (bytes : List ℕ) → statement_from n place bytes ≡ statement_from 0 (place + n) (drop n bytes)
statement_from-skip zero place [] = ap (λ p. Ok (record { tokens = []; closed = None; next = p })) (omega arith)
statement_from-skip (suc n) place [] = ap (λ p. Ok (record { tokens = []; closed = None; next = p })) (omega arith)
statement_from-skip zero place (b ∷ bytes) = ap (λ p. statement_from 0 p (b ∷ bytes)) (omega arith)
statement_from-skip (suc n) place (b ∷ bytes) = statement_from-skip n (suc place) bytes ∙ ap (λ p. statement_from 0 p (drop n bytes)) (omega arith)

in_statement-same : (x : Front) (place : ℕ) (f g : ℕ → Result StatementTokens LexFault) → ((n : ℕ) → f n ≡ g n) → in_statement x place f ≡ in_statement x place g
in_statement-same (front.Blank more) place f g h = h more
in_statement-same (front.Token kind text more) place f g h = ap (λ r. cond (is_semicolon kind text) (closed_by (token_at kind text place more)) (with_tokens (token_at kind text place more ∷ []) r)) (h more)
in_statement-same front.Bad place f g h = refl
in_statement-same front.Open place f g h = refl

later : (bytes : List ℕ) (at more : ℕ) → statement_from more (suc at) (drop (at + 1) bytes) ≡ statement_from 0 (at + (more + 1)) (drop (at + (more + 1)) bytes)
later bytes at more = statement_from-skip more (suc at) (drop (at + 1) bytes) ∙ rw (drop-drop) (let p : suc at + more ≡ at + (more + 1) = omega arith in let q : at + 1 + more ≡ at + (more + 1) = omega arith in rw (p, q) refl)

-- what stands at a place, and then the rest
pub statement_from-at : (bytes : List ℕ) (at : ℕ) → at < length bytes → statement_from 0 at (drop at bytes) ≡ in_statement (front_of (drop at bytes)) at (λ more. statement_from 0 (at + (more + 1)) (drop (at + (more + 1)) bytes))
statement_from-at bytes at h = rw (drop_more bytes at 0 h) (in_statement-same (front_of (get_or bytes at 0 ∷ drop (at + 1) bytes)) at _ _ (later bytes at))

-- one step of the loop
pub step : (bytes : List ℕ) (at : ℕ) (x : Front) (some : List Token) (all : Result StatementTokens LexFault) → at < length bytes → x ≡ front_of (drop at bytes) → with_tokens some (statement_from 0 at (drop at bytes)) ≡ all → with_tokens some (in_statement x at (λ more. statement_from 0 (at + (more + 1)) (drop (at + (more + 1)) bytes))) ≡ all
step bytes at x some all h e r = rw e (rw (statement_from-at bytes at h) at r)

pub with_tokens-more : (some more : List Token) (rest : Result StatementTokens LexFault) → with_tokens some (with_tokens more rest) ≡ with_tokens (some ++ more) rest
with_tokens-more some more (Ok s) = ap (λ ts. Ok (record { tokens = ts; closed = s.closed; next = s.next })) (sym (append_assoc some more s.tokens))
with_tokens-more some more (Err e) = refl

-- a token that closes nothing
pub with_tokens-token : (some : List Token) (kind : TokenKind) (text : List ℕ) (place more : ℕ) (rest : Result StatementTokens LexFault) → is_semicolon kind text ≡ false → with_tokens some (cond (is_semicolon kind text) (closed_by (token_at kind text place more)) (with_tokens (token_at kind text place more ∷ []) rest)) ≡ with_tokens (some ++ token_at kind text place more ∷ []) rest
with_tokens-token some kind text place more rest e = rw e (with_tokens-more some (token_at kind text place more ∷ []) rest)

-- the token that closes the statement
pub with_tokens-closed : (some : List Token) (kind : TokenKind) (text : List ℕ) (place more : ℕ) (rest : Result StatementTokens LexFault) → is_semicolon kind text ≡ true → with_tokens some (cond (is_semicolon kind text) (closed_by (token_at kind text place more)) (with_tokens (token_at kind text place more ∷ []) rest)) ≡ Ok (record { tokens = some; closed = Some (token_at kind text place more); next = place + (more + 1) })
with_tokens-closed some kind text place more rest e = rw e (ap (λ ts. Ok (record { tokens = ts; closed = Some (token_at kind text place more); next = place + (more + 1) })) (append-nil some))

-- at the end of the text
pub with_tokens-end : (bytes : List ℕ) (some : List Token) (at : ℕ) → length bytes ≤ at → with_tokens some (statement_from 0 at (drop at bytes)) ≡ Ok (record { tokens = some; closed = None; next = at })
with_tokens-end bytes some at h = rw (drop_of_length-le bytes h) (let e : at + 0 ≡ at = omega arith in rw (e, append-nil some) refl)

pub ruleset steps = (statement_from-at, with_tokens-more, with_tokens-end)
