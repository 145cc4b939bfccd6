-- The tokens of a whole text, or its first fault.
use Rattle.std.specs.List.{list_all}
use Rattle.std.specs.Prelude.{◌≡◌, ℕ, ◌+◌, ◌-◌, ◌<◌, ◌≤◌, ◌^◌, length, drop, zero, suc, List, [], ◌∷◌, ◌++◌, Bool, true, false, not, cond, codes, bytes_eq, nat_lt, Option, Some, None, option_to_list, Result, Ok, Err}
use Rattle.wh_base.specs.Lists.{option_case}
use Rattle.wh_base.specs.Values.{digits_number}
use Rattle.wh_base.specs.declared.tokens.Token.{Token}
use Rattle.wh_base.specs.declared.tokens.TokenKind.{TokenKind}
use Rattle.wh_base.specs.declared.tokens.TokenKind.TheVariants as kinds
use Rattle.wh_lex.specs.declared.lex.StatementTokens.{StatementTokens}
use Rattle.wh_lex.specs.declared.front.Front.{Front}
use Rattle.wh_lex.specs.declared.front.Front.TheVariants as front
use Rattle.wh_lex.specs.declared.lex.LexFault.{LexFault}
use Rattle.wh_lex.specs.declared.lex.LexFault.TheVariants as faults
use Rattle.wh_lex.specs.Tokens.{front_of}

abbrev pub with_front : List Token → Result (List Token) LexFault → Result (List Token) LexFault
with_front front (Ok rest) = Ok (front ++ rest)
with_front front (Err e) = Err e

-- what stands at this place, and then what follows behind so many more bytes
abbrev pub after : Front → ℕ → (ℕ → Result (List Token) LexFault) → Result (List Token) LexFault
after (front.Blank more) place rest = rest more
after (front.Token kind text more) place rest = with_front (record { kind = kind; text = text; start = place; end = place + (more + 1) } ∷ []) (rest more)
after front.Bad place rest = Err (faults.BadCharacter place)
after front.Open place rest = Err (faults.OpenQuote place)

-- the tokens of the bytes from this place on, of which the first few belong to what was read before
abbrev pub tokens_from : ℕ → ℕ → List ℕ → Result (List Token) LexFault
tokens_from skip place [] = Ok []
tokens_from (suc skip) place (b ∷ bytes) = tokens_from skip (suc place) bytes
tokens_from zero place (b ∷ bytes) = after (front_of (b ∷ bytes)) place (λ more. tokens_from more (suc place) bytes)

-- the tokens of a text, or its first fault
unfoldable pub tokens_of : List ℕ → Result (List Token) LexFault
tokens_of bytes = tokens_from 0 0 bytes

-- what the code gives is what the definition gives, unless memory ran out
abbrev pub Gives : {X : Type 0} → Result X LexFault → Result X LexFault → Type 0
Gives (Ok x) read = read ≡ Ok x
Gives (Err faults.Memory) read = Unit {0}
Gives (Err (faults.BadCharacter place)) read = read ≡ Err (faults.BadCharacter place)
Gives (Err (faults.OpenQuote place)) read = read ≡ Err (faults.OpenQuote place)

-- a token of the text, no earlier than this place
pub record IsSpan (bytes : List ℕ) (low : ℕ) (t : Token) : Type 0 where
  pub after : low ≤ t.start
  pub some : t.start < t.end
  pub within : t.end ≤ length bytes
  pub reads : front_of (drop t.start bytes) ≡ front.Token t.kind t.text (t.end - t.start - 1)

-- tokens of the text, one after another
abbrev pub AreSpans : List ℕ → ℕ → List Token → Type 0
AreSpans bytes low [] = Unit {0}
AreSpans bytes low (t ∷ ts) = IsSpan bytes low t × AreSpans bytes t.end ts

-- ---- one statement

-- the semicolon that ends a statement
abbrev pub is_semicolon : TokenKind → List ℕ → Bool
is_semicolon kinds.Mark text = bytes_eq text (codes ";")
is_semicolon kind text = false

abbrev pub ends_statement : Token → Bool
ends_statement t = is_semicolon t.kind t.text

abbrev pub token_at : TokenKind → List ℕ → ℕ → ℕ → Token
token_at kind text place more = record { kind = kind; text = text; start = place; end = place + (more + 1) }

-- these tokens before those of a statement
abbrev pub with_tokens : List Token → Result StatementTokens LexFault → Result StatementTokens LexFault
with_tokens front (Ok s) = Ok (record { tokens = front ++ s.tokens; closed = s.closed; next = s.next })
with_tokens front (Err e) = Err e

-- a statement without tokens that this semicolon closes
abbrev pub closed_by : Token → Result StatementTokens LexFault
closed_by t = Ok (record { tokens = []; closed = Some t; next = t.end })

-- what stands at this place, and then the rest of the statement behind so many more bytes
abbrev pub in_statement : Front → ℕ → (ℕ → Result StatementTokens LexFault) → Result StatementTokens LexFault
in_statement (front.Blank more) place rest = rest more
in_statement (front.Token kind text more) place rest =
    cond (is_semicolon kind text) (closed_by (token_at kind text place more)) (with_tokens (token_at kind text place more ∷ []) (rest more))
in_statement front.Bad place rest = Err (faults.BadCharacter place)
in_statement front.Open place rest = Err (faults.OpenQuote place)

-- the tokens of the bytes from this place on, up to the first semicolon or to the end, where the first few bytes belong
-- to what was read before
abbrev pub statement_from : ℕ → ℕ → List ℕ → Result StatementTokens LexFault
statement_from skip place [] = Ok (record { tokens = []; closed = None; next = place + skip })
statement_from (suc skip) place (b ∷ bytes) = statement_from skip (suc place) bytes
statement_from zero place (b ∷ bytes) = in_statement (front_of (b ∷ bytes)) place (λ more. statement_from more (suc place) bytes)

-- the tokens of a text from a place on, up to the first semicolon or to the end; or the first fault before that
unfoldable pub statement_at : List ℕ → ℕ → Result StatementTokens LexFault
statement_at bytes place = statement_from 0 place (drop place bytes)

-- the tokens of a text from a place on
unfoldable pub tokens_at : List ℕ → ℕ → Result (List Token) LexFault
tokens_at bytes place = tokens_from 0 place (drop place bytes)

-- a number is below 10 ^ 38, so that it fits 128 bits
abbrev pub number_fits : TokenKind → List ℕ → Bool
number_fits kinds.Number text = option_case (digits_number text) false (λ n. nat_lt n (10 ^ 38))
number_fits kind text = true

abbrev pub token_fits : Token → Bool
token_fits t = number_fits t.kind t.text

-- the semicolon, or that the statement goes to the end of the text
abbrev pub IsClosed : List ℕ → ℕ → Option Token → Type 0
IsClosed bytes next None = next ≡ length bytes
IsClosed bytes next (Some t) = ends_statement t ≡ true

-- these are a text's tokens from a place on up to the first semicolon or to the end, and those from the next place on
-- are what is left of them
pub record IsStatement (bytes : List ℕ) (place : ℕ) (whole : Result (List Token) LexFault) (s : StatementTokens) : Type 0 where
  pub all : whole ≡ with_front (s.tokens ++ option_to_list s.closed) (tokens_at bytes s.next)
  pub inner : list_all (λ t. not (ends_statement t)) s.tokens ≡ true
  pub closed : IsClosed bytes s.next s.closed
  pub later : place ≤ s.next
  pub forward : place < length bytes → place < s.next
  pub within : s.next ≤ length bytes
  pub numbers : list_all token_fits s.tokens ≡ true

-- where a statement has a fault, so has the text from there on; want of memory says nothing
abbrev pub IsFaultOf : Result (List Token) LexFault → LexFault → Type 0
IsFaultOf all faults.Memory = Unit {0}
IsFaultOf all (faults.BadCharacter place) = all ≡ Err (faults.BadCharacter place)
IsFaultOf all (faults.OpenQuote place) = all ≡ Err (faults.OpenQuote place)
