-- How rules of the grammar read tokens, and the pieces from which they are put together.
use Rattle.std.specs.Prelude.{Bool, List, None, Option, Some, [], codes, cond, false, length, not, option_map, suc, true, unwrap_or, zero, ℕ, ◌&&◌, ◌==◌, ◌∷◌}
use Rattle.wh_base.specs.Lists.{has_text, is_empty, option_case, same_text, where_true}
use Rattle.wh_base.specs.Values.{digits_number}
use Rattle.wh_base.specs.declared.tokens.Token.{Token}
use Rattle.wh_base.specs.declared.tokens.TokenKind.{TokenKind}
use Rattle.wh_base.specs.declared.tokens.TokenKind.TheVariants as tokens

-- a rule reads from the front of the tokens: it gives what stands there and the tokens after it, or None where nothing does
abbrev pub Rule : Type 0 → Type 0
Rule A = List Token → Option (A × List Token)

infixl 10 ◌>>=◌
-- one rule and then another, which may depend on what the first gave
abbrev pub ◌>>=◌ : {A B : Type 0} → Rule A → (A → Rule B) → Rule B
◌>>=◌ r f ts = option_case (r ts) None (λ p. f p.0 p.1)

infixl 10 ◌>>◌
-- one rule and then another; what the first gave is dropped
abbrev pub ◌>>◌ : {A B : Type 0} → Rule A → Rule B → Rule B
◌>>◌ r s ts = option_case (r ts) None (λ p. s p.1)

-- reads nothing and gives this
abbrev pub gives : {A : Type 0} → A → Rule A
gives x ts = Some (x, ts)

-- what was read, or what the second rule reads where nothing was
abbrev pub or_else : {A : Type 0} → Option (A × List Token) → Rule A → Rule A
or_else (Some p) s ts = Some p
or_else None s ts = s ts

infixr 8 ◌or◌
-- the first rule, or the second where the first reads nothing: the grammar's `a | b`
abbrev pub ◌or◌ : {A : Type 0} → Rule A → Rule A → Rule A
◌or◌ r s ts = or_else (r ts) s ts

-- the rule, with what it gives changed
abbrev pub mapped : {A B : Type 0} → (A → B) → Rule A → Rule B
mapped f r ts = option_map (λ p. (f p.0, p.1)) (r ts)

-- the grammar's `[r]`: the rule, or nothing
abbrev pub maybe : {A : Type 0} → Rule A → Rule (Option A)
maybe r ts = or_else (mapped Some r ts) (gives None) ts

-- the rule again and again, as often as it reads, at most n times
abbrev pub many_times : {A : Type 0} → ℕ → Rule A → Rule (List A)
many_times zero r ts = Some ([], ts)
many_times (suc n) r ts = option_case (r ts) (Some ([], ts)) (λ p. option_map (λ q. (p.0 ∷ q.0, q.1)) (many_times n r p.1))

-- the grammar's `{r}`: the rule as often as it reads; it can't read more often than there are tokens
abbrev pub many : {A : Type 0} → Rule A → Rule (List A)
many r ts = many_times (length ts) r ts

-- ---- single tokens

abbrev pub same_token_kind : TokenKind → TokenKind → Bool
same_token_kind tokens.Name tokens.Name = true
same_token_kind tokens.Number tokens.Number = true
same_token_kind tokens.Text tokens.Text = true
same_token_kind tokens.Mark tokens.Mark = true
same_token_kind _ _ = false

-- the token has this kind and this text
abbrev pub is_token : TokenKind → List ℕ → Token → Bool
is_token k text t = same_token_kind t.kind k && same_text t.text text

-- the first token, where it passes the test
abbrev pub token_where : (Token → Bool) → Rule Token
token_where test [] = None
token_where test (t ∷ ts) = where_true (test t) (t, ts)

-- this keyword; names and keywords come folded to upper case
abbrev pub word : List ℕ → Rule Token
word w = token_where (is_token tokens.Name w)

-- this mark
abbrev pub mark : List ℕ → Rule Token
mark m = token_where (is_token tokens.Mark m)

-- the words that are never names
abbrev pub reserved : List (List ℕ)
reserved =
    codes "SELECT" ∷ codes "FROM" ∷ codes "WHERE" ∷ codes "GROUP" ∷ codes "BY" ∷ codes "HAVING" ∷ codes "ORDER" ∷ codes "JOIN" ∷ codes "INNER"
    ∷ codes "ON" ∷ codes "AND" ∷ codes "AS" ∷ codes "OF" ∷ codes "SCN" ∷ codes "IN" ∷ codes "IS" ∷ codes "NOT" ∷ codes "NULL" ∷ codes "BETWEEN"
    ∷ codes "ASC" ∷ codes "DESC" ∷ codes "ROWID" ∷ codes "COUNT" ∷ codes "SUM" ∷ codes "AVG" ∷ codes "MIN" ∷ codes "MAX" ∷ codes "BEGIN"
    ∷ codes "COMMIT" ∷ codes "INSERT" ∷ codes "INTO" ∷ codes "VALUES" ∷ codes "UPDATE" ∷ codes "SET" ∷ codes "DELETE" ∷ codes "CREATE"
    ∷ codes "ALTER" ∷ codes "DROP" ∷ codes "TABLE" ∷ codes "LEVEL" ∷ codes "HIERARCHY" ∷ codes "ATTRIBUTE" ∷ codes "DATE" ∷ []

abbrev pub is_name : Token → Bool
is_name t = same_token_kind t.kind tokens.Name && not (has_text reserved t.text)

-- a name
abbrev pub name : Rule (List ℕ)
name = mapped (λ t. t.text) (token_where is_name)

-- a number without a sign
abbrev pub number : Rule ℕ
number = mapped (λ t. unwrap_or (digits_number t.text) 0) (token_where (λ t. same_token_kind t.kind tokens.Number))

-- a text in quotes; it gives what stands between them
abbrev pub quoted : Rule (List ℕ)
quoted = mapped (λ t. t.text) (token_where (λ t. same_token_kind t.kind tokens.Text))

-- what a rule gives, where the function makes something of it
abbrev pub made_by : {A B : Type 0} → (A → Option B) → Rule A → Rule B
made_by f r ts = option_case (r ts) None (λ p. option_map (λ x. (x, p.1)) (f p.0))

-- ---- lists and brackets

-- the grammar's `r {, r}`: one or more, with commas between
abbrev pub listed : {A : Type 0} → Rule A → Rule (List A)
listed r = r >>= (λ x. many (mark (codes ",") >> r) >>= (λ xs. gives (x ∷ xs)))

-- the grammar's `(r)`: the rule between brackets
abbrev pub bracketed : {A : Type 0} → Rule A → Rule A
bracketed r = mark (codes "(") >> r >>= (λ x. mark (codes ")") >> gives x)

-- a list that may be left out, and is empty then
abbrev pub optional_list : {A : Type 0} → Rule (List A) → Rule (List A)
optional_list r = mapped (λ o. unwrap_or o []) (maybe r)

-- what the rule gives where it reads all of the tokens
abbrev pub whole : {A : Type 0} → Rule A → List Token → Option A
whole r ts = option_case (r ts) None (λ p. where_true (is_empty p.1) p.0)

-- ---- quotes

-- a quote stands twice within a text
abbrev pub doubled : ℕ → List ℕ
doubled b = cond (b == 39) (39 ∷ 39 ∷ []) (b ∷ [])
