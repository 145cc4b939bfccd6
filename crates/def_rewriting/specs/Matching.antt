-- When the text of a query is the text of a view's definition, token by token.
use Rattle.std.specs.Prelude.{Bool, List, [], codes, cond, false, not, take_while, true, ℕ, ◌&&◌, ◌∷◌}
use Rattle.wh_base.specs.Lists.{same_text}
use Rattle.wh_base.specs.declared.tokens.Token.{Token}
use Rattle.wh_base.specs.declared.tokens.TokenKind.{TokenKind}
use Rattle.wh_base.specs.declared.tokens.TokenKind.TheVariants as tokens

-- Two tokens are both names, both numbers, both quoted texts or both marks.
abbrev pub same_kind : TokenKind → TokenKind → Bool
same_kind tokens.Name tokens.Name = true
same_kind tokens.Number tokens.Number = true
same_kind tokens.Text tokens.Text = true
same_kind tokens.Mark tokens.Mark = true
same_kind _ _ = false

-- Tokens are equal where their kinds are and their texts are; names are folded to upper case when they are read.
abbrev pub same_token : Token → Token → Bool
same_token a b = same_kind a.kind b.kind && same_text a.text b.text

-- The two lists have equal tokens in the same order.
abbrev pub same_tokens : List Token → List Token → Bool
same_tokens [] [] = true
same_tokens [] (b ∷ bs) = false
same_tokens (a ∷ rest) [] = false
same_tokens (a ∷ rest) (b ∷ bs) = same_token a b && same_tokens rest bs

-- The token is this keyword.
abbrev pub is_word : List ℕ → Token → Bool
is_word w t = same_kind t.kind tokens.Name && same_text t.text w

-- The tokens in front of ORDER BY, or all where there is none.
abbrev pub before_order : List Token → List Token
before_order ts = take_while (λ t. not (is_word (codes "ORDER") t)) ts

-- The tokens from FROM on.
abbrev pub from_on : List Token → List Token
from_on [] = []
from_on (t ∷ ts) = cond (is_word (codes "FROM") t) (t ∷ ts) (from_on ts)

-- How a query's text matches the text of a definition.
pub data TextMatch : Type 0 where
  FullText : TextMatch
  PartialText : TextMatch
  NoText : TextMatch

-- Full where the tokens are equal up to ORDER BY; partial where they are equal from FROM on up to ORDER BY.
abbrev pub match_text : List Token → List Token → TextMatch
match_text query view =
    let q = before_order query in
    let v = before_order view in
    cond (same_tokens q v) FullText (cond (same_tokens (from_on q) (from_on v)) PartialText NoText)
