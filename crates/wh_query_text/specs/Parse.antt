-- How what the code reads has to do with the rules of the grammar.
use Rattle.std.specs.Prelude.{◌≡◌, List, [], ◌∷◌, Option, Some, None, Result, Ok, Err, ⊤}
use Rattle.wh_base.specs.declared.tokens.Token.{Token}
use Rattle.wh_base.specs.declared.tokens.TokenKind.TheVariants as kinds
use Rattle.wh_query_text.specs.declared.parser.ParseFault.{ParseFault}
use Rattle.wh_query_text.specs.declared.parser.ParseFault.TheVariants as faults

-- what the code gives, with the tokens that it leaves, is what the rule gives; a syntax fault says that the rule doesn't
-- read, and want of memory says nothing
abbrev pub Gives : {X : Type 0} → Result X ParseFault → List Token → Option (X × List Token) → Type 0
Gives (Ok x) left read = read ≡ Some (x, left)
Gives (Err faults.Memory) left read = Unit {0}
Gives (Err faults.Syntax) left read = read ≡ None

-- the next token, or a mark of no bytes where none is left
abbrev pub next_token : List Token → Token
next_token [] = record { kind = kinds.Mark; text = []; start = 0; end = 0 }
next_token (t ∷ ts) = t

-- the rule takes the next token where the code does, and else neither takes any
abbrev pub Takes : Result ⊤ ParseFault → List Token → List Token → Option (Token × List Token) → Type 0
Takes (Ok u) old left read = read ≡ Some (next_token old, left)
Takes (Err faults.Memory) old left read = ⊥
Takes (Err faults.Syntax) old left read = (read ≡ None) × (left ≡ old)
