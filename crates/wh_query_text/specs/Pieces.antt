-- Pieces of the rules of a query that the code reads by themselves.
use Rattle.std.specs.Prelude.{◌≡◌, Err, List, Ok, Option, Result, codes, option_map, ℕ}
use Rattle.def_grammar.specs.Query.{column, expression, product_or_column}
use Rattle.def_grammar.specs.Reading.{Rule, bracketed, gives, mark, maybe, name, word, ◌>>=◌, ◌>>◌}
use Rattle.wh_base.specs.declared.queries.RawExpr.{RawExpr}
use Rattle.wh_base.specs.declared.tokens.Token.{Token}
use Rattle.wh_query_text.specs.declared.parser.ParseFault.{ParseFault}
use Rattle.wh_query_text.specs.declared.parser.ParseFault.TheVariants as faults

-- this value, unless memory ran out
abbrev pub Makes : {X : Type 0} → Result X ParseFault → X → Type 0
Makes (Ok x) wanted = x ≡ wanted
Makes (Err faults.Memory) wanted = Unit {0}
Makes (Err faults.Syntax) wanted = ⊥

-- the keyword, where it is next
abbrev pub word_there : List ℕ → List Token → Option Token
word_there w ts = option_map (λ p. p.0) (word w ts)

-- name .
abbrev pub dotted_name : Rule (List ℕ)
dotted_name = name >>= (λ n. mark (codes ".") >> gives n)

-- column [* column]
abbrev pub column_expression : Rule RawExpr
column_expression = do
  a ← column
  b ← maybe (mark (codes "*") >> column)
  gives (product_or_column a b)

-- a keyword, and an expression in parentheses
abbrev pub argument_of : List ℕ → Rule RawExpr
argument_of w = word w >> bracketed expression
