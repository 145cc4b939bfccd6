-- The name that a text is, by the tokens of its first statement.
use Rattle.std.specs.Prelude.{List, None, Option, codes, cond, is_none, length, ℕ, ◌==◌}
use Rattle.def_grammar.specs.Reading.{Rule, name, whole, word, ◌or◌}
use Rattle.wh_base.specs.Lists.{option_case, where_true}
use Rattle.wh_lex.specs.declared.lex.StatementTokens.{StatementTokens}
use Rattle.wh_base.specs.declared.tokens.Token.{Token}

-- the name that the tokens are, where no semicolon stands and it has so many bytes
abbrev pub only_name : StatementTokens → ℕ → Option (List ℕ)
only_name s len = cond (is_none s.closed) (option_case (whole name s.tokens) None (λ n. where_true (length n == len) n)) None

-- EXECUTE | EXEC
abbrev pub execute_word : Rule Token
execute_word = word (codes "EXECUTE") or word (codes "EXEC")
