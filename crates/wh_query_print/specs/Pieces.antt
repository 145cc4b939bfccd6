-- What the code writes a query by.
use Rattle.std.specs.Prelude.{List, codes, decimal, ◌++◌}
use Rattle.def_grammar.specs.Canonical.{as_of_tokens, bare, comma, from_tokens, group_tokens, having_tokens, item_tokens, listed_tokens, named, order_by_tokens, where_tokens}
use Rattle.wh_base.specs.declared.queries.RawQuery.{RawQuery}
use Rattle.wh_base.specs.declared.tokens.Token.{Token}
use Rattle.wh_base.specs.declared.tokens.TokenKind.TheVariants as tokens
use Rattle.wh_query_print.specs.declared.pieces.Piece.{Piece}
use Rattle.wh_query_print.specs.declared.pieces.Piece.TheVariants.{Day, Number, Spelled}

-- the token, at no place
abbrev pub piece_token : Piece → Token
piece_token (Spelled kind text) = bare kind text.now
piece_token (Number n) = bare tokens.Number (decimal n)
piece_token (Day text) = bare tokens.Text text

-- SELECT, FROM and AS OF
abbrev pub head_tokens : RawQuery → List Token
head_tokens q = named (codes "SELECT") ++ (listed_tokens comma item_tokens q.items ++ (named (codes "FROM") ++ (from_tokens q.tables ++ as_of_tokens q.as_of)))

-- WHERE and what follows it
abbrev pub tail_tokens : RawQuery → List Token
tail_tokens q = where_tokens q.conditions ++ (group_tokens q.groups ++ (having_tokens q.having ++ order_by_tokens q.order))
