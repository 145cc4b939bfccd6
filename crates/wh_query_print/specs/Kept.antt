-- Tokens without their places.
use Rattle.def_grammar.specs.Canonical.{bare}
use Rattle.wh_base.specs.declared.tokens.Token.{Token}

-- the token without its place
abbrev pub unplaced : Token → Token
unplaced t = bare t.kind t.text
