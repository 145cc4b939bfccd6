-- What each query has that the grammar gives for the tokens of a text, in the words of the language.
use Rattle.std.specs.Char.{is_ascii_alphabetic, is_ascii_digit, to_ascii_uppercase}
use Rattle.std.specs.List.{list_all}
use Rattle.std.specs.Prelude.{Bool, List, None, Option, Some, [], codes, false, length, nat_abs, nat_lt, negsuc, not, pos, true, ℕ, ℤ, ◌&&◌, ◌<◌, ◌==◌, ◌^◌, ◌∷◌, ◌≡◌}
use Rattle.wh_base.specs.Days.{is_day}
use Rattle.wh_base.specs.Lists.{has_text}
use Rattle.wh_base.specs.declared.queries.ColName.{ColName}
use Rattle.wh_base.specs.declared.queries.NamePart.{NamePart}
use Rattle.wh_base.specs.declared.queries.NamePart.TheVariants.{MarkName, Plain, RowIdName}
use Rattle.wh_base.specs.declared.queries.RawAgg.{RawAgg}
use Rattle.wh_base.specs.declared.queries.RawAgg.TheVariants.{AvgOf, CountOf, CountRows, MaxOf, MinOf, SumOf}
use Rattle.wh_base.specs.declared.queries.RawCondition.{RawCondition}
use Rattle.wh_base.specs.declared.queries.RawCondition.TheVariants as raw
use Rattle.wh_base.specs.declared.queries.RawExpr.{RawExpr}
use Rattle.wh_base.specs.declared.queries.RawExpr.TheVariants.{Column, Constant, Times}
use Rattle.wh_base.specs.declared.queries.RawItem.{RawItem}
use Rattle.wh_base.specs.declared.queries.RawJoin.{RawJoin}
use Rattle.wh_base.specs.declared.queries.RawKey.{RawKey}
use Rattle.wh_base.specs.declared.queries.RawOrder.{RawOrder}
use Rattle.wh_base.specs.declared.queries.RawOrder.TheVariants as order
use Rattle.wh_base.specs.declared.queries.RawQuery.{RawQuery}
use Rattle.wh_base.specs.declared.queries.RawTable.{RawTable}
use Rattle.wh_base.specs.declared.queries.RawTest.{RawTest}
use Rattle.wh_base.specs.declared.queries.RawWhat.{RawWhat}
use Rattle.wh_base.specs.declared.queries.RawWhat.TheVariants as what
use Rattle.wh_base.specs.declared.values.Literal.{Literal}
use Rattle.wh_base.specs.declared.values.Literal.TheVariants.{Dated, Number, Quoted}
use Rattle.wh_lex.specs.Tokens.{is_name_byte}
use Rattle.wh_base.specs.declared.tokens.Token.{Token}
use Rattle.wh_base.specs.declared.tokens.TokenKind.{TokenKind}
use Rattle.wh_base.specs.declared.tokens.TokenKind.TheVariants as tokens
use Rattle.def_grammar.specs.Forms.{text_tokens}
use Rattle.def_grammar.specs.Query.{select}
use Rattle.def_grammar.specs.Reading.{reserved, whole}

-- ---- the texts that tokens have

-- a byte of a name, in upper case
abbrev pub is_folded : ℕ → Bool
is_folded b = is_name_byte b && to_ascii_uppercase b == b

-- at most 30 bytes of a name, of which the first is a letter
abbrev pub is_identifier : List ℕ → Bool
is_identifier [] = false
is_identifier (b ∷ bs) = is_ascii_alphabetic b && (list_all is_folded (b ∷ bs) && nat_lt (length bs) 30)

-- one digit or more, at most 38
abbrev pub is_numeral : List ℕ → Bool
is_numeral [] = false
is_numeral (b ∷ bs) = list_all is_ascii_digit (b ∷ bs) && nat_lt (length bs) 38

-- no line ends in it
abbrev pub is_line : List ℕ → Bool
is_line text = list_all (λ b. not (b == 10)) text

abbrev pub marks : List (List ℕ)
marks =
    codes "(" ∷ codes ")" ∷ codes "," ∷ codes "." ∷ codes ";" ∷ codes "*" ∷ codes "=" ∷ codes "+" ∷ codes "-" ∷ codes "?"
    ∷ codes "<" ∷ codes "<>" ∷ codes "<=" ∷ codes ">" ∷ codes ">=" ∷ codes "!=" ∷ []

-- a text may have tokens of this kind with this text
abbrev pub is_spelling : TokenKind → List ℕ → Bool
is_spelling tokens.Name text = is_identifier text
is_spelling tokens.Number text = is_numeral text
is_spelling tokens.Text text = is_line text
is_spelling tokens.Mark text = has_text marks text

-- a token that a text may have
abbrev pub IsSpelled : Token → Type 0
IsSpelled t = is_spelling t.kind t.text ≡ true

-- ---- the parts of a query

-- P holds of each item
abbrev pub Each : {A : Type 0} → (A → Type 0) → List A → Type 0
Each P [] = Unit {0}
Each P (x ∷ xs) = P x × Each P xs

-- P holds of each item, and there is one
abbrev pub EachOfSome : {A : Type 0} → (A → Type 0) → List A → Type 0
EachOfSome P [] = ⊥
EachOfSome P (x ∷ xs) = P x × Each P xs

-- P holds of what is there
abbrev pub IfThere : {A : Type 0} → (A → Type 0) → Option A → Type 0
IfThere P None = Unit {0}
IfThere P (Some x) = P x

-- a name: an identifier that is no word of the language
abbrev pub IsName : List ℕ → Type 0
IsName n = (is_identifier n ≡ true) × (has_text reserved n ≡ false)

-- a number of at most 38 digits, with or without a minus
abbrev pub IsSigned : ℤ → Type 0
IsSigned z = nat_abs z < 10 ^ 38

-- a number of at most 38 digits without a sign
abbrev pub IsUnsigned : ℤ → Type 0
IsUnsigned (pos n) = n < 10 ^ 38
IsUnsigned (negsuc n) = ⊥

abbrev pub IsLiteral : Literal → Type 0
IsLiteral (Number z) = IsSigned z
IsLiteral (Quoted text) = is_line text ≡ true
IsLiteral (Dated n) = is_day n ≡ true

abbrev pub IsNamePart : NamePart → Type 0
IsNamePart (Plain n) = IsName n
IsNamePart RowIdName = Unit {0}
IsNamePart MarkName = Unit {0}

abbrev pub IsColumn : ColName → Type 0
IsColumn c = IfThere IsName c.qualifier × IsNamePart c.part

abbrev pub IsExpression : RawExpr → Type 0
IsExpression (Column c) = IsColumn c
IsExpression (Times c d) = IsColumn c × IsColumn d
IsExpression (Constant z) = IsSigned z

abbrev pub IsAggregate : RawAgg → Type 0
IsAggregate CountRows = Unit {0}
IsAggregate (CountOf e) = IsExpression e
IsAggregate (SumOf e) = IsExpression e
IsAggregate (AvgOf e) = IsExpression e
IsAggregate (MinOf e) = IsExpression e
IsAggregate (MaxOf e) = IsExpression e

abbrev pub IsWhat : RawWhat → Type 0
IsWhat (what.Plain c) = IsColumn c
IsWhat (what.Computed a) = IsAggregate a

abbrev pub IsItem : RawItem → Type 0
IsItem i = IsWhat i.what × IfThere IsName i.alias

abbrev pub IsJoin : RawJoin → Type 0
IsJoin j = IsColumn j.left × IsColumn j.right

abbrev pub IsTable : RawTable → Type 0
IsTable t = IsName t.table × IfThere IsName t.alias × IfThere IsJoin t.on

-- one table or more, of which the first isn't joined
abbrev pub AreTables : List RawTable → Type 0
AreTables [] = ⊥
AreTables (t ∷ ts) = IsTable t × (t.on ≡ None) × Each IsTable ts

abbrev pub IsCondition : RawCondition → Type 0
IsCondition (raw.Compare c o l) = IsColumn c × IsLiteral l
IsCondition (raw.Between c l m) = IsColumn c × IsLiteral l × IsLiteral m
IsCondition (raw.Equal c d) = IsColumn c × IsColumn d
IsCondition (raw.OneOf c ls) = IsColumn c × EachOfSome IsLiteral ls
IsCondition (raw.IsNull c) = IsColumn c
IsCondition (raw.NotNull c) = IsColumn c

abbrev pub IsTest : RawTest → Type 0
IsTest t = IsAggregate t.agg × IsLiteral t.literal

abbrev pub IsOrder : RawOrder → Type 0
IsOrder (order.Position z) = IsUnsigned z
IsOrder (order.Column c) = IsColumn c
IsOrder (order.Computed a) = IsAggregate a

abbrev pub IsKey : RawKey → Type 0
IsKey k = IsOrder k.what

-- a query that can be written
pub record IsWritten (q : RawQuery) : Type 0 where
  pub items : EachOfSome IsItem q.items
  pub tables : AreTables q.tables
  pub as_of : IfThere IsUnsigned q.as_of
  pub conditions : Each IsCondition q.conditions
  pub groups : Each IsColumn q.groups
  pub having : Each IsTest q.having
  pub order : Each IsKey q.order

-- the text has tokens, and they are this query and nothing more
abbrev pub ReadsAs : List ℕ → RawQuery → Type 0
ReadsAs text q = whole select (text_tokens text) ≡ Some q
