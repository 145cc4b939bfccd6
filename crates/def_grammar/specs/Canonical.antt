-- The canonical text of a query: the tokens of each of its parts, and how tokens are laid out as a text.
use Rattle.std.specs.Prelude.{Bool, List, None, Option, Some, [], codes, cond, decimal, false, flat_map, not, suc, true, ℕ, ℤ, ◌&&◌, ◌++◌, ◌∷◌, ◌||◌, pos, negsuc}
use Rattle.wh_base.specs.Days.{day_text}
use Rattle.wh_base.specs.declared.queries.ColName.{ColName}
use Rattle.wh_base.specs.declared.queries.NamePart.{NamePart}
use Rattle.wh_base.specs.declared.queries.NamePart.TheVariants.{MarkName, Plain, RowIdName}
use Rattle.wh_base.specs.declared.queries.RawAgg.{RawAgg}
use Rattle.wh_base.specs.declared.queries.RawAgg.TheVariants.{AvgOf, CountOf, CountRows, MaxOf, MinOf, SumOf}
use Rattle.wh_base.specs.declared.queries.RawCondition.{RawCondition}
use Rattle.wh_base.specs.declared.queries.RawCondition.TheVariants as raw
use Rattle.wh_base.specs.declared.queries.RawExpr.{RawExpr}
use Rattle.wh_base.specs.declared.queries.RawExpr.TheVariants.{Column, Constant, Times}
use Rattle.wh_base.specs.declared.queries.RawItem.{RawItem}
use Rattle.wh_base.specs.declared.queries.RawJoin.{RawJoin}
use Rattle.wh_base.specs.declared.queries.RawKey.{RawKey}
use Rattle.wh_base.specs.declared.queries.RawOrder.{RawOrder}
use Rattle.wh_base.specs.declared.queries.RawOrder.TheVariants as order
use Rattle.wh_base.specs.declared.queries.RawQuery.{RawQuery}
use Rattle.wh_base.specs.declared.queries.RawTable.{RawTable}
use Rattle.wh_base.specs.declared.queries.RawTest.{RawTest}
use Rattle.wh_base.specs.declared.queries.RawWhat.{RawWhat}
use Rattle.wh_base.specs.declared.queries.RawWhat.TheVariants as what
use Rattle.wh_base.specs.declared.values.Literal.{Literal}
use Rattle.wh_base.specs.declared.values.Literal.TheVariants.{Dated, Number, Quoted}
use Rattle.wh_base.specs.declared.values.Op.{Op}
use Rattle.wh_base.specs.declared.values.Op.TheVariants.{Eq, Ge, Gt, Le, Lt, Ne}
use Rattle.wh_base.specs.declared.tokens.Token.{Token}
use Rattle.wh_base.specs.declared.tokens.TokenKind.{TokenKind}
use Rattle.wh_base.specs.declared.tokens.TokenKind.TheVariants as tokens
use Rattle.def_grammar.specs.Reading.{doubled, is_token, same_token_kind}

-- ---- tokens of no place

abbrev pub bare : TokenKind → List ℕ → Token
bare kind text = record { kind = kind; text = text; start = 0; end = 0 }

-- a name or a keyword
abbrev pub named : List ℕ → List Token
named text = bare tokens.Name text ∷ []

abbrev pub marked : List ℕ → List Token
marked text = bare tokens.Mark text ∷ []

abbrev pub numbered : ℕ → List Token
numbered n = bare tokens.Number (decimal n) ∷ []

-- ---- the tokens of each part of a query, rule by rule of the grammar

abbrev pub signed_tokens : ℤ → List Token
signed_tokens (pos n) = numbered n
signed_tokens (negsuc n) = marked (codes "-") ++ numbered (suc n)

abbrev pub literal_tokens : Literal → List Token
literal_tokens (Number z) = signed_tokens z
literal_tokens (Quoted text) = bare tokens.Text text ∷ []
literal_tokens (Dated n) = named (codes "DATE") ++ bare tokens.Text (day_text n) ∷ []

abbrev pub qualifier_tokens : Option (List ℕ) → List Token
qualifier_tokens None = []
qualifier_tokens (Some n) = named n ++ marked (codes ".")

-- what stands behind the qualifier, and before it for a marker
abbrev pub part_tokens : NamePart → List Token → List Token
part_tokens (Plain n) q = q ++ named n
part_tokens RowIdName q = q ++ named (codes "ROWID")
part_tokens MarkName q = named (codes "DBMS_MVIEW") ++ (marked (codes ".") ++ (named (codes "PMARKER") ++ (marked (codes "(") ++ (q ++ (named (codes "ROWID") ++ marked (codes ")"))))))

abbrev pub column_tokens : ColName → List Token
column_tokens c = part_tokens c.part (qualifier_tokens c.qualifier)

abbrev pub expression_tokens : RawExpr → List Token
expression_tokens (Column c) = column_tokens c
expression_tokens (Times c d) = column_tokens c ++ (marked (codes "*") ++ column_tokens d)
expression_tokens (Constant z) = signed_tokens z

-- an aggregate of this keyword
abbrev pub call_tokens : List ℕ → List Token → List Token
call_tokens w inner = named w ++ (marked (codes "(") ++ (inner ++ marked (codes ")")))

abbrev pub aggregate_tokens : RawAgg → List Token
aggregate_tokens CountRows = call_tokens (codes "COUNT") (marked (codes "*"))
aggregate_tokens (CountOf e) = call_tokens (codes "COUNT") (expression_tokens e)
aggregate_tokens (SumOf e) = call_tokens (codes "SUM") (expression_tokens e)
aggregate_tokens (AvgOf e) = call_tokens (codes "AVG") (expression_tokens e)
aggregate_tokens (MinOf e) = call_tokens (codes "MIN") (expression_tokens e)
aggregate_tokens (MaxOf e) = call_tokens (codes "MAX") (expression_tokens e)

abbrev pub what_tokens : RawWhat → List Token
what_tokens (what.Plain c) = column_tokens c
what_tokens (what.Computed a) = aggregate_tokens a

-- the alias of an item stands behind AS
abbrev pub alias_tokens : Option (List ℕ) → List Token
alias_tokens None = []
alias_tokens (Some n) = named (codes "AS") ++ named n

abbrev pub item_tokens : RawItem → List Token
item_tokens i = what_tokens i.what ++ alias_tokens i.alias

-- the items but the first, each behind these tokens
abbrev pub more_tokens : {A : Type 0} → List Token → (A → List Token) → List A → List Token
more_tokens before f xs = flat_map (λ x. before ++ f x) xs

-- one or more, with these tokens between
abbrev pub listed_tokens : {A : Type 0} → List Token → (A → List Token) → List A → List Token
listed_tokens between f [] = []
listed_tokens between f (x ∷ xs) = f x ++ more_tokens between f xs

abbrev pub comma : List Token
comma = marked (codes ",")

abbrev pub and : List Token
and = named (codes "AND")

-- the alias of a table stands behind its name
abbrev pub table_alias_tokens : Option (List ℕ) → List Token
table_alias_tokens None = []
table_alias_tokens (Some n) = named n

abbrev pub table_tokens : RawTable → List Token
table_tokens t = named t.table ++ table_alias_tokens t.alias

-- another table of FROM: behind a comma, or joined
abbrev pub joined_tokens : Option RawJoin → List Token → List Token
joined_tokens None t = comma ++ t
joined_tokens (Some j) t = named (codes "JOIN") ++ (t ++ (named (codes "ON") ++ (column_tokens j.left ++ (marked (codes "=") ++ column_tokens j.right))))

abbrev pub another_table_tokens : RawTable → List Token
another_table_tokens t = joined_tokens t.on (table_tokens t)

abbrev pub from_tokens : List RawTable → List Token
from_tokens [] = []
from_tokens (t ∷ ts) = table_tokens t ++ flat_map another_table_tokens ts

abbrev pub op_text : Op → List ℕ
op_text Eq = codes "="
op_text Ne = codes "<>"
op_text Lt = codes "<"
op_text Le = codes "<="
op_text Gt = codes ">"
op_text Ge = codes ">="

-- the column that a condition is on
abbrev pub condition_column : RawCondition → ColName
condition_column (raw.Compare c o l) = c
condition_column (raw.Between c l m) = c
condition_column (raw.Equal c d) = c
condition_column (raw.OneOf c ls) = c
condition_column (raw.IsNull c) = c
condition_column (raw.NotNull c) = c

-- what stands behind that column
abbrev pub condition_tail_tokens : RawCondition → List Token
condition_tail_tokens (raw.Compare c o l) = marked (op_text o) ++ literal_tokens l
condition_tail_tokens (raw.Between c l m) = named (codes "BETWEEN") ++ (literal_tokens l ++ (and ++ literal_tokens m))
condition_tail_tokens (raw.Equal c d) = marked (codes "=") ++ column_tokens d
condition_tail_tokens (raw.OneOf c ls) = named (codes "IN") ++ (marked (codes "(") ++ (listed_tokens comma literal_tokens ls ++ marked (codes ")")))
condition_tail_tokens (raw.IsNull c) = named (codes "IS") ++ named (codes "NULL")
condition_tail_tokens (raw.NotNull c) = named (codes "IS") ++ (named (codes "NOT") ++ named (codes "NULL"))

abbrev pub condition_tokens : RawCondition → List Token
condition_tokens c = column_tokens (condition_column c) ++ condition_tail_tokens c

abbrev pub test_tokens : RawTest → List Token
test_tokens t = aggregate_tokens t.agg ++ (marked (op_text t.op) ++ literal_tokens t.literal)

-- a position that isn't negative, as each one that is written
abbrev pub order_tokens : RawOrder → List Token
order_tokens (order.Position z) = signed_tokens z
order_tokens (order.Column c) = column_tokens c
order_tokens (order.Computed a) = aggregate_tokens a

abbrev pub direction_tokens : Bool → List Token
direction_tokens true = named (codes "DESC")
direction_tokens false = []

abbrev pub key_tokens : RawKey → List Token
key_tokens k = order_tokens k.what ++ direction_tokens k.descending

abbrev pub as_of_tokens : Option ℤ → List Token
as_of_tokens None = []
as_of_tokens (Some z) = named (codes "AS") ++ (named (codes "OF") ++ (named (codes "SCN") ++ signed_tokens z))

-- a part with its keywords, and nothing where the list is empty
abbrev pub clause_tokens : {A : Type 0} → List Token → List Token → (A → List Token) → List A → List Token
clause_tokens keywords between f [] = []
clause_tokens keywords between f (x ∷ xs) = keywords ++ listed_tokens between f (x ∷ xs)

abbrev pub where_tokens : List RawCondition → List Token
where_tokens cs = clause_tokens (named (codes "WHERE")) and condition_tokens cs

abbrev pub group_tokens : List ColName → List Token
group_tokens cs = clause_tokens (named (codes "GROUP") ++ named (codes "BY")) comma column_tokens cs

abbrev pub having_tokens : List RawTest → List Token
having_tokens ts = clause_tokens (named (codes "HAVING")) and test_tokens ts

abbrev pub order_by_tokens : List RawKey → List Token
order_by_tokens ks = clause_tokens (named (codes "ORDER") ++ named (codes "BY")) comma key_tokens ks

abbrev pub query_tokens : RawQuery → List Token
query_tokens q =
    named (codes "SELECT") ++ (listed_tokens comma item_tokens q.items ++ (named (codes "FROM") ++ (from_tokens q.tables
    ++ (as_of_tokens q.as_of ++ (where_tokens q.conditions ++ (group_tokens q.groups ++ (having_tokens q.having ++ order_by_tokens q.order)))))))

-- ---- tokens as a text

-- no space stands behind such a token
abbrev pub is_opening : Token → Bool
is_opening t = is_token tokens.Mark (codes "(") t || is_token tokens.Mark (codes ".") t

-- no space stands before such a token
abbrev pub is_closing : Token → Bool
is_closing t = is_token tokens.Mark (codes ",") t || is_token tokens.Mark (codes ".") t || is_token tokens.Mark (codes ")") t

-- a call: a parenthesis behind a word other than IN
abbrev pub is_call : Token → Token → Bool
is_call t u = is_token tokens.Mark (codes "(") u && same_token_kind t.kind tokens.Name && not (is_token tokens.Name (codes "IN") t)

-- a minus and its number
abbrev pub is_negative : Token → Token → Bool
is_negative t u = is_token tokens.Mark (codes "-") t && same_token_kind u.kind tokens.Number

-- the second of these tokens stands right behind the first, with no space between
abbrev pub is_joined : Token → Token → Bool
is_joined t u = is_opening t || is_closing u || is_call t u || is_negative t u

-- what stands between two tokens
abbrev pub gap : Token → Token → List ℕ
gap t u = cond (is_joined t u) [] (32 ∷ [])

-- a text between quotes, each quote in it written twice
abbrev pub quoted_text : List ℕ → List ℕ
quoted_text text = 39 ∷ flat_map doubled text ++ 39 ∷ []

-- a token as it is written
abbrev pub written_token : Token → List ℕ
written_token t = cond (same_token_kind t.kind tokens.Text) (quoted_text t.text) t.text

-- tokens behind this one
abbrev pub laid_behind : Token → List Token → List ℕ
laid_behind t [] = []
laid_behind t (u ∷ us) = gap t u ++ (written_token u ++ laid_behind u us)

-- tokens as a text, with spaces where SQL is usually written with one
abbrev pub laid : List Token → List ℕ
laid [] = []
laid (t ∷ ts) = written_token t ++ laid_behind t ts

-- the canonical text of a query
unfoldable pub query_text : RawQuery → List ℕ
query_text q = laid (query_tokens q)
