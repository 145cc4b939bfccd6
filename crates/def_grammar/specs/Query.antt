-- The grammar of a SELECT, and of the literals and conditions that other statements share. Each rule stands below its line
-- of the grammar: `[r]` may be left out, `{r}` stands any number of times, `a | b` is one of both.
use Rattle.std.specs.Prelude.{List, None, Option, Some, codes, false, neg_ℤ, option_map, pos, true, ℕ, ℤ, ◌∷◌}
use Rattle.wh_base.specs.DayTexts.{day_of}
use Rattle.wh_base.specs.declared.queries.ColName.{ColName}
use Rattle.wh_base.specs.declared.queries.NamePart.{NamePart}
use Rattle.wh_base.specs.declared.queries.NamePart.TheVariants.{MarkName, Plain, RowIdName}
use Rattle.wh_base.specs.declared.queries.RawAgg.{RawAgg}
use Rattle.wh_base.specs.declared.queries.RawAgg.TheVariants.{AvgOf, CountOf, CountRows, MaxOf, MinOf, SumOf}
use Rattle.wh_base.specs.declared.queries.RawCondition.{RawCondition}
use Rattle.wh_base.specs.declared.queries.RawExpr.{RawExpr}
use Rattle.wh_base.specs.declared.queries.RawExpr.TheVariants.{Column, Constant, Times}
use Rattle.wh_base.specs.declared.queries.RawItem.{RawItem}
use Rattle.wh_base.specs.declared.queries.RawJoin.{RawJoin}
use Rattle.wh_base.specs.declared.queries.RawKey.{RawKey}
use Rattle.wh_base.specs.declared.queries.RawQuery.{RawQuery}
use Rattle.wh_base.specs.declared.queries.RawTable.{RawTable}
use Rattle.wh_base.specs.declared.queries.RawTest.{RawTest}
use Rattle.wh_base.specs.declared.values.Literal.{Literal}
use Rattle.wh_base.specs.declared.values.Literal.TheVariants.{Dated, Number, Quoted}
use Rattle.wh_base.specs.declared.values.Op.{Op}
use Rattle.wh_base.specs.declared.values.Op.TheVariants.{Eq, Ge, Gt, Le, Lt, Ne}
use Rattle.def_grammar.specs.Reading.{Rule, bracketed, gives, listed, made_by, many, mapped, mark, maybe, name, number, optional_list, quoted, word, ◌>>=◌, ◌>>◌, ◌or◌}
use Rattle.wh_base.specs.declared.queries.RawWhat.TheVariants as what
use Rattle.wh_base.specs.declared.queries.RawCondition.TheVariants as raw
use Rattle.wh_base.specs.declared.queries.RawOrder.TheVariants as order

-- signed = [-] number
abbrev pub signed : Rule ℤ
signed = (mark (codes "-") >> mapped (λ n. neg_ℤ (pos n)) number) or mapped pos number

-- date = DATE text, where the text is YYYY-MM-DD and names a day of the calendar
abbrev pub date : Rule Literal
date = word (codes "DATE") >> made_by (λ text. option_map Dated (day_of text)) quoted

-- literal = [-] number | text | date
abbrev pub literal : Rule Literal
literal = mapped Number signed or mapped Quoted quoted or date

-- qualifier = [name .]
abbrev pub qualifier : Rule (Option (List ℕ))
qualifier = maybe (name >>= (λ n. mark (codes ".") >> gives n))

abbrev pub column_named_by : Option (List ℕ) → NamePart → ColName
column_named_by q p = record { qualifier = q; part = p }

-- rowid = [name .] ROWID, read as ROWID itself or as the ROWID in a PMARKER
abbrev pub rowid_as : NamePart → Rule ColName
rowid_as p = do
  q ← qualifier
  word (codes "ROWID")
  gives (column_named_by q p)

-- marker = DBMS_MVIEW . PMARKER ( rowid )
abbrev pub marker : Rule ColName
marker = do
  word (codes "DBMS_MVIEW")
  mark (codes ".")
  word (codes "PMARKER")
  bracketed (rowid_as MarkName)

-- [name .] name
abbrev pub plain_name : Rule ColName
plain_name = do
  q ← qualifier
  n ← name
  gives (column_named_by q (Plain n))

-- column = marker | rowid | [name .] name
abbrev pub column : Rule ColName
column = marker or rowid_as RowIdName or plain_name

-- a column by itself, or times another
abbrev pub product_or_column : ColName → Option ColName → RawExpr
product_or_column a None = Column a
product_or_column a (Some b) = Times a b

-- expr = signed | column [* column]
abbrev pub expression : Rule RawExpr
expression = mapped Constant signed or (do
  a ← column
  b ← maybe (mark (codes "*") >> column)
  gives (product_or_column a b))

-- an aggregate with this keyword
abbrev pub aggregate_of : List ℕ → (RawExpr → RawAgg) → Rule RawAgg
aggregate_of w make = word w >> mapped make (bracketed expression)

-- agg = COUNT ( * ) | (COUNT | SUM | AVG | MIN | MAX) ( expr )
abbrev pub aggregate : Rule RawAgg
aggregate =
    mapped (λ _. CountRows) (word (codes "COUNT") >> bracketed (mark (codes "*")))
    or aggregate_of (codes "COUNT") CountOf
    or aggregate_of (codes "SUM") SumOf
    or aggregate_of (codes "AVG") AvgOf
    or aggregate_of (codes "MIN") MinOf
    or aggregate_of (codes "MAX") MaxOf

-- alias = [[AS] name]
abbrev pub alias : Rule (Option (List ℕ))
alias = maybe ((word (codes "AS") >> name) or name)

-- item = (agg | column) alias
abbrev pub item : Rule RawItem
item = do
  w ← mapped what.Computed aggregate or mapped what.Plain column
  a ← alias
  gives (record { what = w; alias = a })

-- join = column = column
abbrev pub join : Rule RawJoin
join = do
  a ← column
  mark (codes "=")
  b ← column
  gives (record { left = a; right = b })

-- on = join | ( join )
abbrev pub on_join : Rule RawJoin
on_join = bracketed join or join

-- a table of FROM with its alias, and what stands after its ON
abbrev pub table_with : Option RawJoin → List ℕ × Option (List ℕ) → RawTable
table_with on p = record { table = p.0; alias = p.1; on = on }

-- table = name [name]
abbrev pub table : Rule (List ℕ × Option (List ℕ))
table = do
  n ← name
  a ← maybe name
  gives (n, a)

-- joined = [INNER] JOIN table ON on
abbrev pub joined_table : Rule RawTable
joined_table = do
  maybe (word (codes "INNER"))
  word (codes "JOIN")
  t ← table
  word (codes "ON")
  j ← on_join
  gives (table_with (Some j) t)

-- from = table {, table | joined}
abbrev pub from_tables : Rule (List RawTable)
from_tables = do
  t ← table
  more ← many (mapped (table_with None) (mark (codes ",") >> table) or joined_table)
  gives (table_with None t ∷ more)

-- a comparison by its mark
abbrev pub op_of : List ℕ → Op → Rule Op
op_of m o = mapped (λ _. o) (mark m)

-- op = '=' | <> | != | <= | < | >= | >
abbrev pub operator : Rule Op
operator =
    op_of (codes "=") Eq or op_of (codes "<>") Ne or op_of (codes "!=") Ne or op_of (codes "<=") Le or op_of (codes "<") Lt
    or op_of (codes ">=") Ge or op_of (codes ">") Gt

-- what stands behind the column of a condition:
-- op literal | BETWEEN literal AND literal | '=' column | IN ( literal {, literal} ) | IS NULL | IS NOT NULL
abbrev pub condition_on : ColName → Rule RawCondition
condition_on c =
    (do
      o ← operator
      l ← literal
      gives (raw.Compare c o l))
    or (do
      word (codes "BETWEEN")
      l ← literal
      word (codes "AND")
      m ← literal
      gives (raw.Between c l m))
    or (do
      mark (codes "=")
      d ← column
      gives (raw.Equal c d))
    or mapped (raw.OneOf c) (word (codes "IN") >> bracketed (listed literal))
    or mapped (λ _. raw.IsNull c) (word (codes "IS") >> word (codes "NULL"))
    or mapped (λ _. raw.NotNull c) (word (codes "IS") >> word (codes "NOT") >> word (codes "NULL"))

-- cond = column and one of these
abbrev pub condition : Rule RawCondition
condition = column >>= condition_on

-- r {AND r}
abbrev pub all_of : {A : Type 0} → Rule A → Rule (List A)
all_of r = do
  x ← r
  xs ← many (word (codes "AND") >> r)
  gives (x ∷ xs)

-- where = [WHERE cond {AND cond}]
abbrev pub where_conditions : Rule (List RawCondition)
where_conditions = optional_list (word (codes "WHERE") >> all_of condition)

-- test = agg op literal
abbrev pub test : Rule RawTest
test = do
  a ← aggregate
  o ← operator
  l ← literal
  gives (record { agg = a; op = o; literal = l })

-- key = (number | agg | column) [ASC | DESC], where a column without a qualifier may also be the alias of an item
abbrev pub order_key : Rule RawKey
order_key = do
  w ← mapped (λ n. order.Position (pos n)) number or mapped order.Computed aggregate or mapped order.Column column
  d ← (word (codes "ASC") >> gives false) or (word (codes "DESC") >> gives true) or gives false
  gives (record { what = w; descending = d })

-- as_of = [AS OF SCN number]
abbrev pub as_of : Rule (Option ℤ)
as_of = maybe (word (codes "AS") >> word (codes "OF") >> word (codes "SCN") >> mapped pos number)

-- select = SELECT item {, item} FROM from as_of where [GROUP BY column {, column}]
--          [HAVING test {AND test}] [ORDER BY key {, key}]
abbrev pub select : Rule RawQuery
select = do
  word (codes "SELECT")
  items ← listed item
  word (codes "FROM")
  tables ← from_tables
  scn ← as_of
  conditions ← where_conditions
  groups ← optional_list (word (codes "GROUP") >> word (codes "BY") >> listed column)
  having ← optional_list (word (codes "HAVING") >> all_of test)
  keys ← optional_list (word (codes "ORDER") >> word (codes "BY") >> listed order_key)
  gives (record { items = items; tables = tables; as_of = scn; conditions = conditions; groups = groups; having = having; order = keys })
