-- The grammar of the statements. Each rule stands below its line of the grammar, as for a SELECT.
use Rattle.std.specs.List.{list_all, list_any}
use Rattle.std.specs.Prelude.{Bool, Err, List, None, Ok, Option, Result, Some, [], codes, cond, count_by, false, flat_map, is_none, length, map, nat_le, nat_lt, neg_ℤ, not, option_and_then, option_map, pos, reverse, take, true, ℕ, ◌&&◌, ◌-◌, ◌==◌, ◌||◌, ◌∷◌}
use Rattle.wh_base.specs.Lists.{all_there, option_case, where_true}
use Rattle.wh_base.specs.declared.queries.ColName.{ColName}
use Rattle.wh_base.specs.declared.queries.NamePart.{NamePart}
use Rattle.wh_base.specs.declared.queries.NamePart.TheVariants.{MarkName, Plain, RowIdName}
use Rattle.wh_base.specs.declared.queries.RawCondition.{RawCondition}
use Rattle.wh_base.specs.declared.statements.Asked.{Asked}
use Rattle.wh_base.specs.declared.statements.ColumnMark.{ColumnMark}
use Rattle.wh_base.specs.declared.statements.JoinKey.{JoinKey}
use Rattle.wh_base.specs.declared.statements.Level.{Level}
use Rattle.wh_base.specs.declared.statements.Level.TheVariants.{Enforced, StaleTolerated, Trusted}
use Rattle.wh_base.specs.declared.statements.MergeParts.{MergeParts}
use Rattle.wh_base.specs.declared.statements.Method.{Method}
use Rattle.wh_base.specs.declared.statements.Method.TheVariants.{Complete, Fast, Force, Partition}
use Rattle.wh_base.specs.declared.statements.NewAttribute.{NewAttribute}
use Rattle.wh_base.specs.declared.statements.NewHierarchy.{NewHierarchy}
use Rattle.wh_base.specs.declared.statements.NewLevel.{NewLevel}
use Rattle.wh_base.specs.declared.statements.NewRange.{NewRange}
use Rattle.wh_base.specs.declared.statements.NewValue.{NewValue}
use Rattle.wh_base.specs.declared.statements.NewValue.TheVariants.{Given, Moved}
use Rattle.wh_base.specs.declared.statements.PartChange.{PartChange}
use Rattle.wh_base.specs.declared.statements.PartChange.TheVariants.{Add, DropPart, Merge, Movement, Split, Truncate}
use Rattle.wh_base.specs.declared.statements.Partitioning.{Partitioning}
use Rattle.wh_base.specs.declared.statements.RawKind.{RawKind}
use Rattle.wh_base.specs.declared.statements.RawKind.TheVariants.{Bytes, Days, Digits}
use Rattle.wh_base.specs.declared.statements.Reference.{Reference}
use Rattle.wh_base.specs.declared.statements.SetColumn.{SetColumn}
use Rattle.wh_base.specs.declared.statements.SplitPart.{SplitPart}
use Rattle.wh_base.specs.declared.statements.Statement.{Statement}
use Rattle.wh_base.specs.declared.statements.Statement.TheVariants.{ExplainQuery, Refresh, Select}
use Rattle.wh_base.specs.declared.statements.ChangeStatement.TheVariants.{Delete, Insert, Update}
use Rattle.wh_base.specs.declared.statements.TableStatement.TheVariants.{AlterTable, CreateTable}
use Rattle.wh_base.specs.declared.statements.LogStatement.TheVariants.{CreateLog, DropLog}
use Rattle.wh_base.specs.declared.statements.ViewStatement.TheVariants.{AlterView, CreateView, DropView, Unregister}
use Rattle.wh_base.specs.declared.statements.DimensionStatement.TheVariants.{CreateDimension, DropDimension}
use Rattle.wh_base.specs.declared.statements.PurgeStatement.TheVariants.{PurgeLog, PurgeUndo}
use Rattle.wh_base.specs.declared.statements.ShowStatement.TheVariants.{ExplainView, ShowLog, ShowView, ValidateDimension}
use Rattle.wh_base.specs.declared.statements.SessionStatement.TheVariants.{EndReadOnly, ReadOnly, SetLevel, SetRewrite}
use Rattle.wh_base.specs.declared.statements.Statement.TheVariants as about
use Rattle.wh_base.specs.declared.statements.TableColumn.{TableColumn}
use Rattle.wh_base.specs.declared.statements.TablePart.{TablePart}
use Rattle.wh_base.specs.declared.values.Literal.{Literal}
use Rattle.def_grammar.specs.Query.{literal, select, where_conditions}
use Rattle.def_grammar.specs.Reading.{Rule, bracketed, gives, listed, many, mapped, mark, maybe, name, number, optional_list, quoted, whole, word, ◌>>=◌, ◌>>◌, ◌or◌}
use Rattle.wh_lex.specs.Lex.{tokens_of}
use Rattle.wh_lex.specs.declared.lex.LexFault.{LexFault}
use Rattle.wh_base.specs.declared.tokens.Token.{Token}
use Rattle.def_resolve.specs.Names.{condition_names}
use Rattle.wh_base.specs.declared.statements.TablePart.TheVariants as parts
use Rattle.wh_base.specs.declared.statements.ColumnMark.TheVariants as marks

-- these keywords, one after another
abbrev pub all_words : List (List ℕ) → Rule Bool
all_words [] = gives true
all_words (w ∷ ws) = word w >> all_words ws

-- a SELECT, with its tokens
abbrev pub asked : Rule Asked
asked ts = option_map (λ p. (record { query = p.0; tokens = take (length ts - length p.1) ts }, p.1)) (select ts)

-- ---- rows

-- value = literal | NULL, where None is NULL
abbrev pub row_value : Rule (Option Literal)
row_value = mapped (λ _. None) (word (codes "NULL")) or mapped Some literal

-- the column is a name, and not ROWID or PMARKER
abbrev pub is_plain_part : NamePart → Bool
is_plain_part (Plain n) = true
is_plain_part RowIdName = false
is_plain_part MarkName = false

-- the column is a name without a qualifier
abbrev pub is_plain_name : ColName → Bool
is_plain_name c = is_none c.qualifier && is_plain_part c.part

-- where, in which each column is a name without a qualifier, as UPDATE and DELETE have it
abbrev pub own_conditions : Rule (List RawCondition)
own_conditions ts = option_case (where_conditions ts) None (λ p. where_true (list_all is_plain_name (flat_map condition_names p.0)) p)

-- insert = INSERT INTO name [( name {, name} )] VALUES row {, row}, where row = ( value {, value} )
abbrev pub insert : Rule Statement
insert = do
  all_words (codes "INSERT" ∷ codes "INTO" ∷ [])
  t ← name
  columns ← maybe (bracketed (listed name))
  word (codes "VALUES")
  rows ← listed (bracketed (listed row_value))
  gives (about.Change (Insert (record { table = t; columns = columns; rows = rows })))

-- new = value | name (+ | -) number
abbrev pub new_value : Rule NewValue
new_value = mapped Given row_value or (do
  c ← name
  n ← (mark (codes "+") >> mapped pos number) or (mark (codes "-") >> mapped (λ n. neg_ℤ (pos n)) number)
  gives (Moved c n))

-- set = name = new
abbrev pub set_column : Rule SetColumn
set_column = do
  c ← name
  mark (codes "=")
  v ← new_value
  gives (record { column = c; value = v })

-- update = UPDATE name SET set {, set} where
abbrev pub update : Rule Statement
update = do
  word (codes "UPDATE")
  t ← name
  word (codes "SET")
  sets ← listed set_column
  conditions ← own_conditions
  gives (about.Change (Update (record { table = t; sets = sets; conditions = conditions })))

-- delete = DELETE [FROM] name where
abbrev pub delete : Rule Statement
delete = do
  word (codes "DELETE")
  maybe (word (codes "FROM"))
  t ← name
  conditions ← own_conditions
  gives (about.Change (Delete (record { table = t; conditions = conditions })))

-- dml = insert | update | delete
abbrev pub dml : Rule Statement
dml = insert or update or delete

-- ---- tables

-- kind = NUMBER [( number )] | VARCHAR2 ( number ) | DATE
abbrev pub kind : Rule RawKind
kind = mapped Digits (word (codes "NUMBER") >> maybe (bracketed (mapped pos number))) or mapped Bytes (word (codes "VARCHAR2") >> bracketed (mapped pos number))
    or mapped (λ _. Days) (word (codes "DATE"))

-- ref = REFERENCES name [( name )] [RELY DISABLE NOVALIDATE | ENABLE VALIDATE]; without either it is enabled and validated
abbrev pub reference : Rule Reference
reference = do
  word (codes "REFERENCES")
  t ← name
  c ← maybe (bracketed name)
  rely ← (all_words (codes "RELY" ∷ codes "DISABLE" ∷ codes "NOVALIDATE" ∷ []) >> gives true)
      or (all_words (codes "ENABLE" ∷ codes "VALIDATE" ∷ []) >> gives false)
      or gives false
  gives (record { table = t; column = c; rely = rely })

-- [CONSTRAINT name], which is read and not kept
abbrev pub constraint_name : Rule (Option (List ℕ))
constraint_name = maybe (word (codes "CONSTRAINT") >> name)

-- mark = NOT NULL | PRIMARY KEY | UNIQUE | ref
abbrev pub column_mark : Rule ColumnMark
column_mark =
    mapped (λ _. marks.NotNull) (all_words (codes "NOT" ∷ codes "NULL" ∷ []))
    or mapped (λ _. marks.PrimaryKey) (all_words (codes "PRIMARY" ∷ codes "KEY" ∷ []))
    or mapped (λ _. marks.Unique) (word (codes "UNIQUE"))
    or mapped marks.References reference

-- part = name kind {[CONSTRAINT name] mark}
--      | [CONSTRAINT name] (PRIMARY KEY | UNIQUE) ( name )
--      | [CONSTRAINT name] FOREIGN KEY ( name ) ref
abbrev pub new_column_part : Rule TablePart
new_column_part = do
  n ← name
  k ← kind
  ms ← many (constraint_name >> column_mark)
  gives (parts.Column (record { name = n; kind = k; marks = ms }))

abbrev pub key_part : Rule TablePart
key_part = do
  constraint_name
  primary ← (all_words (codes "PRIMARY" ∷ codes "KEY" ∷ []) >> gives true) or (word (codes "UNIQUE") >> gives false)
  c ← bracketed name
  gives (parts.Key (record { column = c; primary = primary }))

abbrev pub foreign_part : Rule TablePart
foreign_part = do
  constraint_name
  all_words (codes "FOREIGN" ∷ codes "KEY" ∷ [])
  c ← bracketed name
  r ← reference
  gives (parts.Foreign (record { column = c; reference = r }))

-- range = PARTITION name VALUES LESS THAN ( literal | MAXVALUE )
abbrev pub range : Rule NewRange
range = do
  word (codes "PARTITION")
  n ← name
  all_words (codes "VALUES" ∷ codes "LESS" ∷ codes "THAN" ∷ [])
  b ← bracketed (mapped (λ _. None) (word (codes "MAXVALUE")) or mapped Some literal)
  gives (record { name = n; below = b })

-- PARTITION BY RANGE ( name ) ( range {, range} )
abbrev pub partitioning : Rule Partitioning
partitioning = do
  all_words (codes "PARTITION" ∷ codes "BY" ∷ codes "RANGE" ∷ [])
  c ← bracketed name
  rs ← bracketed (listed range)
  gives (record { column = c; ranges = rs })

-- [ENABLE ROW MOVEMENT], behind partitions alone
abbrev pub movement_behind : Option Partitioning → Rule Bool
movement_behind None = gives false
movement_behind (Some p) = (all_words (codes "ENABLE" ∷ codes "ROW" ∷ codes "MOVEMENT" ∷ []) >> gives true) or gives false

-- CREATE TABLE name ( part {, part} ) [PARTITION BY .. [ENABLE ROW MOVEMENT]]
abbrev pub create_table : Rule Statement
create_table = do
  all_words (codes "CREATE" ∷ codes "TABLE" ∷ [])
  t ← name
  ps ← bracketed (listed (key_part or foreign_part or new_column_part))
  p ← maybe partitioning
  m ← movement_behind p
  gives (about.Table (CreateTable (record { name = t; parts = ps; partitioning = p; movement = m })))

-- SPLIT PARTITION name AT ( literal ) INTO ( PARTITION name , PARTITION name )
abbrev pub split_part : Rule SplitPart
split_part = do
  all_words (codes "SPLIT" ∷ codes "PARTITION" ∷ [])
  p ← name
  word (codes "AT")
  v ← bracketed literal
  word (codes "INTO")
  mark (codes "(")
  word (codes "PARTITION")
  l ← name
  mark (codes ",")
  word (codes "PARTITION")
  u ← name
  mark (codes ")")
  gives (record { name = p; at = v; lower = l; upper = u })

-- MERGE PARTITIONS name , name INTO PARTITION name
abbrev pub merge_parts : Rule MergeParts
merge_parts = do
  all_words (codes "MERGE" ∷ codes "PARTITIONS" ∷ [])
  l ← name
  mark (codes ",")
  u ← name
  all_words (codes "INTO" ∷ codes "PARTITION" ∷ [])
  n ← name
  gives (record { lower = l; upper = u; name = n })

-- (ENABLE | DISABLE) ROW MOVEMENT
abbrev pub row_movement : Rule Bool
row_movement =
    (all_words (codes "ENABLE" ∷ codes "ROW" ∷ codes "MOVEMENT" ∷ []) >> gives true)
    or (all_words (codes "DISABLE" ∷ codes "ROW" ∷ codes "MOVEMENT" ∷ []) >> gives false)

-- ADD range | DROP PARTITION name | TRUNCATE PARTITION name | SPLIT .. | MERGE .. | (ENABLE | DISABLE) ROW MOVEMENT
abbrev pub part_change : Rule PartChange
part_change =
    mapped Add (word (codes "ADD") >> range)
    or mapped DropPart (all_words (codes "DROP" ∷ codes "PARTITION" ∷ []) >> name)
    or mapped Truncate (all_words (codes "TRUNCATE" ∷ codes "PARTITION" ∷ []) >> name)
    or mapped Split split_part
    or mapped Merge merge_parts
    or mapped Movement row_movement

-- ALTER TABLE name and one of these
abbrev pub alter_table : Rule Statement
alter_table = do
  all_words (codes "ALTER" ∷ codes "TABLE" ∷ [])
  t ← name
  c ← part_change
  gives (about.Table (AlterTable (record { table = t; change = c })))

-- ---- logs

-- (ROWID | SEQUENCE) {, (ROWID | SEQUENCE)}, each at most once; true is ROWID
abbrev pub log_options : Rule (List Bool)
log_options ts =
    option_case (listed ((word (codes "ROWID") >> gives true) or (word (codes "SEQUENCE") >> gives false)) ts) None
    (λ p. where_true (nat_le (count_by (λ b. b) p.0) 1 && nat_le (count_by not p.0) 1) p)

-- CREATE MATERIALIZED VIEW LOG ON name [WITH ..] [( name {, name} )] [INCLUDING NEW VALUES | EXCLUDING NEW VALUES]; without
-- either of the last the log excludes them
abbrev pub create_log : Rule Statement
create_log = do
  all_words (codes "CREATE" ∷ codes "MATERIALIZED" ∷ codes "VIEW" ∷ codes "LOG" ∷ codes "ON" ∷ [])
  t ← name
  options ← optional_list (word (codes "WITH") >> log_options)
  columns ← optional_list (bracketed (listed name))
  new ← (all_words (codes "INCLUDING" ∷ codes "NEW" ∷ codes "VALUES" ∷ []) >> gives true)
      or (all_words (codes "EXCLUDING" ∷ codes "NEW" ∷ codes "VALUES" ∷ []) >> gives false)
      or gives false
  gives (about.Log (CreateLog (record { table = t; rowid = list_any (λ b. b) options; sequence = list_any not options; columns = columns; new_values = new })))

-- a statement of these keywords and then a name
abbrev pub named_form : List (List ℕ) → (List ℕ → Statement) → Rule Statement
named_form ws make = all_words ws >> mapped make name

-- log = CREATE MATERIALIZED VIEW LOG .. | DROP MATERIALIZED VIEW LOG ON name
abbrev pub log : Rule Statement
log = create_log or named_form (codes "DROP" ∷ codes "MATERIALIZED" ∷ codes "VIEW" ∷ codes "LOG" ∷ codes "ON" ∷ []) (λ n. about.Log (DropLog n))

-- ---- views

-- [FAST | COMPLETE | FORCE], FORCE where nothing is written
abbrev pub fast_or_other : Rule Method
fast_or_other =
    (word (codes "FAST") >> gives Fast) or (word (codes "COMPLETE") >> gives Complete) or (word (codes "FORCE") >> gives Force) or gives Force

-- [ON COMMIT | ON DEMAND], ON DEMAND where nothing is written
abbrev pub on_commit : Rule Bool
on_commit = (all_words (codes "ON" ∷ codes "COMMIT" ∷ []) >> gives true) or (all_words (codes "ON" ∷ codes "DEMAND" ∷ []) >> gives false) or gives false

-- [REFRESH [FAST | COMPLETE | FORCE] [ON COMMIT | ON DEMAND]]
abbrev pub refresh_clause : Rule (Method × Bool)
refresh_clause = (do
  word (codes "REFRESH")
  m ← fast_or_other
  c ← on_commit
  gives (m, c)) or gives (Force, false)

-- (ENABLE | DISABLE) QUERY REWRITE
abbrev pub rewrite_clause : Rule Bool
rewrite_clause =
    (all_words (codes "ENABLE" ∷ codes "QUERY" ∷ codes "REWRITE" ∷ []) >> gives true)
    or (all_words (codes "DISABLE" ∷ codes "QUERY" ∷ codes "REWRITE" ∷ []) >> gives false)

-- [BUILD IMMEDIATE | BUILD DEFERRED], IMMEDIATE where nothing is written
abbrev pub is_deferred : Rule Bool
is_deferred =
    (all_words (codes "BUILD" ∷ codes "IMMEDIATE" ∷ []) >> gives false)
    or (all_words (codes "BUILD" ∷ codes "DEFERRED" ∷ []) >> gives true)
    or gives false

-- the SELECT of a view's definition has no AS OF
abbrev pub definition : Rule Asked
definition ts = option_case (asked ts) None (λ p. where_true (is_none p.0.query.as_of) p)

-- CREATE MATERIALIZED VIEW name [BUILD ..] [REFRESH ..] [(ENABLE | DISABLE) QUERY REWRITE] AS select; without either of the
-- last it is disabled
abbrev pub create_view : Rule Statement
create_view = do
  all_words (codes "CREATE" ∷ codes "MATERIALIZED" ∷ codes "VIEW" ∷ [])
  n ← name
  deferred ← is_deferred
  how ← refresh_clause
  rewrite ← rewrite_clause or gives false
  word (codes "AS")
  q ← definition
  gives (about.View (CreateView (record { name = n; deferred = deferred; method = how.0; on_commit = how.1; rewrite = rewrite; asked = q })))

-- ALTER MATERIALIZED VIEW name (ENABLE | DISABLE) QUERY REWRITE
abbrev pub alter_view : Rule Statement
alter_view = do
  all_words (codes "ALTER" ∷ codes "MATERIALIZED" ∷ codes "VIEW" ∷ [])
  n ← name
  on ← rewrite_clause
  gives (about.View (AlterView (record { name = n; rewrite = on })))

-- view = one of these | DROP MATERIALIZED VIEW name | UNREGISTER MATERIALIZED VIEW name
abbrev pub view : Rule Statement
view =
    create_view
    or alter_view
    or named_form (codes "DROP" ∷ codes "MATERIALIZED" ∷ codes "VIEW" ∷ []) (λ n. about.View (DropView n))
    or named_form (codes "UNREGISTER" ∷ codes "MATERIALIZED" ∷ codes "VIEW" ∷ []) (λ n. about.View (Unregister n))

-- ---- dimensions

-- name . name
abbrev pub table_column : Rule TableColumn
table_column = do
  t ← name
  mark (codes ".")
  c ← name
  gives (record { table = t; column = c })

-- LEVEL name IS name . name
abbrev pub level : Rule NewLevel
level = do
  word (codes "LEVEL")
  n ← name
  word (codes "IS")
  c ← table_column
  gives (record { name = n; table = c.table; column = c.column })

-- JOIN KEY name . name REFERENCES name
abbrev pub join_key_part : Rule JoinKey
join_key_part = do
  all_words (codes "JOIN" ∷ codes "KEY" ∷ [])
  c ← table_column
  word (codes "REFERENCES")
  p ← name
  gives (record { table = c.table; column = c.column; parent = p })

-- name {CHILD OF name} {JOIN KEY ..}
abbrev pub hierarchy_body : Rule (List (List ℕ) × List JoinKey)
hierarchy_body = do
  n ← name
  ns ← many (all_words (codes "CHILD" ∷ codes "OF" ∷ []) >> name)
  ks ← many join_key_part
  gives (n ∷ ns, ks)

-- HIERARCHY name ( name {CHILD OF name} {JOIN KEY ..} )
abbrev pub hierarchy : Rule NewHierarchy
hierarchy = do
  word (codes "HIERARCHY")
  h ← name
  b ← bracketed hierarchy_body
  gives (record { name = h; levels = b.0; joins = b.1 })

-- ATTRIBUTE name DETERMINES ( name . name {, name . name} )
abbrev pub attribute : Rule NewAttribute
attribute = do
  word (codes "ATTRIBUTE")
  l ← name
  word (codes "DETERMINES")
  cs ← bracketed (listed table_column)
  gives (record { level = l; columns = cs })

-- CREATE DIMENSION name {LEVEL ..} {HIERARCHY ..} {ATTRIBUTE ..}
abbrev pub create_dimension : Rule Statement
create_dimension = do
  all_words (codes "CREATE" ∷ codes "DIMENSION" ∷ [])
  n ← name
  ls ← many level
  hs ← many hierarchy
  ats ← many attribute
  gives (about.Dimension (CreateDimension (record { name = n; levels = ls; hierarchies = hs; attributes = ats })))

-- dimension = CREATE DIMENSION .. | DROP DIMENSION name | VALIDATE DIMENSION name
abbrev pub dimension : Rule Statement
dimension =
    create_dimension
    or named_form (codes "DROP" ∷ codes "DIMENSION" ∷ []) (λ n. about.Dimension (DropDimension n))
    or named_form (codes "VALIDATE" ∷ codes "DIMENSION" ∷ []) (λ n. about.Show (ValidateDimension n))

-- ---- refresh

-- the tokens that were read, and none where there was a fault
abbrev pub tokens_or_none : Result (List Token) LexFault → List Token
tokens_or_none (Ok ts) = ts
tokens_or_none (Err e) = []

-- the tokens of a text; none where it isn't read as tokens
abbrev pub text_tokens : List ℕ → List Token
text_tokens text = tokens_or_none (tokens_of text)

-- the name that a text is from its first byte to its last, folded as every name; it is no word that is never a name
abbrev pub name_in : List ℕ → Option (List ℕ)
name_in text = option_case (whole name (text_tokens text)) None (λ n. where_true (length n == length text) n)

-- the letters of a refresh, in either case: F, C, P and ? for FORCE
abbrev pub method_letter : ℕ → Option Method
method_letter b =
    cond ((b == 70) || (b == 102)) (Some Fast)
    (cond ((b == 67) || (b == 99)) (Some Complete) (cond ((b == 80) || (b == 112)) (Some Partition) (cond (b == 63) (Some Force) None)))

-- the method that a text of one letter names
abbrev pub method_in : List ℕ → Option Method
method_in [] = None
method_in (b ∷ []) = method_letter b
method_in (b ∷ c ∷ bs) = None

-- a quoted text that is such a letter
abbrev pub method_text : Rule Method
method_text ts = option_case (quoted ts) None (λ p. option_map (λ m. (m, p.1)) (method_in p.0))

-- a quoted text that is a name
abbrev pub name_text_token : Rule (List ℕ)
name_text_token ts = option_case (quoted ts) None (λ p. option_map (λ n. (n, p.1)) (name_in p.0))

-- a text without the spaces in front, and without those behind
abbrev pub without_spaces_before : List ℕ → List ℕ
without_spaces_before [] = []
without_spaces_before (b ∷ bs) = cond (b == 32) (without_spaces_before bs) (b ∷ bs)

abbrev pub without_spaces_behind : List ℕ → List ℕ
without_spaces_behind text = reverse (without_spaces_before (reverse text))

-- the byte in front of the first piece
abbrev pub onto_piece : ℕ → List (List ℕ) → List (List ℕ)
onto_piece b [] = (b ∷ []) ∷ []
onto_piece b (p ∷ ps) = (b ∷ p) ∷ ps

-- the pieces between commas; there is always at least one
abbrev pub between_commas : List ℕ → List (List ℕ)
between_commas [] = [] ∷ []
between_commas (b ∷ bs) = cond (b == 44) ([] ∷ between_commas bs) (onto_piece b (between_commas bs))

-- the same without the spaces around the commas: those behind a piece that another follows, and those in front of one behind a comma
abbrev pub behind_comma : List (List ℕ) → List (List ℕ)
behind_comma [] = []
behind_comma (p ∷ []) = without_spaces_before p ∷ []
behind_comma (p ∷ q ∷ ps) = without_spaces_behind (without_spaces_before p) ∷ behind_comma (q ∷ ps)

abbrev pub name_pieces : List (List ℕ) → List (List ℕ)
name_pieces [] = []
name_pieces (p ∷ []) = p ∷ []
name_pieces (p ∷ q ∷ ps) = without_spaces_behind p ∷ behind_comma (q ∷ ps)

-- the names that a text lists
abbrev pub names_in : List ℕ → Option (List (List ℕ))
names_in text = all_there (map name_in (name_pieces (between_commas text)))

-- the longest list of a refresh
abbrev pub max_names : ℕ
max_names = 64

-- the first of a list of at most so many names, and the names after it
abbrev pub as_list : List (List ℕ) → Option (List ℕ × List (List ℕ))
as_list [] = None
as_list (n ∷ ns) = where_true (nat_lt (length ns) max_names) (n, ns)

-- a quoted text that is such a list
abbrev pub name_list_token : Rule (List ℕ × List (List ℕ))
name_list_token ts = option_case (quoted ts) None (λ p. option_map (λ l. (l, p.1)) (option_and_then as_list (names_in p.0)))

-- (EXECUTE | EXEC) DBMS_MVIEW . REFRESH ( text [, text] ), where this rule reads the names
abbrev pub refresh_of : Rule (List ℕ × List (List ℕ)) → Rule Statement
refresh_of names = do
  word (codes "EXECUTE") or word (codes "EXEC")
  word (codes "DBMS_MVIEW")
  mark (codes ".")
  word (codes "REFRESH")
  mark (codes "(")
  l ← names
  m ← maybe (mark (codes ",") >> method_text)
  mark (codes ")")
  gives (Refresh (record { name = l.0; method = m; more = l.1 }))

-- refresh = (EXECUTE | EXEC) DBMS_MVIEW . REFRESH ( text [, text] ), of one view or of a list
abbrev pub refresh : Rule Statement
refresh = refresh_of name_list_token

-- submit = SUBMIT refresh, of one view
abbrev pub submit : Rule Statement
submit = word (codes "SUBMIT") >> refresh_of (mapped (λ n. (n, [])) name_text_token)

-- ---- the others

-- ENFORCED | TRUSTED | STALE_TOLERATED
abbrev pub level_setting : Rule Level
level_setting = (word (codes "ENFORCED") >> gives Enforced) or (word (codes "TRUSTED") >> gives Trusted) or (word (codes "STALE_TOLERATED") >> gives StaleTolerated)

-- TRUE | FALSE
abbrev pub on_or_off : Rule Bool
on_or_off = (word (codes "TRUE") >> gives true) or (word (codes "FALSE") >> gives false)

-- ALTER SESSION SET QUERY_REWRITE_INTEGRITY = .. | ALTER SESSION SET QUERY_REWRITE_ENABLED = ..
abbrev pub session_setting : Rule Statement
session_setting = all_words (codes "ALTER" ∷ codes "SESSION" ∷ codes "SET" ∷ []) >> (
    mapped (λ l. about.Session (SetLevel l)) (word (codes "QUERY_REWRITE_INTEGRITY") >> mark (codes "=") >> level_setting)
    or mapped (λ on. about.Session (SetRewrite on)) (word (codes "QUERY_REWRITE_ENABLED") >> mark (codes "=") >> on_or_off))

-- other = PURGE LOG ON name | PURGE UNDO TO SCN number | SHOW VIEW name | SHOW LOG name | EXPLAIN MVIEW name
--       | EXPLAIN REWRITE select | SET TRANSACTION READ ONLY | COMMIT | ALTER SESSION ..
abbrev pub other : Rule Statement
other =
    named_form (codes "PURGE" ∷ codes "LOG" ∷ codes "ON" ∷ []) (λ n. about.Purge (PurgeLog n))
    or mapped (λ n. about.Purge (PurgeUndo (pos n))) (all_words (codes "PURGE" ∷ codes "UNDO" ∷ codes "TO" ∷ codes "SCN" ∷ []) >> number)
    or named_form (codes "SHOW" ∷ codes "VIEW" ∷ []) (λ n. about.Show (ShowView n))
    or named_form (codes "SHOW" ∷ codes "LOG" ∷ []) (λ n. about.Show (ShowLog n))
    or named_form (codes "EXPLAIN" ∷ codes "MVIEW" ∷ []) (λ n. about.Show (ExplainView n))
    or mapped ExplainQuery (all_words (codes "EXPLAIN" ∷ codes "REWRITE" ∷ []) >> asked)
    or mapped (λ _. about.Session ReadOnly) (all_words (codes "SET" ∷ codes "TRANSACTION" ∷ codes "READ" ∷ codes "ONLY" ∷ []))
    or mapped (λ _. about.Session EndReadOnly) (word (codes "COMMIT"))
    or session_setting

-- a statement of any form
abbrev pub statement : Rule Statement
statement = mapped Select asked or dml or create_table or alter_table or log or view or dimension or refresh or other

-- the statement that all of the tokens are
abbrev pub statement_of : List Token → Option Statement
statement_of ts = whole statement ts

-- the refresh that all of the tokens submit
abbrev pub submit_of : List Token → Option Statement
submit_of ts = whole submit ts
