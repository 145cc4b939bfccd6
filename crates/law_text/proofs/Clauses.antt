-- The clauses of a query before ORDER BY read the same, whatever stands from there on.
use Rattle.std.proofs.Common.{◌≤◌, arith, ℕ, List, ◌∷◌, refl, ◌&&◌, Option, Some, None, codes, neg_ℤ, not, option_map, pos, unwrap_or}
use Rattle.wh_base.specs.DayTexts.{day_of}
use Rattle.wh_base.specs.Lists.{has_text, option_case}
use Rattle.wh_base.specs.Values.{digits_number}
use Rattle.wh_base.specs.declared.queries.ColName.{ColName}
use Rattle.wh_base.specs.declared.queries.NamePart.{NamePart}
use Rattle.wh_base.specs.declared.queries.NamePart.TheVariants.{MarkName, Plain, RowIdName}
use Rattle.wh_base.specs.declared.queries.RawAgg.{RawAgg}
use Rattle.wh_base.specs.declared.queries.RawAgg.TheVariants.{AvgOf, CountOf, CountRows, MaxOf, MinOf, SumOf}
use Rattle.wh_base.specs.declared.queries.RawCondition.{RawCondition}
use Rattle.wh_base.specs.declared.queries.RawCondition.TheVariants as raw
use Rattle.wh_base.specs.declared.queries.RawExpr.{RawExpr}
use Rattle.wh_base.specs.declared.queries.RawExpr.TheVariants.{Constant}
use Rattle.wh_base.specs.declared.queries.RawItem.{RawItem}
use Rattle.wh_base.specs.declared.queries.RawJoin.{RawJoin}
use Rattle.wh_base.specs.declared.queries.RawTable.{RawTable}
use Rattle.wh_base.specs.declared.queries.RawTest.{RawTest}
use Rattle.wh_base.specs.declared.queries.RawWhat.{RawWhat}
use Rattle.wh_base.specs.declared.queries.RawWhat.TheVariants as what
use Rattle.wh_base.specs.declared.values.Literal.{Literal}
use Rattle.wh_base.specs.declared.values.Literal.TheVariants.{Dated, Number, Quoted}
use Rattle.wh_base.specs.declared.values.Op.{Op}
use Rattle.wh_base.specs.declared.values.Op.TheVariants.{Eq, Ge, Gt, Le, Lt, Ne}
use Rattle.wh_base.specs.declared.tokens.Token.{Token}
use Rattle.wh_base.specs.declared.tokens.TokenKind.TheVariants as kinds
use Rattle.def_grammar.specs.Query.{aggregate, aggregate_of, alias, all_of, as_of, column, column_named_by, condition, condition_on, date, expression, from_tables, item, join, joined_table, literal, marker, on_join, op_of, operator, plain_name, product_or_column, qualifier, rowid_as, signed, table, table_with, test, where_conditions}
use Rattle.def_grammar.specs.Reading.{Rule, bracketed, gives, listed, made_by, many, mapped, mark, maybe, name, number, optional_list, quoted, reserved, same_token_kind, word, ◌>>=◌, ◌>>◌, ◌or◌}
use Rattle.law_text.proofs.Steady.{Alike, Along, Blind, Steady, size, bind-steady, bracketed-steady, const-steady, gives-steady, listed-steady, many-steady, mapped-steady, mark-blind, mark-first, maybe-blind, maybe-steady, optional-steady, or-steady, then-blind, then-later, then-steady, token-steady, weaker, word-blind, word-first}

-- ---- names, numbers and texts

name-steady : Steady 0 name
name-steady = weaker name (token-steady (λ kind text. same_token_kind kind kinds.Name && not (has_text reserved text)) (λ text. text) refl)

number-steady : Steady 0 number
number-steady = weaker number (token-steady (λ kind text. same_token_kind kind kinds.Number) (λ text. unwrap_or (digits_number text) 0) refl)

quoted-steady : Steady 0 quoted
quoted-steady = weaker quoted (token-steady (λ kind text. same_token_kind kind kinds.Text) (λ text. text) refl)

-- ---- literals and columns

pub unsigned-steady : Steady 0 (mapped pos number)
unsigned-steady = mapped-steady 0 pos number number-steady

signed-steady : Steady 0 signed
signed-steady =
    or-steady 0 (mark (codes "-") >> mapped (λ n. neg_ℤ (pos n)) number) (mapped pos number)
    (then-steady 0 (mark (codes "-")) (mapped (λ n. neg_ℤ (pos n)) number) (mark-blind (codes "-")) (mapped-steady 0 (λ n. neg_ℤ (pos n)) number number-steady)) unsigned-steady

-- what a rule gives, where something is made of it
made-alike : {A B : Type 0} (n : ℕ) (f : A → Option B) (o u : Option (A × List Token)) → Alike n 0 o u
    → Alike n 0 (option_case o None (λ p. option_map (λ x. (x, p.1)) (f p.0))) (option_case u None (λ p. option_map (λ x. (x, p.1)) (f p.0)))
made-alike n f None None h = tt
made-alike n f None (Some q) h = absurd h
made-alike n f (Some p) None h = absurd h
made-alike {B = B} n f (Some p) (Some q) h = rw (h.0) (by (f p.0))
  where
    by : (o : Option B) → Alike n 0 (option_map (λ x. (x, p.1)) o) (option_map (λ x. (x, q.1)) o)
    by None = tt
    by (Some x) = (refl, h.1, h.2)

made-steady : {A B : Type 0} (f : A → Option B) (r : Rule A) → Steady 0 r → Steady 0 (made_by f r)
made-steady f r h = record { alike = λ ts us like. made-alike (size ts) f (r ts) (r us) (h.alike ts us like) }

date-steady : Steady 0 date
date-steady =
    then-steady 0 (word (codes "DATE")) (made_by (λ text. option_map Dated (day_of text)) quoted) (word-blind (codes "DATE") refl) (made-steady (λ text. option_map Dated (day_of text)) quoted quoted-steady)

literal-steady : Steady 0 literal
literal-steady =
    or-steady 0 (mapped Number signed) (mapped Quoted quoted or date) (mapped-steady 0 Number signed signed-steady)
    (or-steady 0 (mapped Quoted quoted) date (mapped-steady 0 Quoted quoted quoted-steady) date-steady)

qualifier-steady : Steady 0 qualifier
qualifier-steady =
    maybe-steady (name >>= (λ n. mark (codes ".") >> gives n)) (bind-steady 0 name (λ n. mark (codes ".") >> gives n) name-steady (λ n.
    then-steady 0 (mark (codes ".")) (gives n) (mark-blind (codes ".")) (gives-steady n)))

rowid-steady : (p : NamePart) → Steady 0 (rowid_as p)
rowid-steady p =
    bind-steady 0 qualifier (λ q. word (codes "ROWID") >> gives (column_named_by q p)) qualifier-steady (λ q.
    then-steady 0 (word (codes "ROWID")) (gives (column_named_by q p)) (word-blind (codes "ROWID") refl) (gives-steady (column_named_by q p)))

marker-steady : Steady 0 marker
marker-steady =
    let inner : Steady 0 (bracketed (rowid_as MarkName)) = bracketed-steady (rowid_as MarkName) (rowid-steady MarkName) in
    let third : Steady 0 (word (codes "PMARKER") >> bracketed (rowid_as MarkName)) = then-steady 0 (word (codes "PMARKER")) (bracketed (rowid_as MarkName)) (word-blind (codes "PMARKER") refl) inner in
    let second : Steady 0 (mark (codes ".") >> (word (codes "PMARKER") >> bracketed (rowid_as MarkName))) = then-steady 0 (mark (codes ".")) (word (codes "PMARKER") >> bracketed (rowid_as MarkName)) (mark-blind (codes ".")) third in
    then-steady 0 (word (codes "DBMS_MVIEW")) (mark (codes ".") >> (word (codes "PMARKER") >> bracketed (rowid_as MarkName))) (word-blind (codes "DBMS_MVIEW") refl) second

plain-steady : Steady 0 plain_name
plain-steady =
    bind-steady 0 qualifier (λ q. name >>= (λ n. gives (column_named_by q (Plain n)))) qualifier-steady (λ q.
    bind-steady 0 name (λ n. gives (column_named_by q (Plain n))) name-steady (λ n. gives-steady (column_named_by q (Plain n))))

pub column-steady : Steady 0 column
column-steady = or-steady 0 marker (rowid_as RowIdName or plain_name) marker-steady (or-steady 0 (rowid_as RowIdName) plain_name (rowid-steady RowIdName) plain-steady)

-- ---- expressions, aggregates and items

expression-steady : Steady 0 expression
expression-steady =
    let star : Rule ColName = mark (codes "*") >> column in
    let f : ColName → Option ColName → Rule RawExpr = λ a b. gives (product_or_column a b) in
    let times : Steady 0 (maybe star) = maybe-steady star (then-steady 0 (mark (codes "*")) column (mark-blind (codes "*")) column-steady) in
    let whole : Steady 0 (column >>= (λ a. maybe star >>= f a)) = bind-steady 0 column (λ a. maybe star >>= f a) column-steady (λ a.
    bind-steady 0 (maybe star) (f a) times (λ b. gives-steady (product_or_column a b))) in
    or-steady 0 (mapped Constant signed) (column >>= (λ a. maybe star >>= f a)) (mapped-steady 0 Constant signed signed-steady) whole

call-steady : (w : List ℕ) (make : RawExpr → RawAgg) → Blind 0 (word w) → Steady 0 (aggregate_of w make)
call-steady w make h = then-steady 0 (word w) (mapped make (bracketed expression)) h (mapped-steady 0 make (bracketed expression) (bracketed-steady expression expression-steady))

close-along : (x y : Token) (n m : ℕ) → m ≤ n → (o u : Option (Token × List Token)) → Along m 0 o u
    → Along n 0 (option_case o None (λ p. gives x p.1)) (option_case u None (λ p. gives y p.1))
close-along x y n m less None None h = tt
close-along x y n m less None (Some q) h = absurd h
close-along x y n m less (Some p) None h = absurd h
close-along x y n m less (Some p) (Some q) h = (h.0, omega (arith, less, h.1))

star-along : (n : ℕ) (o u : Option (Token × List Token)) → Along n 0 o u
    → Along n 0 (option_case o None (λ p. (mark (codes ")") >> gives p.0) p.1)) (option_case u None (λ p. (mark (codes ")") >> gives p.0) p.1))
star-along n None None h = tt
star-along n None (Some q) h = absurd h
star-along n (Some p) None h = absurd h
star-along n (Some p) (Some q) h = close-along p.0 q.0 n (size p.1) (omega (arith, h.1)) (mark (codes ")") p.1) (mark (codes ")") q.1) ((mark-blind (codes ")")).along p.1 q.1 h.0)

star-blind : Blind 0 (bracketed (mark (codes "*")))
star-blind =
    let inner : Blind 0 (mark (codes "(") >> mark (codes "*")) = then-blind (mark (codes "(")) (mark (codes "*")) (mark-blind (codes "(")) (mark-blind (codes "*")) in
    record { along = λ ts us like. star-along (size ts) ((mark (codes "(") >> mark (codes "*")) ts) ((mark (codes "(") >> mark (codes "*")) us) (inner.along ts us like) }

aggregate-steady : Steady 0 aggregate
aggregate-steady =
    let rows : Rule RawAgg = mapped (λ _. CountRows) (word (codes "COUNT") >> bracketed (mark (codes "*"))) in
    let counts : Rule RawAgg = aggregate_of (codes "COUNT") CountOf in
    let sums : Rule RawAgg = aggregate_of (codes "SUM") SumOf in
    let averages : Rule RawAgg = aggregate_of (codes "AVG") AvgOf in
    let least : Rule RawAgg = aggregate_of (codes "MIN") MinOf in
    let greatest : Rule RawAgg = aggregate_of (codes "MAX") MaxOf in
    let five : Steady 0 (least or greatest) = or-steady 0 least greatest (call-steady (codes "MIN") MinOf (word-blind (codes "MIN") refl)) (call-steady (codes "MAX") MaxOf (word-blind (codes "MAX") refl)) in
    let four : Steady 0 (averages or (least or greatest)) = or-steady 0 averages (least or greatest) (call-steady (codes "AVG") AvgOf (word-blind (codes "AVG") refl)) five in
    let three : Steady 0 (sums or (averages or (least or greatest))) = or-steady 0 sums (averages or (least or greatest)) (call-steady (codes "SUM") SumOf (word-blind (codes "SUM") refl)) four in
    let two : Steady 0 (counts or (sums or (averages or (least or greatest)))) = or-steady 0 counts (sums or (averages or (least or greatest))) (call-steady (codes "COUNT") CountOf (word-blind (codes "COUNT") refl)) three in
    or-steady 0 rows (counts or (sums or (averages or (least or greatest))))
    (const-steady CountRows (word (codes "COUNT") >> bracketed (mark (codes "*"))) (then-blind (word (codes "COUNT")) (bracketed (mark (codes "*"))) (word-blind (codes "COUNT") refl) star-blind)) two

alias-steady : Steady 0 alias
alias-steady = maybe-steady ((word (codes "AS") >> name) or name) (or-steady 0 (word (codes "AS") >> name) name (then-steady 0 (word (codes "AS")) name (word-blind (codes "AS") refl) name-steady) name-steady)

what-steady : Steady 0 (mapped what.Computed aggregate or mapped what.Plain column)
what-steady = or-steady 0 (mapped what.Computed aggregate) (mapped what.Plain column) (mapped-steady 0 what.Computed aggregate aggregate-steady) (mapped-steady 0 what.Plain column column-steady)

item-steady : Steady 0 item
item-steady =
    let f : RawWhat → Option (List ℕ) → Rule RawItem = λ w a. gives (record { what = w; alias = a }) in
    bind-steady 0 (mapped what.Computed aggregate or mapped what.Plain column) (λ w. alias >>= f w) what-steady (λ w.
    bind-steady 0 alias (f w) alias-steady (λ a. gives-steady (record { what = w; alias = a })))

pub items-steady : Steady 0 (listed item)
items-steady = listed-steady item item-steady

-- ---- FROM

join-steady : Steady 0 join
join-steady =
    let last : ColName → ColName → Rule RawJoin = λ a b. gives (record { left = a; right = b }) in
    let right : (a : ColName) → Steady 0 (column >>= last a) = λ a. bind-steady 0 column (last a) column-steady (λ b. gives-steady (record { left = a; right = b })) in
    bind-steady 0 column (λ a. mark (codes "=") >> (column >>= last a)) column-steady (λ a.
    then-steady 0 (mark (codes "=")) (column >>= last a) (mark-blind (codes "=")) (right a))

on-steady : Steady 0 on_join
on-steady = or-steady 0 (bracketed join) join (bracketed-steady join join-steady) join-steady

table-steady : Steady 0 table
table-steady =
    let last : List ℕ → Option (List ℕ) → Rule (List ℕ × Option (List ℕ)) = λ n a. gives (n, a) in
    bind-steady 0 name (λ n. maybe name >>= last n) name-steady (λ n.
    bind-steady 0 (maybe name) (last n) (maybe-steady name name-steady) (λ a. gives-steady (n, a)))

joined-steady : Steady 1 joined_table
joined-steady =
    let last : List ℕ × Option (List ℕ) → RawJoin → Rule RawTable = λ t j. gives (table_with (Some j) t) in
    let on : List ℕ × Option (List ℕ) → Rule RawTable = λ t. word (codes "ON") >> (on_join >>= last t) in
    let joins : (t : List ℕ × Option (List ℕ)) → Steady 0 (on_join >>= last t) = λ t. bind-steady 0 on_join (last t) on-steady (λ j. gives-steady (table_with (Some j) t)) in
    let tables : Steady 0 (table >>= on) = bind-steady 0 table on table-steady (λ t. then-steady 0 (word (codes "ON")) (on_join >>= last t) (word-blind (codes "ON") refl) (joins t)) in
    let joined : Steady 1 (word (codes "JOIN") >> (table >>= on)) = then-steady 1 (word (codes "JOIN")) (table >>= on) (word-first (codes "JOIN") refl) tables in
    then-later 1 (maybe (word (codes "INNER"))) (word (codes "JOIN") >> (table >>= on)) (maybe-blind (word (codes "INNER")) (word-blind (codes "INNER") refl)) joined

pub from-steady : Steady 0 from_tables
from-steady =
    let behind_comma : Rule RawTable = mapped (table_with None) (mark (codes ",") >> table) in
    let behind : Rule RawTable = behind_comma or joined_table in
    let last : List ℕ × Option (List ℕ) → List RawTable → Rule (List RawTable) = λ t ts. gives (table_with None t ∷ ts) in
    let one : Steady 1 behind_comma = mapped-steady 1 (table_with None) (mark (codes ",") >> table) (then-steady 1 (mark (codes ",")) table (mark-first (codes ",")) table-steady) in
    let more : Steady 0 (many behind) = many-steady behind (or-steady 1 behind_comma joined_table one joined-steady) in
    bind-steady 0 table (λ t. many behind >>= last t) table-steady (λ t.
    bind-steady 0 (many behind) (last t) more (λ ts. gives-steady (table_with None t ∷ ts)))

pub as_of-steady : Steady 0 as_of
as_of-steady =
    let two : Blind 0 (word (codes "AS") >> word (codes "OF")) = then-blind (word (codes "AS")) (word (codes "OF")) (word-blind (codes "AS") refl) (word-blind (codes "OF") refl) in
    let three : Blind 0 (word (codes "AS") >> word (codes "OF") >> word (codes "SCN")) = then-blind (word (codes "AS") >> word (codes "OF")) (word (codes "SCN")) two (word-blind (codes "SCN") refl) in
    maybe-steady (word (codes "AS") >> word (codes "OF") >> word (codes "SCN") >> mapped pos number) (then-steady 0 (word (codes "AS") >> word (codes "OF") >> word (codes "SCN")) (mapped pos number) three unsigned-steady)

-- ---- conditions

op-steady : (m : List ℕ) (o : Op) → Steady 0 (op_of m o)
op-steady m o = const-steady o (mark m) (mark-blind m)

operator-steady : Steady 0 operator
operator-steady =
    let six : Rule Op = op_of (codes ">=") Ge or op_of (codes ">") Gt in
    let five : Rule Op = op_of (codes "<") Lt or six in
    let four : Rule Op = op_of (codes "<=") Le or five in
    let three : Rule Op = op_of (codes "!=") Ne or four in
    let two : Rule Op = op_of (codes "<>") Ne or three in
    or-steady 0 (op_of (codes "=") Eq) two (op-steady (codes "=") Eq)
    (or-steady 0 (op_of (codes "<>") Ne) three (op-steady (codes "<>") Ne)
    (or-steady 0 (op_of (codes "!=") Ne) four (op-steady (codes "!=") Ne)
    (or-steady 0 (op_of (codes "<=") Le) five (op-steady (codes "<=") Le)
    (or-steady 0 (op_of (codes "<") Lt) six (op-steady (codes "<") Lt)
    (or-steady 0 (op_of (codes ">=") Ge) (op_of (codes ">") Gt) (op-steady (codes ">=") Ge) (op-steady (codes ">") Gt))))))

compare-steady : (c : ColName) → Steady 0 (operator >>= (λ o. literal >>= (λ l. gives (raw.Compare c o l))))
compare-steady c =
    bind-steady 0 operator (λ o. literal >>= (λ l. gives (raw.Compare c o l))) operator-steady (λ o.
    bind-steady 0 literal (λ l. gives (raw.Compare c o l)) literal-steady (λ l. gives-steady (raw.Compare c o l)))

between-steady : (c : ColName) → Steady 0 (word (codes "BETWEEN") >> (literal >>= (λ l. word (codes "AND") >> (literal >>= (λ m. gives (raw.Between c l m))))))
between-steady c =
    let high : Literal → Rule RawCondition = λ l. literal >>= (λ m. gives (raw.Between c l m)) in
    let highs : (l : Literal) → Steady 0 (high l) = λ l. bind-steady 0 literal (λ m. gives (raw.Between c l m)) literal-steady (λ m. gives-steady (raw.Between c l m)) in
    then-steady 0 (word (codes "BETWEEN")) (literal >>= (λ l. word (codes "AND") >> high l)) (word-blind (codes "BETWEEN") refl)
    (bind-steady 0 literal (λ l. word (codes "AND") >> high l) literal-steady (λ l. then-steady 0 (word (codes "AND")) (high l) (word-blind (codes "AND") refl) (highs l)))

equal-steady : (c : ColName) → Steady 0 (mark (codes "=") >> (column >>= (λ d. gives (raw.Equal c d))))
equal-steady c =
    then-steady 0 (mark (codes "=")) (column >>= (λ d. gives (raw.Equal c d))) (mark-blind (codes "="))
    (bind-steady 0 column (λ d. gives (raw.Equal c d)) column-steady (λ d. gives-steady (raw.Equal c d)))

one_of-steady : (c : ColName) → Steady 0 (mapped (raw.OneOf c) (word (codes "IN") >> bracketed (listed literal)))
one_of-steady c =
    let among : Steady 0 (bracketed (listed literal)) = bracketed-steady (listed literal) (listed-steady literal literal-steady) in
    mapped-steady 0 (raw.OneOf c) (word (codes "IN") >> bracketed (listed literal)) (then-steady 0 (word (codes "IN")) (bracketed (listed literal)) (word-blind (codes "IN") refl) among)

null-blind : Blind 0 (word (codes "IS") >> word (codes "NULL"))
null-blind = then-blind (word (codes "IS")) (word (codes "NULL")) (word-blind (codes "IS") refl) (word-blind (codes "NULL") refl)

not_null-blind : Blind 0 (word (codes "IS") >> word (codes "NOT") >> word (codes "NULL"))
not_null-blind = then-blind (word (codes "IS") >> word (codes "NOT")) (word (codes "NULL")) (then-blind (word (codes "IS")) (word (codes "NOT")) (word-blind (codes "IS") refl) (word-blind (codes "NOT") refl)) (word-blind (codes "NULL") refl)

tail-steady : (c : ColName) → Steady 0 (condition_on c)
tail-steady c =
    let compares : Rule RawCondition = operator >>= (λ o. literal >>= (λ l. gives (raw.Compare c o l))) in
    let between : Rule RawCondition = word (codes "BETWEEN") >> (literal >>= (λ l. word (codes "AND") >> (literal >>= (λ m. gives (raw.Between c l m))))) in
    let equal : Rule RawCondition = mark (codes "=") >> (column >>= (λ d. gives (raw.Equal c d))) in
    let one_of : Rule RawCondition = mapped (raw.OneOf c) (word (codes "IN") >> bracketed (listed literal)) in
    let null : Rule RawCondition = mapped (λ _. raw.IsNull c) (word (codes "IS") >> word (codes "NULL")) in
    let not_null : Rule RawCondition = mapped (λ _. raw.NotNull c) (word (codes "IS") >> word (codes "NOT") >> word (codes "NULL")) in
    or-steady 0 compares (between or (equal or (one_of or (null or not_null)))) (compare-steady c)
    (or-steady 0 between (equal or (one_of or (null or not_null))) (between-steady c)
    (or-steady 0 equal (one_of or (null or not_null)) (equal-steady c)
    (or-steady 0 one_of (null or not_null) (one_of-steady c)
    (or-steady 0 null not_null (const-steady (raw.IsNull c) (word (codes "IS") >> word (codes "NULL")) null-blind)
    (const-steady (raw.NotNull c) (word (codes "IS") >> word (codes "NOT") >> word (codes "NULL")) not_null-blind)))))

condition-steady : Steady 0 condition
condition-steady = bind-steady 0 column condition_on column-steady tail-steady

all-steady : {A : Type 0} (r : Rule A) → Steady 0 r → Steady 0 (all_of r)
all-steady {A} r h =
    let more : Rule A = word (codes "AND") >> r in
    let last : A → List A → Rule (List A) = λ x xs. gives (x ∷ xs) in
    bind-steady 0 r (λ x. many more >>= last x) h (λ x.
    bind-steady 0 (many more) (last x) (many-steady more (then-steady 1 (word (codes "AND")) r (word-first (codes "AND") refl) h)) (λ xs. gives-steady (x ∷ xs)))

pub where-steady : Steady 0 where_conditions
where-steady = optional-steady (word (codes "WHERE") >> all_of condition) (then-steady 0 (word (codes "WHERE")) (all_of condition) (word-blind (codes "WHERE") refl) (all-steady condition condition-steady))

-- ---- GROUP BY and HAVING

abbrev pub groups : Rule (List ColName)
groups = optional_list (word (codes "GROUP") >> word (codes "BY") >> listed column)

abbrev pub havings : Rule (List RawTest)
havings = optional_list (word (codes "HAVING") >> all_of test)

pub groups-steady : Steady 0 groups
groups-steady =
    let keywords : Blind 0 (word (codes "GROUP") >> word (codes "BY")) = then-blind (word (codes "GROUP")) (word (codes "BY")) (word-blind (codes "GROUP") refl) (word-blind (codes "BY") refl) in
    optional-steady (word (codes "GROUP") >> word (codes "BY") >> listed column) (then-steady 0 (word (codes "GROUP") >> word (codes "BY")) (listed column) keywords (listed-steady column column-steady))

test-steady : Steady 0 test
test-steady =
    let last : RawAgg → Op → Literal → Rule RawTest = λ a o l. gives (record { agg = a; op = o; literal = l }) in
    bind-steady 0 aggregate (λ a. operator >>= (λ o. literal >>= last a o)) aggregate-steady (λ a.
    bind-steady 0 operator (λ o. literal >>= last a o) operator-steady (λ o.
    bind-steady 0 literal (last a o) literal-steady (λ l. gives-steady (record { agg = a; op = o; literal = l }))))

pub havings-steady : Steady 0 havings
havings-steady = optional-steady (word (codes "HAVING") >> all_of test) (then-steady 0 (word (codes "HAVING")) (all_of test) (word-blind (codes "HAVING") refl) (all-steady test test-steady))
