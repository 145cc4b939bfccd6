-- What each rule of a query gives can be written.
use Rattle.std.proofs.Common.{◌≡◌, ℕ, ◌<◌, ◌^◌, suc, zero, List, [], ◌∷◌, ◌++◌, length, refl, subst, arith, true, false, Bool, ◌&&◌, map, Option, Some, None}
use Rattle.std.proofs.lemmas.Bool.{not-true}
use Rattle.std.proofs.lemmas.Bool.Decides.{nat_tests}
use Rattle.std.specs.Prelude.{codes, nat_lt, neg_ℤ, not, option_map, pos, unwrap_or, ℤ}
use Rattle.wh_base.proofs.Calendar.{is_its_text}
use Rattle.wh_base.specs.DayTexts.{day_of}
use Rattle.wh_base.specs.Lists.{has_text, option_case, where_true}
use Rattle.wh_base.specs.Values.{digits_number}
use Rattle.wh_base.specs.declared.queries.ColName.{ColName}
use Rattle.wh_base.specs.declared.queries.NamePart.{NamePart}
use Rattle.wh_base.specs.declared.queries.NamePart.TheVariants.{MarkName, Plain, RowIdName}
use Rattle.wh_base.specs.declared.queries.RawAgg.{RawAgg}
use Rattle.wh_base.specs.declared.queries.RawAgg.TheVariants.{AvgOf, CountOf, CountRows, MaxOf, MinOf, SumOf}
use Rattle.wh_base.specs.declared.queries.RawCondition.{RawCondition}
use Rattle.wh_base.specs.declared.queries.RawCondition.TheVariants as raw
use Rattle.wh_base.specs.declared.queries.RawExpr.{RawExpr}
use Rattle.wh_base.specs.declared.queries.RawExpr.TheVariants.{Constant}
use Rattle.wh_base.specs.declared.queries.RawItem.{RawItem}
use Rattle.wh_base.specs.declared.queries.RawJoin.{RawJoin}
use Rattle.wh_base.specs.declared.queries.RawKey.{RawKey}
use Rattle.wh_base.specs.declared.queries.RawOrder.{RawOrder}
use Rattle.wh_base.specs.declared.queries.RawOrder.TheVariants as order
use Rattle.wh_base.specs.declared.queries.RawQuery.{RawQuery}
use Rattle.wh_base.specs.declared.queries.RawTable.{RawTable}
use Rattle.wh_base.specs.declared.queries.RawTest.{RawTest}
use Rattle.wh_base.specs.declared.queries.RawWhat.{RawWhat}
use Rattle.wh_base.specs.declared.queries.RawWhat.TheVariants as what
use Rattle.wh_base.specs.declared.values.Literal.{Literal}
use Rattle.wh_base.specs.declared.values.Literal.TheVariants.{Dated, Number, Quoted}
use Rattle.wh_base.specs.declared.values.Op.{Op}
use Rattle.wh_base.specs.declared.values.Op.TheVariants.{Eq, Ge, Gt, Le, Lt, Ne}
use Rattle.wh_base.specs.declared.tokens.Token.{Token}
use Rattle.wh_base.specs.declared.tokens.TokenKind.{TokenKind}
use Rattle.wh_base.specs.declared.tokens.TokenKind.TheVariants as kinds
use Rattle.def_grammar.specs.Query.{aggregate, aggregate_of, alias, all_of, as_of, column, column_named_by, condition, condition_on, date, expression, from_tables, item, join, joined_table, literal, marker, on_join, op_of, operator, order_key, plain_name, product_or_column, qualifier, rowid_as, select, signed, table, table_with, test, where_conditions}
use Rattle.def_grammar.specs.Reading.{Rule, bracketed, gives, is_name, listed, made_by, many, mapped, mark, maybe, name, number, optional_list, quoted, reserved, same_token_kind, word, ◌>>=◌, ◌>>◌, ◌or◌}
use Rattle.def_grammar.specs.Written.{AreTables, Each, EachOfSome, IfThere, IsAggregate, IsColumn, IsCondition, IsExpression, IsItem, IsJoin, IsKey, IsLiteral, IsName, IsNamePart, IsOrder, IsSigned, IsSpelled, IsTable, IsTest, IsUnsigned, IsWhat, IsWritten, is_line, is_numeral, is_spelling}
use Rattle.wh_lex.proofs.Numbers.{front_fits}
use Rattle.wh_query_print.proofs.Fronts.{front-number}
use Rattle.wh_query_print.specs.Kept.{unplaced}
use Rattle.wh_query_print.proofs.Sound.{Alike, Along, Blind, Sound, bind-sound, bracketed-sound, const-sound, gives-sound, listed-sound, made-sound, many-sound, mapped-sound, mark-blind, maybe-blind, maybe-sound, optional-sound, or-sound, then-blind, then-sound, word-blind}

-- ---- names, numbers and texts

name-at : (kind : TokenKind) (text : List ℕ) (start end : ℕ) (ts : List Token) (b : Bool) → (same_token_kind kind kinds.Name && not (has_text reserved text)) ≡ b → is_spelling kind text ≡ true → Each IsSpelled ts
    → Alike IsName (option_map {T = Token × List Token} (λ p. (p.0.text, p.1)) (where_true b (record { kind = kind; text = text; start = start; end = end }, ts)))
    (option_map {T = Token × List Token} (λ p. (p.0.text, p.1)) (where_true b (record { kind = kind; text = text; start = 0; end = 0 }, map unplaced ts)))
name-at kinds.Name text start end ts true e spelled all = (refl, (spelled, not-true (has_text reserved text) e), refl, all)
name-at kinds.Number text start end ts true e spelled all = cc
name-at kinds.Text text start end ts true e spelled all = cc
name-at kinds.Mark text start end ts true e spelled all = cc
name-at kind text start end ts false e spelled all = tt

name-alike : (ts : List Token) → Each IsSpelled ts → Alike IsName (name ts) (name (map unplaced ts))
name-alike [] all = tt
name-alike (t ∷ ts) all = name-at t.kind t.text t.start t.end ts (is_name t) refl all.0 all.1

name-sound : Sound IsName name
name-sound = record { alike = name-alike }

small : (o : Option ℕ) → option_case o false (λ n. nat_lt n (10 ^ 38)) ≡ true → unwrap_or o 0 < 10 ^ 38
small None h = cc
small (Some n) h = grind (arith, nat_tests, h)

numeral-small : (text : List ℕ) → is_numeral text ≡ true → unwrap_or (digits_number text) 0 < 10 ^ 38
numeral-small [] h = cc
numeral-small (b ∷ bs) h =
    small (digits_number (b ∷ bs)) (front_fits (b ∷ (bs ++ [])) kinds.Number (b ∷ bs) (length bs) (omega arith) (front-number b bs [] h refl))

number-at : (kind : TokenKind) (text : List ℕ) (start end : ℕ) (ts : List Token) → is_spelling kind text ≡ true → Each IsSpelled ts
    → Alike (λ n. n < 10 ^ 38) (option_map {T = Token × List Token} (λ p. (unwrap_or (digits_number p.0.text) 0, p.1)) (where_true (same_token_kind kind kinds.Number) (record { kind = kind; text = text; start = start; end = end }, ts)))
    (option_map {T = Token × List Token} (λ p. (unwrap_or (digits_number p.0.text) 0, p.1)) (where_true (same_token_kind kind kinds.Number) (record { kind = kind; text = text; start = 0; end = 0 }, map unplaced ts)))
number-at kinds.Name text start end ts spelled all = tt
number-at kinds.Number text start end ts spelled all = (refl, numeral-small text spelled, refl, all)
number-at kinds.Text text start end ts spelled all = tt
number-at kinds.Mark text start end ts spelled all = tt

number-alike : (ts : List Token) → Each IsSpelled ts → Alike (λ n. n < 10 ^ 38) (number ts) (number (map unplaced ts))
number-alike [] all = tt
number-alike (t ∷ ts) all = number-at t.kind t.text t.start t.end ts all.0 all.1

abbrev IsFew : ℕ → Type 0
IsFew n = n < 10 ^ 38

number-sound : Sound IsFew number
number-sound = record { alike = number-alike }

quoted-at : (kind : TokenKind) (text : List ℕ) (start end : ℕ) (ts : List Token) → is_spelling kind text ≡ true → Each IsSpelled ts
    → Alike (λ line. is_line line ≡ true) (option_map {T = Token × List Token} (λ p. (p.0.text, p.1)) (where_true (same_token_kind kind kinds.Text) (record { kind = kind; text = text; start = start; end = end }, ts)))
    (option_map {T = Token × List Token} (λ p. (p.0.text, p.1)) (where_true (same_token_kind kind kinds.Text) (record { kind = kind; text = text; start = 0; end = 0 }, map unplaced ts)))
quoted-at kinds.Name text start end ts spelled all = tt
quoted-at kinds.Number text start end ts spelled all = tt
quoted-at kinds.Text text start end ts spelled all = (refl, spelled, refl, all)
quoted-at kinds.Mark text start end ts spelled all = tt

quoted-alike : (ts : List Token) → Each IsSpelled ts → Alike (λ line. is_line line ≡ true) (quoted ts) (quoted (map unplaced ts))
quoted-alike [] all = tt
quoted-alike (t ∷ ts) all = quoted-at t.kind t.text t.start t.end ts all.0 all.1

abbrev IsText : List ℕ → Type 0
IsText text = is_line text ≡ true

quoted-sound : Sound IsText quoted
quoted-sound = record { alike = quoted-alike }

-- ---- literals and columns

negative : (n : ℕ) → n < 10 ^ 38 → IsSigned (neg_ℤ (pos n))
negative zero h = h
negative (suc n) h = h

unsigned-sound : Sound IsUnsigned (mapped pos number)
unsigned-sound = mapped-sound IsFew IsUnsigned pos number number-sound (λ n h. h)

signed-sound : Sound IsSigned signed
signed-sound =
    or-sound IsSigned (mark (codes "-") >> mapped (λ n. neg_ℤ (pos n)) number) (mapped pos number)
    (then-sound IsSigned (mark (codes "-")) (mapped (λ n. neg_ℤ (pos n)) number) (mark-blind (codes "-")) (mapped-sound IsFew IsSigned (λ n. neg_ℤ (pos n)) number number-sound negative))
    (mapped-sound IsFew IsSigned pos number number-sound (λ n h. h))

abbrev day_literal : List ℕ → Option Literal
day_literal text = option_map Dated (day_of text)

dated-written : (text : List ℕ) (l : Literal) (o : Option ℤ) → day_of text ≡ o → option_map Dated o ≡ Some l → IsLiteral l
dated-written text l None e h = cc
dated-written text l (Some n) e h = let same : Dated n ≡ l = some-same (Dated n) l h in subst IsLiteral same (is_its_text text n e).0
  where
    some-same : (k l : Literal) → Some k ≡ Some l → k ≡ l
    some-same k l e = cc

date-sound : Sound IsLiteral date
date-sound =
    then-sound IsLiteral (word (codes "DATE")) (made_by day_literal quoted) (word-blind (codes "DATE"))
    (made-sound IsText IsLiteral day_literal quoted quoted-sound (λ text l h e. dated-written text l (day_of text) refl e))

literal-sound : Sound IsLiteral literal
literal-sound =
    or-sound IsLiteral (mapped Number signed) (mapped Quoted quoted or date) (mapped-sound IsSigned IsLiteral Number signed signed-sound (λ z h. h))
    (or-sound IsLiteral (mapped Quoted quoted) date (mapped-sound IsText IsLiteral Quoted quoted quoted-sound (λ t h. h)) date-sound)

qualifier-sound : Sound (IfThere IsName) qualifier
qualifier-sound =
    maybe-sound IsName (name >>= (λ n. mark (codes ".") >> gives n)) (bind-sound IsName IsName name (λ n. mark (codes ".") >> gives n) name-sound (λ n h.
    then-sound IsName (mark (codes ".")) (gives n) (mark-blind (codes ".")) (gives-sound IsName n h)))

rowid-sound : (p : NamePart) → IsNamePart p → Sound IsColumn (rowid_as p)
rowid-sound p part =
    bind-sound (IfThere IsName) IsColumn qualifier (λ q. word (codes "ROWID") >> gives (column_named_by q p)) qualifier-sound (λ q h.
    then-sound IsColumn (word (codes "ROWID")) (gives (column_named_by q p)) (word-blind (codes "ROWID")) (gives-sound IsColumn (column_named_by q p) (h, part)))

marker-sound : Sound IsColumn marker
marker-sound =
    let inner : Sound IsColumn (bracketed (rowid_as MarkName)) = bracketed-sound IsColumn (rowid_as MarkName) (rowid-sound MarkName tt) in
    let third : Sound IsColumn (word (codes "PMARKER") >> bracketed (rowid_as MarkName)) = then-sound IsColumn (word (codes "PMARKER")) (bracketed (rowid_as MarkName)) (word-blind (codes "PMARKER")) inner in
    let second : Sound IsColumn (mark (codes ".") >> (word (codes "PMARKER") >> bracketed (rowid_as MarkName))) = then-sound IsColumn (mark (codes ".")) (word (codes "PMARKER") >> bracketed (rowid_as MarkName)) (mark-blind (codes ".")) third in
    then-sound IsColumn (word (codes "DBMS_MVIEW")) (mark (codes ".") >> (word (codes "PMARKER") >> bracketed (rowid_as MarkName))) (word-blind (codes "DBMS_MVIEW")) second

plain-sound : Sound IsColumn plain_name
plain-sound =
    bind-sound (IfThere IsName) IsColumn qualifier (λ q. name >>= (λ n. gives (column_named_by q (Plain n)))) qualifier-sound (λ q h.
    bind-sound IsName IsColumn name (λ n. gives (column_named_by q (Plain n))) name-sound (λ n k. gives-sound IsColumn (column_named_by q (Plain n)) (h, k)))

column-sound : Sound IsColumn column
column-sound = or-sound IsColumn marker (rowid_as RowIdName or plain_name) marker-sound (or-sound IsColumn (rowid_as RowIdName) plain_name (rowid-sound RowIdName tt) plain-sound)

-- ---- expressions, aggregates and items

product-written : (a : ColName) (b : Option ColName) → IsColumn a → IfThere IsColumn b → IsExpression (product_or_column a b)
product-written a None h k = h
product-written a (Some b) h k = (h, k)

expression-sound : Sound IsExpression expression
expression-sound =
    let star : Rule ColName = mark (codes "*") >> column in
    let f : ColName → Option ColName → Rule RawExpr = λ a b. gives (product_or_column a b) in
    let times : Sound (IfThere IsColumn) (maybe star) = maybe-sound IsColumn star (then-sound IsColumn (mark (codes "*")) column (mark-blind (codes "*")) column-sound) in
    let whole : Sound IsExpression (column >>= (λ a. maybe star >>= f a)) = bind-sound IsColumn IsExpression column (λ a. maybe star >>= f a) column-sound (λ a h.
    bind-sound (IfThere IsColumn) IsExpression (maybe star) (f a) times (λ b k. gives-sound IsExpression (product_or_column a b) (product-written a b h k))) in
    or-sound IsExpression (mapped Constant signed) (column >>= (λ a. maybe star >>= f a)) (mapped-sound IsSigned IsExpression Constant signed signed-sound (λ z h. h)) whole

call-sound : (w : List ℕ) (make : RawExpr → RawAgg) → ((e : RawExpr) → IsExpression e → IsAggregate (make e)) → Sound IsAggregate (aggregate_of w make)
call-sound w make h =
    then-sound IsAggregate (word w) (mapped make (bracketed expression)) (word-blind w) (mapped-sound IsExpression IsAggregate make (bracketed expression) (bracketed-sound IsExpression expression expression-sound) h)

star-along : (ts : List Token) (o u : Option (Token × List Token)) → Along o u
    → Along (option_case o None (λ p. (mark (codes ")") >> gives p.0) p.1)) (option_case u None (λ p. (mark (codes ")") >> gives p.0) p.1))
star-along ts None None h = tt
star-along ts None (Some q) h = absurd h
star-along ts (Some p) None h = absurd h
star-along ts (Some p) (Some q) h = rw h.0 (close-along p.0 q.0 (mark (codes ")") p.1) (mark (codes ")") (map unplaced p.1)) ((mark-blind (codes ")")).along p.1 h.1))
  where
    close-along : (x y : Token) (o u : Option (Token × List Token)) → Along o u → Along (option_case o None (λ p. gives x p.1)) (option_case u None (λ p. gives y p.1))
    close-along x y None None h = tt
    close-along x y None (Some q) h = absurd h
    close-along x y (Some p) None h = absurd h
    close-along x y (Some p) (Some q) h = h

star-blind : Blind (bracketed (mark (codes "*")))
star-blind =
    let inner : Blind (mark (codes "(") >> mark (codes "*")) = then-blind (mark (codes "(")) (mark (codes "*")) (mark-blind (codes "(")) (mark-blind (codes "*")) in
    record { along = λ ts all. star-along ts ((mark (codes "(") >> mark (codes "*")) ts) ((mark (codes "(") >> mark (codes "*")) (map unplaced ts)) (inner.along ts all) }

aggregate-sound : Sound IsAggregate aggregate
aggregate-sound =
    let rows : Rule RawAgg = mapped (λ _. CountRows) (word (codes "COUNT") >> bracketed (mark (codes "*"))) in
    let counts : Rule RawAgg = aggregate_of (codes "COUNT") CountOf in
    let sums : Rule RawAgg = aggregate_of (codes "SUM") SumOf in
    let averages : Rule RawAgg = aggregate_of (codes "AVG") AvgOf in
    let least : Rule RawAgg = aggregate_of (codes "MIN") MinOf in
    let greatest : Rule RawAgg = aggregate_of (codes "MAX") MaxOf in
    let five : Sound IsAggregate (least or greatest) = or-sound IsAggregate least greatest (call-sound (codes "MIN") MinOf (λ e h. h)) (call-sound (codes "MAX") MaxOf (λ e h. h)) in
    let four : Sound IsAggregate (averages or (least or greatest)) = or-sound IsAggregate averages (least or greatest) (call-sound (codes "AVG") AvgOf (λ e h. h)) five in
    let three : Sound IsAggregate (sums or (averages or (least or greatest))) = or-sound IsAggregate sums (averages or (least or greatest)) (call-sound (codes "SUM") SumOf (λ e h. h)) four in
    let two : Sound IsAggregate (counts or (sums or (averages or (least or greatest)))) = or-sound IsAggregate counts (sums or (averages or (least or greatest))) (call-sound (codes "COUNT") CountOf (λ e h. h)) three in
    or-sound IsAggregate rows (counts or (sums or (averages or (least or greatest))))
    (const-sound IsAggregate CountRows (word (codes "COUNT") >> bracketed (mark (codes "*"))) (then-blind (word (codes "COUNT")) (bracketed (mark (codes "*"))) (word-blind (codes "COUNT")) star-blind) tt) two

alias-sound : Sound (IfThere IsName) alias
alias-sound =
    maybe-sound IsName ((word (codes "AS") >> name) or name) (or-sound IsName (word (codes "AS") >> name) name (then-sound IsName (word (codes "AS")) name (word-blind (codes "AS")) name-sound) name-sound)

what-sound : Sound IsWhat (mapped what.Computed aggregate or mapped what.Plain column)
what-sound =
    or-sound IsWhat (mapped what.Computed aggregate) (mapped what.Plain column) (mapped-sound IsAggregate IsWhat what.Computed aggregate aggregate-sound (λ a h. h)) (mapped-sound IsColumn IsWhat what.Plain column column-sound (λ c h. h))

item-sound : Sound IsItem item
item-sound =
    let f : RawWhat → Option (List ℕ) → Rule RawItem = λ w a. gives (record { what = w; alias = a }) in
    bind-sound IsWhat IsItem (mapped what.Computed aggregate or mapped what.Plain column) (λ w. alias >>= f w) what-sound (λ w h.
    bind-sound (IfThere IsName) IsItem alias (f w) alias-sound (λ a k. gives-sound IsItem (record { what = w; alias = a }) (h, k)))

-- ---- FROM

join-sound : Sound IsJoin join
join-sound =
    let last : ColName → ColName → Rule RawJoin = λ a b. gives (record { left = a; right = b }) in
    let right : (a : ColName) → IsColumn a → Sound IsJoin (column >>= last a) = λ a h. bind-sound IsColumn IsJoin column (last a) column-sound (λ b k. gives-sound IsJoin (record { left = a; right = b }) (h, k)) in
    bind-sound IsColumn IsJoin column (λ a. mark (codes "=") >> (column >>= last a)) column-sound (λ a h.
    then-sound IsJoin (mark (codes "=")) (column >>= last a) (mark-blind (codes "=")) (right a h))

on-sound : Sound IsJoin on_join
on-sound = or-sound IsJoin (bracketed join) join (bracketed-sound IsJoin join join-sound) join-sound

abbrev IsTableName : List ℕ × Option (List ℕ) → Type 0
IsTableName p = IsName p.0 × IfThere IsName p.1

table-sound : Sound IsTableName table
table-sound =
    let last : List ℕ → Option (List ℕ) → Rule (List ℕ × Option (List ℕ)) = λ n a. gives (n, a) in
    bind-sound IsName IsTableName name (λ n. maybe name >>= last n) name-sound (λ n h.
    bind-sound (IfThere IsName) IsTableName (maybe name) (last n) (maybe-sound IsName name name-sound) (λ a k. gives-sound IsTableName (n, a) (h, k)))

joined-sound : Sound IsTable joined_table
joined-sound =
    let last : List ℕ × Option (List ℕ) → RawJoin → Rule RawTable = λ t j. gives (table_with (Some j) t) in
    let on : List ℕ × Option (List ℕ) → Rule RawTable = λ t. word (codes "ON") >> (on_join >>= last t) in
    let joins : (t : List ℕ × Option (List ℕ)) → IsTableName t → Sound IsTable (on_join >>= last t) = λ t h. bind-sound IsJoin IsTable on_join (last t) on-sound (λ j k. gives-sound IsTable (table_with (Some j) t) (h.0, h.1, k)) in
    let tables : Sound IsTable (table >>= on) = bind-sound IsTableName IsTable table on table-sound (λ t h. then-sound IsTable (word (codes "ON")) (on_join >>= last t) (word-blind (codes "ON")) (joins t h)) in
    let joined : Sound IsTable (word (codes "JOIN") >> (table >>= on)) = then-sound IsTable (word (codes "JOIN")) (table >>= on) (word-blind (codes "JOIN")) tables in
    then-sound IsTable (maybe (word (codes "INNER"))) (word (codes "JOIN") >> (table >>= on)) (maybe-blind (word (codes "INNER")) (word-blind (codes "INNER"))) joined

from-sound : Sound AreTables from_tables
from-sound =
    let listed : Rule RawTable = mapped (table_with None) (mark (codes ",") >> table) in
    let behind : Rule RawTable = listed or joined_table in
    let last : List ℕ × Option (List ℕ) → List RawTable → Rule (List RawTable) = λ t ts. gives (table_with None t ∷ ts) in
    let one : Sound IsTable listed = mapped-sound IsTableName IsTable (table_with None) (mark (codes ",") >> table) (then-sound IsTableName (mark (codes ",")) table (mark-blind (codes ",")) table-sound) (λ t h. (h.0, h.1, tt)) in
    let more : Sound (Each IsTable) (many behind) = many-sound IsTable behind (or-sound IsTable listed joined_table one joined-sound) in
    bind-sound IsTableName AreTables table (λ t. many behind >>= last t) table-sound (λ t h.
    bind-sound (Each IsTable) AreTables (many behind) (last t) more (λ ts k. gives-sound AreTables (table_with None t ∷ ts) ((h.0, h.1, tt), refl, k)))

-- ---- conditions

abbrev Any : {A : Type 0} → A → Type 0
Any x = Unit {0}

op-sound : (m : List ℕ) (o : Op) → Sound Any (op_of m o)
op-sound m o = const-sound Any o (mark m) (mark-blind m) tt

operator-sound : Sound Any operator
operator-sound =
    let six : Rule Op = op_of (codes ">=") Ge or op_of (codes ">") Gt in
    let five : Rule Op = op_of (codes "<") Lt or six in
    let four : Rule Op = op_of (codes "<=") Le or five in
    let three : Rule Op = op_of (codes "!=") Ne or four in
    let two : Rule Op = op_of (codes "<>") Ne or three in
    or-sound Any (op_of (codes "=") Eq) two (op-sound (codes "=") Eq)
    (or-sound Any (op_of (codes "<>") Ne) three (op-sound (codes "<>") Ne)
    (or-sound Any (op_of (codes "!=") Ne) four (op-sound (codes "!=") Ne)
    (or-sound Any (op_of (codes "<=") Le) five (op-sound (codes "<=") Le)
    (or-sound Any (op_of (codes "<") Lt) six (op-sound (codes "<") Lt)
    (or-sound Any (op_of (codes ">=") Ge) (op_of (codes ">") Gt) (op-sound (codes ">=") Ge) (op-sound (codes ">") Gt))))))

compare-sound : (c : ColName) → IsColumn c → Sound IsCondition (operator >>= (λ o. literal >>= (λ l. gives (raw.Compare c o l))))
compare-sound c h =
    bind-sound Any IsCondition operator (λ o. literal >>= (λ l. gives (raw.Compare c o l))) operator-sound (λ o u.
    bind-sound IsLiteral IsCondition literal (λ l. gives (raw.Compare c o l)) literal-sound (λ l k. gives-sound IsCondition (raw.Compare c o l) (h, k)))

between-sound : (c : ColName) → IsColumn c → Sound IsCondition (word (codes "BETWEEN") >> (literal >>= (λ l. word (codes "AND") >> (literal >>= (λ m. gives (raw.Between c l m))))))
between-sound c h =
    let high : Literal → Rule RawCondition = λ l. literal >>= (λ m. gives (raw.Between c l m)) in
    let highs : (l : Literal) → IsLiteral l → Sound IsCondition (high l) = λ l k. bind-sound IsLiteral IsCondition literal (λ m. gives (raw.Between c l m)) literal-sound (λ m j. gives-sound IsCondition (raw.Between c l m) (h, k, j)) in
    then-sound IsCondition (word (codes "BETWEEN")) (literal >>= (λ l. word (codes "AND") >> high l)) (word-blind (codes "BETWEEN"))
    (bind-sound IsLiteral IsCondition literal (λ l. word (codes "AND") >> high l) literal-sound (λ l k. then-sound IsCondition (word (codes "AND")) (high l) (word-blind (codes "AND")) (highs l k)))

equal-sound : (c : ColName) → IsColumn c → Sound IsCondition (mark (codes "=") >> (column >>= (λ d. gives (raw.Equal c d))))
equal-sound c h =
    then-sound IsCondition (mark (codes "=")) (column >>= (λ d. gives (raw.Equal c d))) (mark-blind (codes "="))
    (bind-sound IsColumn IsCondition column (λ d. gives (raw.Equal c d)) column-sound (λ d k. gives-sound IsCondition (raw.Equal c d) (h, k)))

one_of-sound : (c : ColName) → IsColumn c → Sound IsCondition (mapped (raw.OneOf c) (word (codes "IN") >> bracketed (listed literal)))
one_of-sound c h =
    let among : Sound (EachOfSome IsLiteral) (bracketed (listed literal)) = bracketed-sound (EachOfSome IsLiteral) (listed literal) (listed-sound IsLiteral literal literal-sound) in
    mapped-sound (EachOfSome IsLiteral) IsCondition (raw.OneOf c) (word (codes "IN") >> bracketed (listed literal)) (then-sound (EachOfSome IsLiteral) (word (codes "IN")) (bracketed (listed literal)) (word-blind (codes "IN")) among) (λ ls k. (h, k))

null-blind : Blind (word (codes "IS") >> word (codes "NULL"))
null-blind = then-blind (word (codes "IS")) (word (codes "NULL")) (word-blind (codes "IS")) (word-blind (codes "NULL"))

not_null-blind : Blind (word (codes "IS") >> word (codes "NOT") >> word (codes "NULL"))
not_null-blind = then-blind (word (codes "IS") >> word (codes "NOT")) (word (codes "NULL")) (then-blind (word (codes "IS")) (word (codes "NOT")) (word-blind (codes "IS")) (word-blind (codes "NOT"))) (word-blind (codes "NULL"))

tail-sound : (c : ColName) → IsColumn c → Sound IsCondition (condition_on c)
tail-sound c h =
    let compares : Rule RawCondition = operator >>= (λ o. literal >>= (λ l. gives (raw.Compare c o l))) in
    let between : Rule RawCondition = word (codes "BETWEEN") >> (literal >>= (λ l. word (codes "AND") >> (literal >>= (λ m. gives (raw.Between c l m))))) in
    let equal : Rule RawCondition = mark (codes "=") >> (column >>= (λ d. gives (raw.Equal c d))) in
    let one_of : Rule RawCondition = mapped (raw.OneOf c) (word (codes "IN") >> bracketed (listed literal)) in
    let null : Rule RawCondition = mapped (λ _. raw.IsNull c) (word (codes "IS") >> word (codes "NULL")) in
    let not_null : Rule RawCondition = mapped (λ _. raw.NotNull c) (word (codes "IS") >> word (codes "NOT") >> word (codes "NULL")) in
    or-sound IsCondition compares (between or (equal or (one_of or (null or not_null)))) (compare-sound c h)
    (or-sound IsCondition between (equal or (one_of or (null or not_null))) (between-sound c h)
    (or-sound IsCondition equal (one_of or (null or not_null)) (equal-sound c h)
    (or-sound IsCondition one_of (null or not_null) (one_of-sound c h)
    (or-sound IsCondition null not_null (const-sound IsCondition (raw.IsNull c) (word (codes "IS") >> word (codes "NULL")) null-blind h)
    (const-sound IsCondition (raw.NotNull c) (word (codes "IS") >> word (codes "NOT") >> word (codes "NULL")) not_null-blind h)))))

condition-sound : Sound IsCondition condition
condition-sound = bind-sound IsColumn IsCondition column condition_on column-sound tail-sound

all-sound : {A : Type 0} (P : A → Type 0) (r : Rule A) → Sound P r → Sound (EachOfSome P) (all_of r)
all-sound {A} P r h =
    let more : Rule A = word (codes "AND") >> r in
    let last : A → List A → Rule (List A) = λ x xs. gives (x ∷ xs) in
    bind-sound P (EachOfSome P) r (λ x. many more >>= last x) h (λ x p.
    bind-sound (Each P) (EachOfSome P) (many more) (last x) (many-sound P more (then-sound P (word (codes "AND")) r (word-blind (codes "AND")) h)) (λ xs ps. gives-sound (EachOfSome P) (x ∷ xs) (p, ps)))

where-sound : Sound (Each IsCondition) where_conditions
where-sound = optional-sound IsCondition (word (codes "WHERE") >> all_of condition) (then-sound (EachOfSome IsCondition) (word (codes "WHERE")) (all_of condition) (word-blind (codes "WHERE")) (all-sound IsCondition condition condition-sound))

-- ---- HAVING, ORDER BY and AS OF

test-sound : Sound IsTest test
test-sound =
    let last : RawAgg → Op → Literal → Rule RawTest = λ a o l. gives (record { agg = a; op = o; literal = l }) in
    bind-sound IsAggregate IsTest aggregate (λ a. operator >>= (λ o. literal >>= last a o)) aggregate-sound (λ a h.
    bind-sound Any IsTest operator (λ o. literal >>= last a o) operator-sound (λ o u.
    bind-sound IsLiteral IsTest literal (last a o) literal-sound (λ l k. gives-sound IsTest (record { agg = a; op = o; literal = l }) (h, k))))

order-sound : Sound IsOrder (mapped (λ n. order.Position (pos n)) number or mapped order.Computed aggregate or mapped order.Column column)
order-sound =
    let place : Rule RawOrder = mapped (λ n. order.Position (pos n)) number in
    let computed : Rule RawOrder = mapped order.Computed aggregate in
    let plain : Rule RawOrder = mapped order.Column column in
    or-sound IsOrder place (computed or plain) (mapped-sound IsFew IsOrder (λ n. order.Position (pos n)) number number-sound (λ n h. h))
    (or-sound IsOrder computed plain (mapped-sound IsAggregate IsOrder order.Computed aggregate aggregate-sound (λ a h. h)) (mapped-sound IsColumn IsOrder order.Column column column-sound (λ c h. h)))

direction-sound : Sound Any ((word (codes "ASC") >> gives false) or (word (codes "DESC") >> gives true) or gives false)
direction-sound =
    let up : Rule Bool = word (codes "ASC") >> gives false in
    let down : Rule Bool = word (codes "DESC") >> gives true in
    or-sound Any up (down or gives false) (then-sound Any (word (codes "ASC")) (gives false) (word-blind (codes "ASC")) (gives-sound Any false tt))
    (or-sound Any down (gives false) (then-sound Any (word (codes "DESC")) (gives true) (word-blind (codes "DESC")) (gives-sound Any true tt)) (gives-sound Any false tt))

key-sound : Sound IsKey order_key
key-sound =
    let direction : Rule Bool = (word (codes "ASC") >> gives false) or (word (codes "DESC") >> gives true) or gives false in
    let last : RawOrder → Bool → Rule RawKey = λ w d. gives (record { what = w; descending = d }) in
    bind-sound IsOrder IsKey (mapped (λ n. order.Position (pos n)) number or mapped order.Computed aggregate or mapped order.Column column) (λ w. direction >>= last w) order-sound (λ w h.
    bind-sound Any IsKey direction (last w) direction-sound (λ d u. gives-sound IsKey (record { what = w; descending = d }) h))

as_of-sound : Sound (IfThere IsUnsigned) as_of
as_of-sound =
    let two : Blind (word (codes "AS") >> word (codes "OF")) = then-blind (word (codes "AS")) (word (codes "OF")) (word-blind (codes "AS")) (word-blind (codes "OF")) in
    let three : Blind (word (codes "AS") >> word (codes "OF") >> word (codes "SCN")) = then-blind (word (codes "AS") >> word (codes "OF")) (word (codes "SCN")) two (word-blind (codes "SCN")) in
    maybe-sound IsUnsigned (word (codes "AS") >> word (codes "OF") >> word (codes "SCN") >> mapped pos number) (then-sound IsUnsigned (word (codes "AS") >> word (codes "OF") >> word (codes "SCN")) (mapped pos number) three unsigned-sound)

-- ---- the whole

groups-sound : Sound (Each IsColumn) (optional_list (word (codes "GROUP") >> word (codes "BY") >> listed column))
groups-sound =
    let keywords : Blind (word (codes "GROUP") >> word (codes "BY")) = then-blind (word (codes "GROUP")) (word (codes "BY")) (word-blind (codes "GROUP")) (word-blind (codes "BY")) in
    optional-sound IsColumn (word (codes "GROUP") >> word (codes "BY") >> listed column) (then-sound (EachOfSome IsColumn) (word (codes "GROUP") >> word (codes "BY")) (listed column) keywords (listed-sound IsColumn column column-sound))

having-sound : Sound (Each IsTest) (optional_list (word (codes "HAVING") >> all_of test))
having-sound = optional-sound IsTest (word (codes "HAVING") >> all_of test) (then-sound (EachOfSome IsTest) (word (codes "HAVING")) (all_of test) (word-blind (codes "HAVING")) (all-sound IsTest test test-sound))

keys-sound : Sound (Each IsKey) (optional_list (word (codes "ORDER") >> word (codes "BY") >> listed order_key))
keys-sound =
    let keywords : Blind (word (codes "ORDER") >> word (codes "BY")) = then-blind (word (codes "ORDER")) (word (codes "BY")) (word-blind (codes "ORDER")) (word-blind (codes "BY")) in
    optional-sound IsKey (word (codes "ORDER") >> word (codes "BY") >> listed order_key) (then-sound (EachOfSome IsKey) (word (codes "ORDER") >> word (codes "BY")) (listed order_key) keywords (listed-sound IsKey order_key key-sound))

abbrev groups : Rule (List ColName)
groups = optional_list (word (codes "GROUP") >> word (codes "BY") >> listed column)

abbrev havings : Rule (List RawTest)
havings = optional_list (word (codes "HAVING") >> all_of test)

abbrev keys : Rule (List RawKey)
keys = optional_list (word (codes "ORDER") >> word (codes "BY") >> listed order_key)

abbrev made : List RawItem → List RawTable → Option ℤ → List RawCondition → List ColName → List RawTest → List RawKey → RawQuery
made i t s c g h o = record { items = i; tables = t; as_of = s; conditions = c; groups = g; having = h; order = o }

tail-of : (i : List RawItem) (t : List RawTable) (s : Option ℤ) → EachOfSome IsItem i → AreTables t → IfThere IsUnsigned s
    → Sound IsWritten (where_conditions >>= (λ c. groups >>= (λ g. havings >>= (λ h. keys >>= (λ o. gives (made i t s c g h o))))))
tail-of i t s ii tt' ss =
    bind-sound (Each IsCondition) IsWritten where_conditions (λ c. groups >>= (λ g. havings >>= (λ h. keys >>= (λ o. gives (made i t s c g h o))))) where-sound (λ c cc'.
    bind-sound (Each IsColumn) IsWritten groups (λ g. havings >>= (λ h. keys >>= (λ o. gives (made i t s c g h o)))) groups-sound (λ g gg.
    bind-sound (Each IsTest) IsWritten havings (λ h. keys >>= (λ o. gives (made i t s c g h o))) having-sound (λ h hh.
    bind-sound (Each IsKey) IsWritten keys (λ o. gives (made i t s c g h o)) keys-sound (λ o oo.
    gives-sound IsWritten (made i t s c g h o) (record { items = ii; tables = tt'; as_of = ss; conditions = cc'; groups = gg; having = hh; order = oo })))))

abbrev rest_of : List RawItem → List RawTable → Option ℤ → Rule RawQuery
rest_of i t s = where_conditions >>= (λ c. groups >>= (λ g. havings >>= (λ h. keys >>= (λ o. gives (made i t s c g h o)))))

from-of : (i : List RawItem) → EachOfSome IsItem i → Sound IsWritten (word (codes "FROM") >> (from_tables >>= (λ t. as_of >>= (λ s. rest_of i t s))))
from-of i ii =
    then-sound IsWritten (word (codes "FROM")) (from_tables >>= (λ t. as_of >>= (λ s. rest_of i t s))) (word-blind (codes "FROM"))
    (bind-sound AreTables IsWritten from_tables (λ t. as_of >>= (λ s. rest_of i t s)) from-sound (λ t tables.
    bind-sound (IfThere IsUnsigned) IsWritten as_of (λ s. rest_of i t s) as_of-sound (λ s scn. tail-of i t s ii tables scn)))

pub select-sound : Sound IsWritten select
select-sound =
    then-sound IsWritten (word (codes "SELECT")) (listed item >>= (λ i. word (codes "FROM") >> (from_tables >>= (λ t. as_of >>= (λ s. rest_of i t s))))) (word-blind (codes "SELECT"))
    (bind-sound (EachOfSome IsItem) IsWritten (listed item) (λ i. word (codes "FROM") >> (from_tables >>= (λ t. as_of >>= (λ s. rest_of i t s)))) (listed-sound IsItem item item-sound) from-of)
