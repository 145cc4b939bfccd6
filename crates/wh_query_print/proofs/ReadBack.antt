-- Each rule of a query reads back the tokens of what can be written.
use Rattle.std.proofs.Common.{◌≡◌, ℕ, ◌<◌, ◌^◌, suc, List, ◌∷◌, ◌++◌, refl, ap, sym, append_assoc, true, false, Bool, subst, Option, Some, None}
use Rattle.std.specs.Prelude.{codes, decimal, neg_ℤ, negsuc, option_map, pos, ℤ}
use Rattle.wh_base.proofs.Calendar.{names_its_day}
use Rattle.wh_base.specs.Lists.{has_text, same_text}
use Rattle.wh_base.specs.declared.queries.ColName.{ColName}
use Rattle.wh_base.specs.declared.queries.NamePart.{NamePart}
use Rattle.wh_base.specs.declared.queries.NamePart.TheVariants.{MarkName, Plain, RowIdName}
use Rattle.wh_base.specs.declared.queries.RawAgg.{RawAgg}
use Rattle.wh_base.specs.declared.queries.RawAgg.TheVariants.{AvgOf, CountOf, CountRows, MaxOf, MinOf, SumOf}
use Rattle.wh_base.specs.declared.queries.RawCondition.{RawCondition}
use Rattle.wh_base.specs.declared.queries.RawCondition.TheVariants as raw
use Rattle.wh_base.specs.declared.queries.RawExpr.{RawExpr}
use Rattle.wh_base.specs.declared.queries.RawExpr.TheVariants.{Column, Constant, Times}
use Rattle.wh_base.specs.declared.queries.RawItem.{RawItem}
use Rattle.wh_base.specs.declared.queries.RawKey.{RawKey}
use Rattle.wh_base.specs.declared.queries.RawOrder.{RawOrder}
use Rattle.wh_base.specs.declared.queries.RawOrder.TheVariants as order
use Rattle.wh_base.specs.declared.queries.RawTest.{RawTest}
use Rattle.wh_base.specs.declared.queries.RawWhat.{RawWhat}
use Rattle.wh_base.specs.declared.queries.RawWhat.TheVariants as what
use Rattle.wh_base.specs.declared.values.Literal.{Literal}
use Rattle.wh_base.specs.declared.values.Literal.TheVariants.{Dated, Number, Quoted}
use Rattle.wh_base.specs.declared.values.Op.{Op}
use Rattle.wh_base.specs.declared.values.Op.TheVariants.{Eq, Ge, Gt, Le, Lt, Ne}
use Rattle.wh_base.specs.declared.tokens.Token.{Token}
use Rattle.wh_base.specs.declared.tokens.TokenKind.TheVariants as kinds
use Rattle.def_grammar.specs.Canonical.{aggregate_tokens, alias_tokens, bare, column_tokens, comma, condition_column, condition_tail_tokens, condition_tokens, direction_tokens, expression_tokens, item_tokens, key_tokens, listed_tokens, literal_tokens, marked, named, numbered, op_text, order_tokens, part_tokens, qualifier_tokens, signed_tokens, test_tokens, what_tokens}
use Rattle.def_grammar.specs.Query.{aggregate, aggregate_of, alias, column, column_named_by, condition, condition_on, expression, item, literal, marker, operator, order_key, plain_name, qualifier, rowid_as, signed, test}
use Rattle.def_grammar.specs.Reading.{Rule, bracketed, gives, listed, mapped, mark, name, number, reserved, word, ◌>>=◌, ◌>>◌, ◌or◌}
use Rattle.def_grammar.specs.Written.{EachOfSome, IfThere, IsAggregate, IsColumn, IsCondition, IsExpression, IsItem, IsKey, IsLiteral, IsName, IsNamePart, IsOrder, IsSigned, IsTest, IsWhat}
use Rattle.wh_query_print.proofs.Begun.{Parts, bind-some, bind-none, mapped-some, mapped-none, or-first, or-second, parted-read, then-none}
use Rattle.wh_query_print.proofs.Decimal.{number-decimal}
use Rattle.wh_query_print.proofs.Marks.{same-text}

-- ---- names and literals

name-by : (n : List ℕ) (ts : List Token) (b : Bool) → has_text reserved n ≡ b → b ≡ false → name (bare kinds.Name n ∷ ts) ≡ Some (n, ts)
name-by n ts true e h = cc
name-by n ts false e h = rw e refl

pub name-read : (n : List ℕ) → IsName n → (ts : List Token) → name (bare kinds.Name n ∷ ts) ≡ Some (n, ts)
name-read n h ts = name-by n ts (has_text reserved n) refl h.1

number-read : (n : ℕ) → n < 10 ^ 38 → (ts : List Token) → number (bare kinds.Number (decimal n) ∷ ts) ≡ Some (n, ts)
number-read n h ts = rw (number-decimal n h) refl

pub unsigned-read : (n : ℕ) → n < 10 ^ 38 → (ts : List Token) → mapped pos number (numbered n ++ ts) ≡ Some (pos n, ts)
unsigned-read n h ts = mapped-some pos number n (numbered n ++ ts) ts (number-read n h ts)

signed-read : (z : ℤ) → IsSigned z → (ts : List Token) → signed (signed_tokens z ++ ts) ≡ Some (z, ts)
signed-read (pos n) h ts = unsigned-read n h ts
signed-read (negsuc n) h ts =
    or-first (mark (codes "-") >> mapped (λ n. neg_ℤ (pos n)) number) (mapped pos number) (negsuc n, ts) (signed_tokens (negsuc n) ++ ts)
    (mapped-some (λ n. neg_ℤ (pos n)) number (suc n) (numbered (suc n) ++ ts) ts (number-read (suc n) h ts))

pub literal-read : (l : Literal) → IsLiteral l → (ts : List Token) → literal (literal_tokens l ++ ts) ≡ Some (l, ts)
literal-read (Number z) h ts = rw (signed-read z h ts) refl
literal-read (Quoted text) h ts = refl
literal-read (Dated n) h ts = ap (λ o. option_map (λ l. (l, ts)) (option_map Dated o)) (names_its_day n h)

-- ---- columns

-- what may stand behind a column
pub record AfterColumn (ts : List Token) : Type 0 where
  pub dot : mark (codes ".") ts ≡ None
  pub opening : mark (codes "(") ts ≡ None

other-by : (ws : List (List ℕ)) (w n : List ℕ) → has_text ws n ≡ false → has_text ws w ≡ true → same_text n w ≡ false
other-by ws w n kept is = by (same_text n w) refl
  where
    by : (b : Bool) → same_text n w ≡ b → b ≡ false
    by true e = let same : n ≡ w = same-text n w e in let no : has_text ws n ≡ true = subst (λ x. has_text ws x ≡ true) (sym same) is in cc
    by false e = refl

-- a name is no word of the language
pub not-word : (w n : List ℕ) → IsName n → has_text reserved w ≡ true → same_text n w ≡ false
not-word w n h is = other-by reserved w n h.1 is

marker-none : (n : List ℕ) (ts : List Token) → mark (codes ".") ts ≡ None → marker (bare kinds.Name n ∷ ts) ≡ None
marker-none n ts dot = by (same_text n (codes "DBMS_MVIEW")) refl
  where
    by : (b : Bool) → same_text n (codes "DBMS_MVIEW") ≡ b → marker (bare kinds.Name n ∷ ts) ≡ None
    by true e = rw (e, dot) refl
    by false e = rw e refl

marker-not : (m n : List ℕ) (ts : List Token) → mark (codes "(") ts ≡ None → marker (bare kinds.Name m ∷ bare kinds.Mark (codes ".") ∷ bare kinds.Name n ∷ ts) ≡ None
marker-not m n ts opening = by (same_text m (codes "DBMS_MVIEW")) (same_text n (codes "PMARKER")) refl refl
  where
    by : (b c : Bool) → same_text m (codes "DBMS_MVIEW") ≡ b → same_text n (codes "PMARKER") ≡ c → marker (bare kinds.Name m ∷ bare kinds.Mark (codes ".") ∷ bare kinds.Name n ∷ ts) ≡ None
    by true true e f = rw (e, f, opening) refl
    by true false e f = rw (e, f) refl
    by false c e f = rw e refl

no-qualifier : (n : List ℕ) → IsName n → (ts : List Token) → mark (codes ".") ts ≡ None → qualifier (bare kinds.Name n ∷ ts) ≡ Some (None, bare kinds.Name n ∷ ts)
no-qualifier n h ts dot = rw (name-read n h ts, dot) refl

with-qualifier : (n : List ℕ) → IsName n → (ts : List Token) → qualifier (bare kinds.Name n ∷ bare kinds.Mark (codes ".") ∷ ts) ≡ Some (Some n, ts)
with-qualifier n h ts = rw (name-read n h (bare kinds.Mark (codes ".") ∷ ts)) refl

word-none : (k n : List ℕ) (ts : List Token) → same_text n k ≡ false → word k (bare kinds.Name n ∷ ts) ≡ None
word-none k n ts e = rw e refl

abbrev named_column : Option (List ℕ) → List ℕ → ColName
named_column q n = record { qualifier = q; part = Plain n }

qualified-read : (q : Option (List ℕ)) (n : List ℕ) → IsName n → (all ts : List Token) → marker all ≡ None → qualifier all ≡ Some (q, bare kinds.Name n ∷ ts) → column all ≡ Some (named_column q n, ts)
qualified-read q n h all ts no_marker read =
    let rest : List Token = bare kinds.Name n ∷ ts in
    let rowid : Option (List ℕ) → Rule ColName = λ p. word (codes "ROWID") >> gives (column_named_by p RowIdName) in
    let plain : Option (List ℕ) → Rule ColName = λ p. name >>= (λ m. gives (column_named_by p (Plain m))) in
    let no_rowid : rowid_as RowIdName all ≡ None = bind-some qualifier rowid q None all rest read (then-none (word (codes "ROWID")) (gives (column_named_by q RowIdName)) rest (word-none (codes "ROWID") n ts (not-word (codes "ROWID") n h refl))) in
    let whole : plain_name all ≡ Some (named_column q n, ts) = bind-some qualifier plain q (Some (named_column q n, ts)) all rest read (bind-some name (λ m. gives (column_named_by q (Plain m))) n (Some (named_column q n, ts)) rest ts (name-read n h ts) refl) in
    or-second marker (rowid_as RowIdName or plain_name) (Some (named_column q n, ts)) all no_marker (or-second (rowid_as RowIdName) plain_name (Some (named_column q n, ts)) all no_rowid whole)

plain-read : (q : Option (List ℕ)) (n : List ℕ) → IfThere IsName q → IsName n → (ts : List Token) → AfterColumn ts
    → column (part_tokens (Plain n) (qualifier_tokens q) ++ ts) ≡ Some (record { qualifier = q; part = Plain n }, ts)
plain-read None n k h ts after = qualified-read None n h (bare kinds.Name n ∷ ts) ts (marker-none n ts after.dot) (no-qualifier n h ts after.dot)
plain-read (Some m) n k h ts after =
    qualified-read (Some m) n h (bare kinds.Name m ∷ bare kinds.Mark (codes ".") ∷ bare kinds.Name n ∷ ts) ts (marker-not m n ts after.opening) (with-qualifier m k (bare kinds.Name n ∷ ts))

rowid-read : (q : Option (List ℕ)) (p : NamePart) → IfThere IsName q → (ts : List Token) → rowid_as p (part_tokens RowIdName (qualifier_tokens q) ++ ts) ≡ Some (record { qualifier = q; part = p }, ts)
rowid-read None p k ts = refl
rowid-read (Some m) p k ts = rw (with-qualifier m k (bare kinds.Name (codes "ROWID") ∷ ts)) refl

marker-rowid : (q : Option (List ℕ)) → IfThere IsName q → (ts : List Token) → marker (part_tokens RowIdName (qualifier_tokens q) ++ ts) ≡ None
marker-rowid None k ts = refl
marker-rowid (Some m) k ts = by (same_text m (codes "DBMS_MVIEW")) refl
  where
    by : (b : Bool) → same_text m (codes "DBMS_MVIEW") ≡ b → marker (bare kinds.Name m ∷ bare kinds.Mark (codes ".") ∷ bare kinds.Name (codes "ROWID") ∷ ts) ≡ None
    by true e = rw e refl
    by false e = rw e refl

marked-read : (q : Option (List ℕ)) → IfThere IsName q → (ts : List Token) → marker (part_tokens MarkName (qualifier_tokens q) ++ ts) ≡ Some (record { qualifier = q; part = MarkName }, ts)
marked-read None k ts = refl
marked-read (Some m) k ts = rw (rowid-read (Some m) MarkName k (bare kinds.Mark (codes ")") ∷ ts)) refl

part-read : (q : Option (List ℕ)) (p : NamePart) → IfThere IsName q → IsNamePart p → (ts : List Token) → AfterColumn ts
    → column (part_tokens p (qualifier_tokens q) ++ ts) ≡ Some (record { qualifier = q; part = p }, ts)
part-read q (Plain n) k h ts after = plain-read q n k h ts after
part-read q RowIdName k h ts after = rw (marker-rowid q k ts, rowid-read q RowIdName k ts) refl
part-read q MarkName k h ts after = rw (marked-read q k ts) refl

pub column-read : (c : ColName) → IsColumn c → (ts : List Token) → AfterColumn ts → column (column_tokens c ++ ts) ≡ Some (c, ts)
column-read c h ts after = part-read c.qualifier c.part h.0 h.1 ts after

-- ---- what a column begins with

-- a word that begins no aggregate and no date
pub record Head (ts : List Token) : Type 0 where
  pub first : List ℕ
  pub others : List Token
  pub is : ts ≡ bare kinds.Name first ∷ others
  pub count : same_text first (codes "COUNT") ≡ false
  pub sum : same_text first (codes "SUM") ≡ false
  pub avg : same_text first (codes "AVG") ≡ false
  pub min : same_text first (codes "MIN") ≡ false
  pub max : same_text first (codes "MAX") ≡ false
  pub date : same_text first (codes "DATE") ≡ false

head-name : (n : List ℕ) → IsName n → (ts : List Token) → Head (bare kinds.Name n ∷ ts)
head-name n h ts =
    record {
      first = n;
      others = ts;
      is = refl;
      count = not-word (codes "COUNT") n h refl;
      sum = not-word (codes "SUM") n h refl;
      avg = not-word (codes "AVG") n h refl;
      min = not-word (codes "MIN") n h refl;
      max = not-word (codes "MAX") n h refl;
      date = not-word (codes "DATE") n h refl;
    }

part-head : (q : Option (List ℕ)) (p : NamePart) → IfThere IsName q → IsNamePart p → (ts : List Token) → Head (part_tokens p (qualifier_tokens q) ++ ts)
part-head q MarkName k h ts = record { first = codes "DBMS_MVIEW"; others = _; is = refl; count = refl; sum = refl; avg = refl; min = refl; max = refl; date = refl }
part-head None (Plain n) k h ts = head-name n h ts
part-head (Some m) (Plain n) k h ts = head-name m k (bare kinds.Mark (codes ".") ∷ bare kinds.Name n ∷ ts)
part-head None RowIdName k h ts = record { first = codes "ROWID"; others = ts; is = refl; count = refl; sum = refl; avg = refl; min = refl; max = refl; date = refl }
part-head (Some m) RowIdName k h ts = head-name m k (bare kinds.Mark (codes ".") ∷ bare kinds.Name (codes "ROWID") ∷ ts)

pub column-head : (c : ColName) → IsColumn c → (ts : List Token) → Head (column_tokens c ++ ts)
column-head c h ts = part-head c.qualifier c.part h.0 h.1 ts

no-literal : (ts : List Token) → Head ts → literal ts ≡ None
no-literal ts h = rw (h.is, h.date) refl

no-signed : (ts : List Token) → Head ts → signed ts ≡ None
no-signed ts h = rw h.is refl

no-number : (ts : List Token) → Head ts → number ts ≡ None
no-number ts h = rw h.is refl

pub no-mark : (m : List ℕ) (ts : List Token) → Head ts → mark m ts ≡ None
no-mark m ts h = rw h.is refl

call-none : (w k : List ℕ) (make : RawExpr → RawAgg) (ts : List Token) → same_text w k ≡ false → aggregate_of k make (bare kinds.Name w ∷ ts) ≡ None
call-none w k make ts e = rw e refl

rows-none : (w k : List ℕ) (ts : List Token) → same_text w k ≡ false → mapped (λ _. CountRows) (word k >> bracketed (mark (codes "*"))) (bare kinds.Name w ∷ ts) ≡ None
rows-none w k ts e = rw e refl

no-call : (w : List ℕ) (others : List Token) → same_text w (codes "COUNT") ≡ false → same_text w (codes "SUM") ≡ false → same_text w (codes "AVG") ≡ false
    → same_text w (codes "MIN") ≡ false → same_text w (codes "MAX") ≡ false → aggregate (bare kinds.Name w ∷ others) ≡ None
no-call w others count sum avg min max =
    let ts : List Token = bare kinds.Name w ∷ others in
    let rows : Rule RawAgg = mapped (λ _. CountRows) (word (codes "COUNT") >> bracketed (mark (codes "*"))) in
    let counts : Rule RawAgg = aggregate_of (codes "COUNT") CountOf in
    let sums : Rule RawAgg = aggregate_of (codes "SUM") SumOf in
    let averages : Rule RawAgg = aggregate_of (codes "AVG") AvgOf in
    let least : Rule RawAgg = aggregate_of (codes "MIN") MinOf in
    let greatest : Rule RawAgg = aggregate_of (codes "MAX") MaxOf in
    or-second rows (counts or (sums or (averages or (least or greatest)))) None ts (rows-none w (codes "COUNT") others count)
    (or-second counts (sums or (averages or (least or greatest))) None ts (call-none w (codes "COUNT") CountOf others count)
    (or-second sums (averages or (least or greatest)) None ts (call-none w (codes "SUM") SumOf others sum)
    (or-second averages (least or greatest) None ts (call-none w (codes "AVG") AvgOf others avg)
    (or-second least greatest None ts (call-none w (codes "MIN") MinOf others min) (call-none w (codes "MAX") MaxOf others max)))))

no-aggregate : (ts : List Token) → Head ts → aggregate ts ≡ None
no-aggregate ts h = rw h.is (no-call h.first h.others h.count h.sum h.avg h.min h.max)

-- ---- expressions, aggregates and items

after-close : (ts : List Token) → AfterColumn (bare kinds.Mark (codes ")") ∷ ts)
after-close ts = record { dot = refl; opening = refl }

after-star : (ts : List Token) → AfterColumn (bare kinds.Mark (codes "*") ∷ ts)
after-star ts = record { dot = refl; opening = refl }

-- an expression stands in parentheses
expression-read : (e : RawExpr) → IsExpression e → (ts : List Token) → expression (expression_tokens e ++ bare kinds.Mark (codes ")") ∷ ts) ≡ Some (e, bare kinds.Mark (codes ")") ∷ ts)
expression-read (Column c) h ts =
    let close : List Token = bare kinds.Mark (codes ")") ∷ ts in
    rw (no-signed (column_tokens c ++ close) (column-head c h close), column-read c h close (after-close ts)) refl
expression-read (Times c d) h ts =
    let close : List Token = bare kinds.Mark (codes ")") ∷ ts in
    let star : List Token = bare kinds.Mark (codes "*") ∷ (column_tokens d ++ close) in
    rw (append_assoc (column_tokens c) (marked (codes "*") ++ column_tokens d) close, no-signed (column_tokens c ++ star) (column-head c h.0 star), column-read c h.0 star (after-star (column_tokens d ++ close)), column-read d h.1 close (after-close ts)) refl
expression-read (Constant z) h ts = rw (signed-read z h (bare kinds.Mark (codes ")") ∷ ts)) refl

no-star : (e : RawExpr) → IsExpression e → (ts : List Token) → mark (codes "*") (expression_tokens e ++ ts) ≡ None
no-star (Column c) h ts = no-mark (codes "*") (column_tokens c ++ ts) (column-head c h ts)
no-star (Times c d) h ts =
    let star : List Token = bare kinds.Mark (codes "*") ∷ (column_tokens d ++ ts) in
    rw (append_assoc (column_tokens c) (marked (codes "*") ++ column_tokens d) ts) (no-mark (codes "*") (column_tokens c ++ star) (column-head c h.0 star))
no-star (Constant (pos n)) h ts = refl
no-star (Constant (negsuc n)) h ts = refl

inner-read : (e : RawExpr) → IsExpression e → (ts : List Token) → bracketed expression (bare kinds.Mark (codes "(") ∷ ((expression_tokens e ++ marked (codes ")")) ++ ts)) ≡ Some (e, ts)
inner-read e h ts = rw (append_assoc (expression_tokens e) (marked (codes ")")) ts, expression-read e h ts) refl

inner-not : (e : RawExpr) → IsExpression e → (ts : List Token) → bracketed (mark (codes "*")) (bare kinds.Mark (codes "(") ∷ ((expression_tokens e ++ marked (codes ")")) ++ ts)) ≡ None
inner-not e h ts = rw (append_assoc (expression_tokens e) (marked (codes ")")) ts, no-star e h (bare kinds.Mark (codes ")") ∷ ts)) refl

pub aggregate-read : (a : RawAgg) → IsAggregate a → (ts : List Token) → aggregate (aggregate_tokens a ++ ts) ≡ Some (a, ts)
aggregate-read CountRows h ts = refl
aggregate-read (CountOf e) h ts = rw (inner-not e h ts, inner-read e h ts) refl
aggregate-read (SumOf e) h ts = rw (inner-read e h ts) refl
aggregate-read (AvgOf e) h ts = rw (inner-read e h ts) refl
aggregate-read (MinOf e) h ts = rw (inner-read e h ts) refl
aggregate-read (MaxOf e) h ts = rw (inner-read e h ts) refl

what-read : (w : RawWhat) → IsWhat w → (ts : List Token) → AfterColumn ts → (mapped what.Computed aggregate or mapped what.Plain column) (what_tokens w ++ ts) ≡ Some (w, ts)
what-read (what.Plain c) h ts after = rw (no-aggregate (column_tokens c ++ ts) (column-head c h ts), column-read c h ts after) refl
what-read (what.Computed a) h ts after = rw (aggregate-read a h ts) refl

-- what may stand behind an item
pub record AfterItem (ts : List Token) : Type 0 where
  pub column : AfterColumn ts
  pub no_as : word (codes "AS") ts ≡ None
  pub no_name : name ts ≡ None

alias-read : (a : Option (List ℕ)) → IfThere IsName a → (ts : List Token) → AfterItem ts → alias (alias_tokens a ++ ts) ≡ Some (a, ts)
alias-read None h ts after = rw (after.no_as, after.no_name) refl
alias-read (Some n) h ts after = rw (name-read n h ts) refl

alias-after : (a : Option (List ℕ)) (ts : List Token) → AfterItem ts → AfterColumn (alias_tokens a ++ ts)
alias-after None ts after = after.column
alias-after (Some n) ts after = record { dot = refl; opening = refl }

pub item-read : (i : RawItem) → IsItem i → (ts : List Token) → AfterItem ts → item (item_tokens i ++ ts) ≡ Some (i, ts)
item-read i h ts after =
    rw (append_assoc (what_tokens i.what) (alias_tokens i.alias) ts, what-read i.what h.0 (alias_tokens i.alias ++ ts) (alias-after i.alias ts after), alias-read i.alias h.1 ts after) refl

-- ---- conditions

operator-read : (o : Op) (ts : List Token) → operator (marked (op_text o) ++ ts) ≡ Some (o, ts)
operator-read Eq ts = refl
operator-read Ne ts = refl
operator-read Lt ts = refl
operator-read Le ts = refl
operator-read Gt ts = refl
operator-read Ge ts = refl

abbrev compares : ColName → Rule RawCondition
compares c = operator >>= (λ o. literal >>= (λ l. gives (raw.Compare c o l)))

abbrev between : ColName → Rule RawCondition
between c = word (codes "BETWEEN") >> (literal >>= (λ l. word (codes "AND") >> (literal >>= (λ m. gives (raw.Between c l m)))))

abbrev equal : ColName → Rule RawCondition
equal c = mark (codes "=") >> (column >>= (λ d. gives (raw.Equal c d)))

abbrev one_of : ColName → Rule RawCondition
one_of c = mapped (raw.OneOf c) (word (codes "IN") >> bracketed (listed literal))

abbrev nulls : ColName → Rule RawCondition
nulls c = mapped (λ _. raw.IsNull c) (word (codes "IS") >> word (codes "NULL")) or mapped (λ _. raw.NotNull c) (word (codes "IS") >> word (codes "NOT") >> word (codes "NULL"))

compare-read : (c : ColName) (o : Op) (l : Literal) → IsLiteral l → (ts : List Token) → compares c (marked (op_text o) ++ (literal_tokens l ++ ts)) ≡ Some (raw.Compare c o l, ts)
compare-read c o l h ts =
    bind-some operator (λ p. literal >>= (λ m. gives (raw.Compare c p m))) o (Some (raw.Compare c o l, ts)) (marked (op_text o) ++ (literal_tokens l ++ ts)) (literal_tokens l ++ ts) (operator-read o (literal_tokens l ++ ts))
    (bind-some literal (λ m. gives (raw.Compare c o m)) l (Some (raw.Compare c o l, ts)) (literal_tokens l ++ ts) ts (literal-read l h ts) refl)

no-compare : (c d : ColName) → IsColumn d → (ts : List Token) → compares c (marked (codes "=") ++ (column_tokens d ++ ts)) ≡ None
no-compare c d h ts =
    bind-some operator (λ p. literal >>= (λ m. gives (raw.Compare c p m))) Eq None (marked (codes "=") ++ (column_tokens d ++ ts)) (column_tokens d ++ ts) refl
    (bind-none literal (λ m. gives (raw.Compare c Eq m)) (column_tokens d ++ ts) (no-literal (column_tokens d ++ ts) (column-head d h ts)))

between-read : (c : ColName) (l m : Literal) → IsLiteral l → IsLiteral m → (ts : List Token)
    → between c (named (codes "BETWEEN") ++ (literal_tokens l ++ (named (codes "AND") ++ (literal_tokens m ++ ts)))) ≡ Some (raw.Between c l m, ts)
between-read c l m h k ts =
    let high : List Token = literal_tokens m ++ ts in
    bind-some literal (λ x. word (codes "AND") >> (literal >>= (λ y. gives (raw.Between c x y)))) l (Some (raw.Between c l m, ts)) (literal_tokens l ++ (named (codes "AND") ++ high)) (named (codes "AND") ++ high) (literal-read l h (named (codes "AND") ++ high))
    (bind-some literal (λ y. gives (raw.Between c l y)) m (Some (raw.Between c l m, ts)) high ts (literal-read m k ts) refl)

equal-read : (c d : ColName) → IsColumn d → (ts : List Token) → AfterColumn ts → equal c (marked (codes "=") ++ (column_tokens d ++ ts)) ≡ Some (raw.Equal c d, ts)
equal-read c d h ts after = bind-some column (λ x. gives (raw.Equal c x)) d (Some (raw.Equal c d, ts)) (column_tokens d ++ ts) ts (column-read d h ts after) refl

abbrev Anything : List Token → Type 0
Anything ts = Unit {0}

comma-parts : Parts Anything (mark (codes ",")) (bare kinds.Mark (codes ","))
comma-parts = record { reads = λ ts. refl; follows = λ ts. tt }

literals-read : (ls : List Literal) → EachOfSome IsLiteral ls → (ts : List Token)
    → bracketed (listed literal) (marked (codes "(") ++ (listed_tokens comma literal_tokens ls ++ (marked (codes ")") ++ ts))) ≡ Some (ls, ts)
literals-read ls h ts =
    let close : List Token = marked (codes ")") ++ ts in
    bind-some (mark (codes "(") >> listed literal) (λ x. mark (codes ")") >> gives x) ls (Some (ls, ts)) (marked (codes "(") ++ (listed_tokens comma literal_tokens ls ++ close)) close
    (parted-read IsLiteral Anything literal_tokens literal (mark (codes ",")) (bare kinds.Mark (codes ",")) ls close comma-parts h (λ l k us ok. literal-read l k us) tt refl) refl

tail-read : (c : RawCondition) → IsCondition c → (ts : List Token) → AfterColumn ts → condition_on (condition_column c) (condition_tail_tokens c ++ ts) ≡ Some (c, ts)
tail-read (raw.Compare c o l) h ts after =
    or-first (compares c) (between c or (equal c or (one_of c or nulls c))) (raw.Compare c o l, ts) (marked (op_text o) ++ (literal_tokens l ++ ts)) (compare-read c o l h.1 ts)
tail-read (raw.Between c l m) h ts after =
    let all : List Token = named (codes "BETWEEN") ++ (literal_tokens l ++ (named (codes "AND") ++ (literal_tokens m ++ ts))) in
    rw (append_assoc (literal_tokens l) (named (codes "AND") ++ literal_tokens m) ts)
    (or-second (compares c) (between c or (equal c or (one_of c or nulls c))) (Some (raw.Between c l m, ts)) all refl
    (or-first (between c) (equal c or (one_of c or nulls c)) (raw.Between c l m, ts) all (between-read c l m h.1 h.2 ts)))
tail-read (raw.Equal c d) h ts after =
    let all : List Token = marked (codes "=") ++ (column_tokens d ++ ts) in
    or-second (compares c) (between c or (equal c or (one_of c or nulls c))) (Some (raw.Equal c d, ts)) all (no-compare c d h.1 ts)
    (or-second (between c) (equal c or (one_of c or nulls c)) (Some (raw.Equal c d, ts)) all refl
    (or-first (equal c) (one_of c or nulls c) (raw.Equal c d, ts) all (equal-read c d h.1 ts after)))
tail-read (raw.OneOf c ls) h ts after =
    let all : List Token = named (codes "IN") ++ (marked (codes "(") ++ (listed_tokens comma literal_tokens ls ++ (marked (codes ")") ++ ts))) in
    rw (append_assoc (listed_tokens comma literal_tokens ls) (marked (codes ")")) ts)
    (or-second (compares c) (between c or (equal c or (one_of c or nulls c))) (Some (raw.OneOf c ls, ts)) all refl
    (or-second (between c) (equal c or (one_of c or nulls c)) (Some (raw.OneOf c ls, ts)) all refl
    (or-second (equal c) (one_of c or nulls c) (Some (raw.OneOf c ls, ts)) all refl
    (or-first (one_of c) (nulls c) (raw.OneOf c ls, ts) all (mapped-some (raw.OneOf c) (word (codes "IN") >> bracketed (listed literal)) ls all ts (literals-read ls h.1 ts))))))
tail-read (raw.IsNull c) h ts after = refl
tail-read (raw.NotNull c) h ts after = refl

tail-after : (c : RawCondition) (ts : List Token) → AfterColumn (condition_tail_tokens c ++ ts)
tail-after (raw.Compare c Eq l) ts = record { dot = refl; opening = refl }
tail-after (raw.Compare c Ne l) ts = record { dot = refl; opening = refl }
tail-after (raw.Compare c Lt l) ts = record { dot = refl; opening = refl }
tail-after (raw.Compare c Le l) ts = record { dot = refl; opening = refl }
tail-after (raw.Compare c Gt l) ts = record { dot = refl; opening = refl }
tail-after (raw.Compare c Ge l) ts = record { dot = refl; opening = refl }
tail-after (raw.Between c l m) ts = record { dot = refl; opening = refl }
tail-after (raw.Equal c d) ts = record { dot = refl; opening = refl }
tail-after (raw.OneOf c ls) ts = record { dot = refl; opening = refl }
tail-after (raw.IsNull c) ts = record { dot = refl; opening = refl }
tail-after (raw.NotNull c) ts = record { dot = refl; opening = refl }

condition-names : (c : RawCondition) → IsCondition c → IsColumn (condition_column c)
condition-names (raw.Compare c o l) h = h.0
condition-names (raw.Between c l m) h = h.0
condition-names (raw.Equal c d) h = h.0
condition-names (raw.OneOf c ls) h = h.0
condition-names (raw.IsNull c) h = h
condition-names (raw.NotNull c) h = h

pub condition-read : (c : RawCondition) → IsCondition c → (ts : List Token) → AfterColumn ts → condition (condition_tokens c ++ ts) ≡ Some (c, ts)
condition-read c h ts after =
    let tail : List Token = condition_tail_tokens c ++ ts in
    rw (append_assoc (column_tokens (condition_column c)) (condition_tail_tokens c) ts)
    (bind-some column condition_on (condition_column c) (Some (c, ts)) (column_tokens (condition_column c) ++ tail) tail (column-read (condition_column c) (condition-names c h) tail (tail-after c ts)) (tail-read c h ts after))

-- ---- HAVING and ORDER BY

pub test-read : (t : RawTest) → IsTest t → (ts : List Token) → test (test_tokens t ++ ts) ≡ Some (t, ts)
test-read t h ts =
    let value : List Token = literal_tokens t.literal ++ ts in
    let compared : List Token = marked (op_text t.op) ++ value in
    rw (append_assoc (aggregate_tokens t.agg) (marked (op_text t.op) ++ literal_tokens t.literal) ts)
    (bind-some aggregate (λ a. operator >>= (λ o. literal >>= (λ l. gives (record { agg = a; op = o; literal = l })))) t.agg (Some (t, ts)) (aggregate_tokens t.agg ++ compared) compared (aggregate-read t.agg h.0 compared)
    (bind-some operator (λ o. literal >>= (λ l. gives (record { agg = t.agg; op = o; literal = l }))) t.op (Some (t, ts)) compared value (operator-read t.op value)
    (bind-some literal (λ l. gives (record { agg = t.agg; op = t.op; literal = l })) t.literal (Some (t, ts)) value ts (literal-read t.literal h.1 ts) refl)))

-- what may stand behind a key of ORDER BY
pub record AfterKey (ts : List Token) : Type 0 where
  pub column : AfterColumn ts
  pub no_asc : word (codes "ASC") ts ≡ None
  pub no_desc : word (codes "DESC") ts ≡ None

abbrev direction : Rule Bool
direction = (word (codes "ASC") >> gives false) or (word (codes "DESC") >> gives true) or gives false

direction-read : (d : Bool) (ts : List Token) → AfterKey ts → direction (direction_tokens d ++ ts) ≡ Some (d, ts)
direction-read true ts after = refl
direction-read false ts after =
    let down : Rule Bool = word (codes "DESC") >> gives true in
    or-second (word (codes "ASC") >> gives false) (down or gives false) (Some (false, ts)) ts (then-none (word (codes "ASC")) (gives false) ts after.no_asc)
    (or-second down (gives false) (Some (false, ts)) ts (then-none (word (codes "DESC")) (gives true) ts after.no_desc) refl)

direction-after : (d : Bool) (ts : List Token) → AfterKey ts → AfterColumn (direction_tokens d ++ ts)
direction-after true ts after = record { dot = refl; opening = refl }
direction-after false ts after = after.column

no-number-call : (a : RawAgg) (ts : List Token) → number (aggregate_tokens a ++ ts) ≡ None
no-number-call CountRows ts = refl
no-number-call (CountOf e) ts = refl
no-number-call (SumOf e) ts = refl
no-number-call (AvgOf e) ts = refl
no-number-call (MinOf e) ts = refl
no-number-call (MaxOf e) ts = refl

abbrev positions : Rule RawOrder
positions = mapped (λ n. order.Position (pos n)) number

abbrev computed : Rule RawOrder
computed = mapped order.Computed aggregate

abbrev plains : Rule RawOrder
plains = mapped order.Column column

order-read : (w : RawOrder) → IsOrder w → (ts : List Token) → AfterColumn ts → (positions or computed or plains) (order_tokens w ++ ts) ≡ Some (w, ts)
order-read (order.Position (pos n)) h ts after =
    or-first positions (computed or plains) (order.Position (pos n), ts) (numbered n ++ ts) (mapped-some (λ m. order.Position (pos m)) number n (numbered n ++ ts) ts (number-read n h ts))
order-read (order.Position (negsuc n)) h ts after = absurd h
order-read (order.Column c) h ts after =
    let all : List Token = column_tokens c ++ ts in
    or-second positions (computed or plains) (Some (order.Column c, ts)) all (mapped-none (λ m. order.Position (pos m)) number all (no-number all (column-head c h ts)))
    (or-second computed plains (Some (order.Column c, ts)) all (mapped-none order.Computed aggregate all (no-aggregate all (column-head c h ts))) (mapped-some order.Column column c all ts (column-read c h ts after)))
order-read (order.Computed a) h ts after =
    let all : List Token = aggregate_tokens a ++ ts in
    or-second positions (computed or plains) (Some (order.Computed a, ts)) all (mapped-none (λ m. order.Position (pos m)) number all (no-number-call a ts))
    (or-first computed plains (order.Computed a, ts) all (mapped-some order.Computed aggregate a all ts (aggregate-read a h ts)))

pub key-read : (k : RawKey) → IsKey k → (ts : List Token) → AfterKey ts → order_key (key_tokens k ++ ts) ≡ Some (k, ts)
key-read k h ts after =
    let tail : List Token = direction_tokens k.descending ++ ts in
    rw (append_assoc (order_tokens k.what) (direction_tokens k.descending) ts)
    (bind-some (positions or computed or plains) (λ w. direction >>= (λ d. gives (record { what = w; descending = d }))) k.what (Some (k, ts)) (order_tokens k.what ++ tail) tail (order-read k.what h tail (direction-after k.descending ts after))
    (bind-some direction (λ d. gives (record { what = k.what; descending = d })) k.descending (Some (k, ts)) tail ts (direction-read k.descending ts after) refl))
