-- What the items of a query take from the tokens has neither FROM nor ORDER in it.
use Rattle.std.proofs.Common.{◌≡◌, ◌∙◌, ap, sym, ℕ, zero, suc, List, [], ◌∷◌, length, refl, true, false, Bool, ◌&&◌, cond, not, take_while, Option, Some, None, codes, option_map, pos, neg_ℤ, unwrap_or}
use Rattle.std.proofs.lemmas.List.Sums.{take_while-cons}
use Rattle.std.proofs.lemmas.Slice.Eq.{bytes_eq-Decides}
use Rattle.wh_base.specs.Lists.{has_text, option_case, same_text, where_true}
use Rattle.wh_base.specs.Values.{digits_number}
use Rattle.wh_base.specs.declared.queries.ColName.{ColName}
use Rattle.wh_base.specs.declared.queries.NamePart.{NamePart}
use Rattle.wh_base.specs.declared.queries.NamePart.TheVariants.{MarkName, Plain, RowIdName}
use Rattle.wh_base.specs.declared.queries.RawAgg.{RawAgg}
use Rattle.wh_base.specs.declared.queries.RawAgg.TheVariants.{AvgOf, CountOf, CountRows, MaxOf, MinOf, SumOf}
use Rattle.wh_base.specs.declared.queries.RawExpr.{RawExpr}
use Rattle.wh_base.specs.declared.queries.RawExpr.TheVariants.{Constant}
use Rattle.wh_base.specs.declared.queries.RawItem.{RawItem}
use Rattle.wh_base.specs.declared.queries.RawWhat.{RawWhat}
use Rattle.wh_base.specs.declared.queries.RawWhat.TheVariants as what
use Rattle.wh_base.specs.declared.tokens.Token.{Token}
use Rattle.wh_base.specs.declared.tokens.TokenKind.{TokenKind}
use Rattle.wh_base.specs.declared.tokens.TokenKind.TheVariants as kinds
use Rattle.def_grammar.specs.Query.{aggregate, aggregate_of, alias, column, column_named_by, expression, item, marker, plain_name, product_or_column, qualifier, rowid_as, signed}
use Rattle.def_grammar.specs.Reading.{Rule, bracketed, gives, listed, many, many_times, mapped, mark, maybe, name, number, or_else, reserved, same_token_kind, token_where, word, ◌>>=◌, ◌>>◌, ◌or◌}
use Rattle.def_rewriting.specs.Matching.{before_order, from_on, is_word, same_kind}
use Rattle.law_text.proofs.Steady.{is_order}

abbrev pub is_from : Token → Bool
is_from t = is_word (codes "FROM") t

-- the tokens from FROM on up to ORDER
abbrev pub part : List Token → List Token
part ts = from_on (before_order ts)

-- what a rule leaves has the same part
abbrev pub Left : {A : Type 0} → List Token → Option (A × List Token) → Type 0
Left ts None = Unit {0}
Left ts (Some p) = part ts ≡ part p.1

pub record Passes {A : Type 0} (r : Rule A) : Type 0 where
  pub left : (ts : List Token) → Left ts (r ts)

-- ---- rules of rules

shifted : {A : Type 0} (ts us : List Token) → part ts ≡ part us → (o : Option (A × List Token)) → Left us o → Left ts o
shifted ts us e None h = tt
shifted ts us e (Some p) h = e ∙ h

gives-passes : {A : Type 0} (x : A) → Passes (gives x)
gives-passes x = record { left = λ ts. refl }

bind-left : {A B : Type 0} (ts : List Token) (f : A → Rule B) → ((x : A) → Passes (f x)) → (o : Option (A × List Token)) → Left ts o → Left ts (option_case o None (λ p. f p.0 p.1))
bind-left ts f s None h = tt
bind-left ts f s (Some p) h = shifted ts p.1 h (f p.0 p.1) ((s p.0).left p.1)

bind-passes : {A B : Type 0} (r : Rule A) (f : A → Rule B) → Passes r → ((x : A) → Passes (f x)) → Passes (r >>= f)
bind-passes r f h s = record { left = λ ts. bind-left ts f s (r ts) (h.left ts) }

then-left : {A B : Type 0} (ts : List Token) (s : Rule B) → Passes s → (o : Option (A × List Token)) → Left ts o → Left ts (option_case o None (λ p. s p.1))
then-left ts s e None h = tt
then-left ts s e (Some p) h = shifted ts p.1 h (s p.1) (e.left p.1)

then-passes : {A B : Type 0} (r : Rule A) (s : Rule B) → Passes r → Passes s → Passes (r >> s)
then-passes r s h e = record { left = λ ts. then-left ts s e (r ts) (h.left ts) }

mapped-left : {A B : Type 0} (ts : List Token) (f : A → B) (o : Option (A × List Token)) → Left ts o → Left ts (option_map (λ p. (f p.0, p.1)) o)
mapped-left ts f None h = tt
mapped-left ts f (Some p) h = h

mapped-passes : {A B : Type 0} (f : A → B) (r : Rule A) → Passes r → Passes (mapped f r)
mapped-passes f r h = record { left = λ ts. mapped-left ts f (r ts) (h.left ts) }

or-left : {A : Type 0} (ts : List Token) (s : Rule A) → Passes s → (o : Option (A × List Token)) → Left ts o → Left ts (or_else o s ts)
or-left ts s e None h = e.left ts
or-left ts s e (Some p) h = h

or-passes : {A : Type 0} (r s : Rule A) → Passes r → Passes s → Passes (r or s)
or-passes r s h e = record { left = λ ts. or-left ts s e (r ts) (h.left ts) }

maybe-passes : {A : Type 0} (r : Rule A) → Passes r → Passes (maybe r)
maybe-passes r h = or-passes (mapped Some r) (gives None) (mapped-passes Some r h) (gives-passes None)

again-left : {A : Type 0} (ts : List Token) (s : Rule (List A)) → Passes s → (o : Option (A × List Token)) → Left ts o → Left ts (option_case o (Some ([], ts)) (λ p. option_map (λ q. (p.0 ∷ q.0, q.1)) (s p.1)))
again-left ts s e None h = refl
again-left ts s e (Some p) h = mapped-left ts (λ xs. p.0 ∷ xs) (s p.1) (shifted ts p.1 h (s p.1) (e.left p.1))

times-passes : {A : Type 0} (n : ℕ) (r : Rule A) → Passes r → Passes (many_times n r)
times-passes zero r h = record { left = λ ts. refl }
times-passes (suc n) r h = record { left = λ ts. again-left ts (many_times n r) (times-passes n r h) (r ts) (h.left ts) }

many-passes : {A : Type 0} (r : Rule A) → Passes r → Passes (many r)
many-passes r h = record { left = λ ts. (times-passes (length ts) r h).left ts }

-- ---- single tokens

word-fails : (w : List ℕ) (f : TokenKind → List ℕ → Bool) → f kinds.Name w ≡ false → (kind : TokenKind) (text : List ℕ) → (same_kind kind kinds.Name && same_text text w) ≡ true → f kind text ≡ false
word-fails w f h kinds.Name text e = let same : text ≡ w = (bytes_eq-Decides text w).0 e in rw (same) h
word-fails w f h kinds.Number text e = cc
word-fails w f h kinds.Text text e = cc
word-fails w f h kinds.Mark text e = cc

not_word : (w : List ℕ) (f : TokenKind → List ℕ → Bool) → f kinds.Name w ≡ false → (t : Token) → f t.kind t.text ≡ true → is_word w t ≡ false
not_word w f h t e = by (is_word w t) refl
  where
    by : (b : Bool) → is_word w t ≡ b → b ≡ false
    by true k = sym e ∙ word-fails w f h t.kind t.text k
    by false k = refl

abbrev is_before : Token → Bool
is_before t = not (is_order t)

taken : (t : Token) (ts : List Token) → is_order t ≡ false → is_from t ≡ false → part (t ∷ ts) ≡ part ts
taken t ts e k =
    ap from_on (take_while-cons is_before t ts) ∙ ap (λ b. from_on (cond (not b) (t ∷ take_while is_before ts) [])) e
    ∙ ap (λ b. cond b (t ∷ take_while is_before ts) (from_on (take_while is_before ts))) k

token-left : (f : TokenKind → List ℕ → Bool) → f kinds.Name (codes "ORDER") ≡ false → f kinds.Name (codes "FROM") ≡ false → (ts : List Token) → Left ts (token_where (λ t. f t.kind t.text) ts)
token-left f h k [] = tt
token-left f h k (t ∷ ts) = by (f t.kind t.text) refl
  where
    by : (b : Bool) → f t.kind t.text ≡ b → Left (t ∷ ts) (where_true b (t, ts))
    by true e = taken t ts (not_word (codes "ORDER") f h t e) (not_word (codes "FROM") f k t e)
    by false e = tt

token-passes : (f : TokenKind → List ℕ → Bool) → f kinds.Name (codes "ORDER") ≡ false → f kinds.Name (codes "FROM") ≡ false → Passes (token_where (λ t. f t.kind t.text))
token-passes f h k = record { left = token-left f h k }

pub word-passes : (w : List ℕ) → same_text (codes "ORDER") w ≡ false → same_text (codes "FROM") w ≡ false → Passes (word w)
word-passes w h k = token-passes (λ kind text. same_token_kind kind kinds.Name && same_text text w) h k

mark-passes : (m : List ℕ) → Passes (mark m)
mark-passes m = token-passes (λ kind text. same_token_kind kind kinds.Mark && same_text text m) refl refl

name-passes : Passes name
name-passes = mapped-passes (λ t. t.text) (token_where (λ t. same_token_kind t.kind kinds.Name && not (has_text reserved t.text))) (token-passes (λ kind text. same_token_kind kind kinds.Name && not (has_text reserved text)) refl refl)

number-passes : Passes number
number-passes = mapped-passes (λ t. unwrap_or (digits_number t.text) 0) (token_where (λ t. same_token_kind t.kind kinds.Number)) (token-passes (λ kind text. same_token_kind kind kinds.Number) refl refl)

-- ---- lists and brackets

listed-passes : {A : Type 0} (r : Rule A) → Passes r → Passes (listed r)
listed-passes r h =
    bind-passes r (λ x. many (mark (codes ",") >> r) >>= (λ xs. gives (x ∷ xs))) h (λ x.
    bind-passes (many (mark (codes ",") >> r)) (λ xs. gives (x ∷ xs)) (many-passes (mark (codes ",") >> r) (then-passes (mark (codes ",")) r (mark-passes (codes ",")) h)) (λ xs. gives-passes (x ∷ xs)))

bracketed-passes : {A : Type 0} (r : Rule A) → Passes r → Passes (bracketed r)
bracketed-passes r h =
    bind-passes (mark (codes "(") >> r) (λ x. mark (codes ")") >> gives x) (then-passes (mark (codes "(")) r (mark-passes (codes "(")) h) (λ x.
    then-passes (mark (codes ")")) (gives x) (mark-passes (codes ")")) (gives-passes x))

-- ---- columns

signed-passes : Passes signed
signed-passes =
    or-passes (mark (codes "-") >> mapped (λ n. neg_ℤ (pos n)) number) (mapped pos number)
    (then-passes (mark (codes "-")) (mapped (λ n. neg_ℤ (pos n)) number) (mark-passes (codes "-")) (mapped-passes (λ n. neg_ℤ (pos n)) number number-passes)) (mapped-passes pos number number-passes)

qualifier-passes : Passes qualifier
qualifier-passes =
    maybe-passes (name >>= (λ n. mark (codes ".") >> gives n)) (bind-passes name (λ n. mark (codes ".") >> gives n) name-passes (λ n. then-passes (mark (codes ".")) (gives n) (mark-passes (codes ".")) (gives-passes n)))

rowid-passes : (p : NamePart) → Passes (rowid_as p)
rowid-passes p =
    bind-passes qualifier (λ q. word (codes "ROWID") >> gives (column_named_by q p)) qualifier-passes (λ q.
    then-passes (word (codes "ROWID")) (gives (column_named_by q p)) (word-passes (codes "ROWID") refl refl) (gives-passes (column_named_by q p)))

marker-passes : Passes marker
marker-passes =
    let inner : Passes (bracketed (rowid_as MarkName)) = bracketed-passes (rowid_as MarkName) (rowid-passes MarkName) in
    let third : Passes (word (codes "PMARKER") >> bracketed (rowid_as MarkName)) = then-passes (word (codes "PMARKER")) (bracketed (rowid_as MarkName)) (word-passes (codes "PMARKER") refl refl) inner in
    let second : Passes (mark (codes ".") >> (word (codes "PMARKER") >> bracketed (rowid_as MarkName))) = then-passes (mark (codes ".")) (word (codes "PMARKER") >> bracketed (rowid_as MarkName)) (mark-passes (codes ".")) third in
    then-passes (word (codes "DBMS_MVIEW")) (mark (codes ".") >> (word (codes "PMARKER") >> bracketed (rowid_as MarkName))) (word-passes (codes "DBMS_MVIEW") refl refl) second

plain-passes : Passes plain_name
plain-passes =
    bind-passes qualifier (λ q. name >>= (λ n. gives (column_named_by q (Plain n)))) qualifier-passes (λ q.
    bind-passes name (λ n. gives (column_named_by q (Plain n))) name-passes (λ n. gives-passes (column_named_by q (Plain n))))

column-passes : Passes column
column-passes = or-passes marker (rowid_as RowIdName or plain_name) marker-passes (or-passes (rowid_as RowIdName) plain_name (rowid-passes RowIdName) plain-passes)

-- ---- expressions, aggregates and items

expression-passes : Passes expression
expression-passes =
    let star : Rule ColName = mark (codes "*") >> column in
    let f : ColName → Option ColName → Rule RawExpr = λ a b. gives (product_or_column a b) in
    let times : Passes (maybe star) = maybe-passes star (then-passes (mark (codes "*")) column (mark-passes (codes "*")) column-passes) in
    let whole : Passes (column >>= (λ a. maybe star >>= f a)) = bind-passes column (λ a. maybe star >>= f a) column-passes (λ a. bind-passes (maybe star) (f a) times (λ b. gives-passes (product_or_column a b))) in
    or-passes (mapped Constant signed) (column >>= (λ a. maybe star >>= f a)) (mapped-passes Constant signed signed-passes) whole

call-passes : (w : List ℕ) (make : RawExpr → RawAgg) → Passes (word w) → Passes (aggregate_of w make)
call-passes w make h = then-passes (word w) (mapped make (bracketed expression)) h (mapped-passes make (bracketed expression) (bracketed-passes expression expression-passes))

aggregate-passes : Passes aggregate
aggregate-passes =
    let rows : Rule RawAgg = mapped (λ _. CountRows) (word (codes "COUNT") >> bracketed (mark (codes "*"))) in
    let counts : Rule RawAgg = aggregate_of (codes "COUNT") CountOf in
    let sums : Rule RawAgg = aggregate_of (codes "SUM") SumOf in
    let averages : Rule RawAgg = aggregate_of (codes "AVG") AvgOf in
    let least : Rule RawAgg = aggregate_of (codes "MIN") MinOf in
    let greatest : Rule RawAgg = aggregate_of (codes "MAX") MaxOf in
    let five : Passes (least or greatest) = or-passes least greatest (call-passes (codes "MIN") MinOf (word-passes (codes "MIN") refl refl)) (call-passes (codes "MAX") MaxOf (word-passes (codes "MAX") refl refl)) in
    let four : Passes (averages or (least or greatest)) = or-passes averages (least or greatest) (call-passes (codes "AVG") AvgOf (word-passes (codes "AVG") refl refl)) five in
    let three : Passes (sums or (averages or (least or greatest))) = or-passes sums (averages or (least or greatest)) (call-passes (codes "SUM") SumOf (word-passes (codes "SUM") refl refl)) four in
    let two : Passes (counts or (sums or (averages or (least or greatest)))) = or-passes counts (sums or (averages or (least or greatest))) (call-passes (codes "COUNT") CountOf (word-passes (codes "COUNT") refl refl)) three in
    or-passes rows (counts or (sums or (averages or (least or greatest))))
    (mapped-passes (λ _. CountRows) (word (codes "COUNT") >> bracketed (mark (codes "*"))) (then-passes (word (codes "COUNT")) (bracketed (mark (codes "*"))) (word-passes (codes "COUNT") refl refl) (bracketed-passes (mark (codes "*")) (mark-passes (codes "*"))))) two

alias-passes : Passes alias
alias-passes = maybe-passes ((word (codes "AS") >> name) or name) (or-passes (word (codes "AS") >> name) name (then-passes (word (codes "AS")) name (word-passes (codes "AS") refl refl) name-passes) name-passes)

item-passes : Passes item
item-passes =
    let f : RawWhat → Option (List ℕ) → Rule RawItem = λ w a. gives (record { what = w; alias = a }) in
    bind-passes (mapped what.Computed aggregate or mapped what.Plain column) (λ w. alias >>= f w)
    (or-passes (mapped what.Computed aggregate) (mapped what.Plain column) (mapped-passes what.Computed aggregate aggregate-passes) (mapped-passes what.Plain column column-passes)) (λ w.
    bind-passes alias (f w) alias-passes (λ a. gives-passes (record { what = w; alias = a })))

pub items-passes : Passes (listed item)
items-passes = listed-passes item item-passes
