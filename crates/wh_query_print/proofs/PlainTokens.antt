-- The tokens of what can be written are tokens that a text may have.
use Rattle.std.proofs.Common.{◌≡◌, ℕ, suc, List, [], ◌∷◌, ◌++◌, refl, true, Bool, false, Option, Some, None}
use Rattle.std.specs.Prelude.{codes, flat_map, negsuc, pos, ℤ}
use Rattle.wh_base.specs.declared.queries.ColName.{ColName}
use Rattle.wh_base.specs.declared.queries.NamePart.{NamePart}
use Rattle.wh_base.specs.declared.queries.NamePart.TheVariants.{MarkName, Plain, RowIdName}
use Rattle.wh_base.specs.declared.queries.RawAgg.{RawAgg}
use Rattle.wh_base.specs.declared.queries.RawAgg.TheVariants.{AvgOf, CountOf, CountRows, MaxOf, MinOf, SumOf}
use Rattle.wh_base.specs.declared.queries.RawCondition.{RawCondition}
use Rattle.wh_base.specs.declared.queries.RawCondition.TheVariants as raw
use Rattle.wh_base.specs.declared.queries.RawExpr.{RawExpr}
use Rattle.wh_base.specs.declared.queries.RawExpr.TheVariants.{Column, Constant, Times}
use Rattle.wh_base.specs.declared.queries.RawItem.{RawItem}
use Rattle.wh_base.specs.declared.queries.RawJoin.{RawJoin}
use Rattle.wh_base.specs.declared.queries.RawKey.{RawKey}
use Rattle.wh_base.specs.declared.queries.RawOrder.{RawOrder}
use Rattle.wh_base.specs.declared.queries.RawOrder.TheVariants as order
use Rattle.wh_base.specs.declared.queries.RawQuery.{RawQuery}
use Rattle.wh_base.specs.declared.queries.RawTable.{RawTable}
use Rattle.wh_base.specs.declared.queries.RawTest.{RawTest}
use Rattle.wh_base.specs.declared.queries.RawWhat.{RawWhat}
use Rattle.wh_base.specs.declared.queries.RawWhat.TheVariants as what
use Rattle.wh_base.specs.declared.values.Literal.{Literal}
use Rattle.wh_base.specs.declared.values.Literal.TheVariants.{Dated, Number, Quoted}
use Rattle.wh_base.specs.declared.values.Op.{Op}
use Rattle.wh_base.specs.declared.values.Op.TheVariants.{Eq, Ge, Gt, Le, Lt, Ne}
use Rattle.wh_base.specs.declared.tokens.Token.{Token}
use Rattle.wh_base.specs.declared.tokens.TokenKind.TheVariants as kinds
use Rattle.def_grammar.specs.Canonical.{aggregate_tokens, alias_tokens, another_table_tokens, as_of_tokens, bare, call_tokens, clause_tokens, column_tokens, comma, condition_column, condition_tail_tokens, condition_tokens, direction_tokens, expression_tokens, from_tokens, item_tokens, joined_tokens, key_tokens, listed_tokens, literal_tokens, marked, named, op_text, order_tokens, part_tokens, qualifier_tokens, query_tokens, signed_tokens, table_alias_tokens, table_tokens, test_tokens, what_tokens}
use Rattle.def_grammar.specs.Written.{AreTables, Each, EachOfSome, IfThere, IsAggregate, IsColumn, IsCondition, IsExpression, IsItem, IsJoin, IsKey, IsLiteral, IsName, IsNamePart, IsOrder, IsSigned, IsSpelled, IsTable, IsTest, IsUnsigned, IsWhat, IsWritten, is_identifier}
use Rattle.wh_query_print.proofs.Decimal.{day-line, numeral-decimal}
use Rattle.wh_query_print.specs.Kept.{unplaced}

-- a token of no place that a text may have
abbrev pub IsPlain : Token → Type 0
IsPlain t = IsSpelled t × (unplaced t ≡ t)

both : (ts us : List Token) → Each IsPlain ts → Each IsPlain us → Each IsPlain (ts ++ us)
both [] us h k = k
both (t ∷ ts) us h k = (h.0, both ts us h.1 k)

flat : {A : Type 0} (P : A → Type 0) (g : A → List Token) (xs : List A) → Each P xs → ((x : A) → P x → Each IsPlain (g x)) → Each IsPlain (flat_map g xs)
flat P g [] all one = tt
flat P g (x ∷ xs) all one = both (g x) (flat_map g xs) (one x all.0) (flat P g xs all.1 one)

listed : {A : Type 0} (P : A → Type 0) (between : Token) (f : A → List Token) (xs : List A) → IsPlain between → Each P xs → ((x : A) → P x → Each IsPlain (f x)) → Each IsPlain (listed_tokens (between ∷ []) f xs)
listed P between f [] part all one = tt
listed P between f (x ∷ xs) part all one = both (f x) (flat_map (λ y. between ∷ f y) xs) (one x all.0) (flat P (λ y. between ∷ f y) xs all.1 (λ y p. (part, one y p)))

clause : {A : Type 0} (P : A → Type 0) (keywords : List Token) (between : Token) (f : A → List Token) (xs : List A) → Each IsPlain keywords → IsPlain between → Each P xs → ((x : A) → P x → Each IsPlain (f x))
    → Each IsPlain (clause_tokens keywords (between ∷ []) f xs)
clause P keywords between f [] words part all one = tt
clause P keywords between f (x ∷ xs) words part all one = both keywords (listed_tokens (between ∷ []) f (x ∷ xs)) words (listed P between f (x ∷ xs) part all one)

of-some : {A : Type 0} (P : A → Type 0) (xs : List A) → EachOfSome P xs → Each P xs
of-some P [] h = tt
of-some P (x ∷ xs) h = h

signed-plain : (z : ℤ) → IsSigned z → Each IsPlain (signed_tokens z)
signed-plain (pos n) h = ((numeral-decimal n h, refl), tt)
signed-plain (negsuc n) h = ((refl, refl), ((numeral-decimal (suc n) h, refl), tt))

literal-plain : (l : Literal) → IsLiteral l → Each IsPlain (literal_tokens l)
literal-plain (Number z) h = signed-plain z h
literal-plain (Quoted text) h = ((h, refl), tt)
literal-plain (Dated n) h = ((refl, refl), ((day-line n, refl), tt))

qualifier-plain : (q : Option (List ℕ)) → IfThere IsName q → Each IsPlain (qualifier_tokens q)
qualifier-plain None h = tt
qualifier-plain (Some n) h = ((h.0, refl), ((refl, refl), tt))

part-plain : (p : NamePart) (q : List Token) → IsNamePart p → Each IsPlain q → Each IsPlain (part_tokens p q)
part-plain (Plain n) q h k = both q (named n) k ((h.0, refl), tt)
part-plain RowIdName q h k = both q (named (codes "ROWID")) k ((refl, refl), tt)
part-plain MarkName q h k = ((refl, refl), ((refl, refl), ((refl, refl), ((refl, refl), both q (named (codes "ROWID") ++ marked (codes ")")) k ((refl, refl), ((refl, refl), tt))))))

column-plain : (c : ColName) → IsColumn c → Each IsPlain (column_tokens c)
column-plain c h = part-plain c.part (qualifier_tokens c.qualifier) h.1 (qualifier-plain c.qualifier h.0)

expression-plain : (e : RawExpr) → IsExpression e → Each IsPlain (expression_tokens e)
expression-plain (Column c) h = column-plain c h
expression-plain (Times c d) h = both (column_tokens c) (marked (codes "*") ++ column_tokens d) (column-plain c h.0) ((refl, refl), column-plain d h.1)
expression-plain (Constant z) h = signed-plain z h

call-plain : (w : List ℕ) (inner : List Token) → is_identifier w ≡ true → Each IsPlain inner → Each IsPlain (call_tokens w inner)
call-plain w inner h k = ((h, refl), ((refl, refl), both inner (marked (codes ")")) k ((refl, refl), tt)))

aggregate-plain : (a : RawAgg) → IsAggregate a → Each IsPlain (aggregate_tokens a)
aggregate-plain CountRows h = call-plain (codes "COUNT") (marked (codes "*")) refl ((refl, refl), tt)
aggregate-plain (CountOf e) h = call-plain (codes "COUNT") (expression_tokens e) refl (expression-plain e h)
aggregate-plain (SumOf e) h = call-plain (codes "SUM") (expression_tokens e) refl (expression-plain e h)
aggregate-plain (AvgOf e) h = call-plain (codes "AVG") (expression_tokens e) refl (expression-plain e h)
aggregate-plain (MinOf e) h = call-plain (codes "MIN") (expression_tokens e) refl (expression-plain e h)
aggregate-plain (MaxOf e) h = call-plain (codes "MAX") (expression_tokens e) refl (expression-plain e h)

what-plain : (w : RawWhat) → IsWhat w → Each IsPlain (what_tokens w)
what-plain (what.Plain c) h = column-plain c h
what-plain (what.Computed a) h = aggregate-plain a h

alias-plain : (a : Option (List ℕ)) → IfThere IsName a → Each IsPlain (alias_tokens a)
alias-plain None h = tt
alias-plain (Some n) h = ((refl, refl), ((h.0, refl), tt))

item-plain : (i : RawItem) → IsItem i → Each IsPlain (item_tokens i)
item-plain i h = both (what_tokens i.what) (alias_tokens i.alias) (what-plain i.what h.0) (alias-plain i.alias h.1)

table-plain : (n : List ℕ) (a : Option (List ℕ)) → IsName n → IfThere IsName a → Each IsPlain (named n ++ table_alias_tokens a)
table-plain n None h k = ((h.0, refl), tt)
table-plain n (Some a) h k = ((h.0, refl), ((k.0, refl), tt))

joined-plain : (on : Option RawJoin) (t : List Token) → IfThere IsJoin on → Each IsPlain t → Each IsPlain (joined_tokens on t)
joined-plain None t h k = ((refl, refl), k)
joined-plain (Some j) t h k =
    let right : List Token = marked (codes "=") ++ column_tokens j.right in
    ((refl, refl), both t (named (codes "ON") ++ (column_tokens j.left ++ right)) k ((refl, refl), both (column_tokens j.left) right (column-plain j.left h.0) ((refl, refl), column-plain j.right h.1)))

another-plain : (t : RawTable) → IsTable t → Each IsPlain (another_table_tokens t)
another-plain t h = joined-plain t.on (table_tokens t) h.2 (table-plain t.table t.alias h.0 h.1)

tables-plain : (ts : List RawTable) → AreTables ts → Each IsPlain (from_tokens ts)
tables-plain [] h = tt
tables-plain (t ∷ ts) h = both (table_tokens t) (flat_map another_table_tokens ts) (table-plain t.table t.alias h.0.0 h.0.1) (flat IsTable another_table_tokens ts h.2 another-plain)

op-plain : (o : Op) → IsPlain (bare kinds.Mark (op_text o))
op-plain Eq = (refl, refl)
op-plain Ne = (refl, refl)
op-plain Lt = (refl, refl)
op-plain Le = (refl, refl)
op-plain Gt = (refl, refl)
op-plain Ge = (refl, refl)

tail-plain : (c : RawCondition) → IsCondition c → Each IsPlain (condition_tail_tokens c)
tail-plain (raw.Compare c o l) h = (op-plain o, literal-plain l h.1)
tail-plain (raw.Between c l m) h = ((refl, refl), both (literal_tokens l) (named (codes "AND") ++ literal_tokens m) (literal-plain l h.1) ((refl, refl), literal-plain m h.2))
tail-plain (raw.Equal c d) h = ((refl, refl), column-plain d h.1)
tail-plain (raw.OneOf c ls) h =
    ((refl, refl), ((refl, refl), both (listed_tokens comma literal_tokens ls) (marked (codes ")")) (listed IsLiteral (bare kinds.Mark (codes ",")) literal_tokens ls (refl, refl) (of-some IsLiteral ls h.1) literal-plain) ((refl, refl), tt)))
tail-plain (raw.IsNull c) h = ((refl, refl), ((refl, refl), tt))
tail-plain (raw.NotNull c) h = ((refl, refl), ((refl, refl), ((refl, refl), tt)))

on-plain : (c : RawCondition) → IsCondition c → Each IsPlain (column_tokens (condition_column c))
on-plain (raw.Compare c o l) h = column-plain c h.0
on-plain (raw.Between c l m) h = column-plain c h.0
on-plain (raw.Equal c d) h = column-plain c h.0
on-plain (raw.OneOf c ls) h = column-plain c h.0
on-plain (raw.IsNull c) h = column-plain c h
on-plain (raw.NotNull c) h = column-plain c h

condition-plain : (c : RawCondition) → IsCondition c → Each IsPlain (condition_tokens c)
condition-plain c h = both (column_tokens (condition_column c)) (condition_tail_tokens c) (on-plain c h) (tail-plain c h)

test-plain : (t : RawTest) → IsTest t → Each IsPlain (test_tokens t)
test-plain t h = both (aggregate_tokens t.agg) (marked (op_text t.op) ++ literal_tokens t.literal) (aggregate-plain t.agg h.0) (op-plain t.op, literal-plain t.literal h.1)

order-plain : (w : RawOrder) → IsOrder w → Each IsPlain (order_tokens w)
order-plain (order.Position (pos n)) h = ((numeral-decimal n h, refl), tt)
order-plain (order.Position (negsuc n)) h = absurd h
order-plain (order.Column c) h = column-plain c h
order-plain (order.Computed a) h = aggregate-plain a h

direction-plain : (d : Bool) → Each IsPlain (direction_tokens d)
direction-plain true = ((refl, refl), tt)
direction-plain false = tt

key-plain : (k : RawKey) → IsKey k → Each IsPlain (key_tokens k)
key-plain k h = both (order_tokens k.what) (direction_tokens k.descending) (order-plain k.what h) (direction-plain k.descending)

as_of-plain : (s : Option ℤ) → IfThere IsUnsigned s → Each IsPlain (as_of_tokens s)
as_of-plain None h = tt
as_of-plain (Some (pos n)) h = ((refl, refl), ((refl, refl), ((refl, refl), ((numeral-decimal n h, refl), tt))))
as_of-plain (Some (negsuc n)) h = absurd h

pub query-plain : (q : RawQuery) → IsWritten q → Each IsPlain (query_tokens q)
query-plain q h =
    let comma_plain : IsPlain (bare kinds.Mark (codes ",")) = (refl, refl) in
    let and_plain : IsPlain (bare kinds.Name (codes "AND")) = (refl, refl) in (
      (refl, refl),
      both _ _ (listed IsItem (bare kinds.Mark (codes ",")) item_tokens q.items comma_plain (of-some IsItem q.items h.items) item-plain) (
        (refl, refl),
        both _ _ (tables-plain q.tables h.tables)
            (both _ _ (as_of-plain q.as_of h.as_of)
            (both _ _ (clause IsCondition (named (codes "WHERE")) (bare kinds.Name (codes "AND")) condition_tokens q.conditions ((refl, refl), tt) and_plain h.conditions condition-plain)
            (both _ _ (clause IsColumn (named (codes "GROUP") ++ named (codes "BY")) (bare kinds.Mark (codes ",")) column_tokens q.groups ((refl, refl), ((refl, refl), tt)) comma_plain h.groups column-plain)
            (both _ _ (clause IsTest (named (codes "HAVING")) (bare kinds.Name (codes "AND")) test_tokens q.having ((refl, refl), tt) and_plain h.having test-plain)
            (clause IsKey (named (codes "ORDER") ++ named (codes "BY")) (bare kinds.Mark (codes ",")) key_tokens q.order ((refl, refl), ((refl, refl), tt)) comma_plain h.order key-plain))))),
      ),
    )
