-- The whole of a query reads back from its tokens.
use Rattle.std.proofs.Common.{◌≡◌, ℕ, ◌<◌, List, [], ◌∷◌, ◌++◌, length, refl, ap, sym, ◌∙◌, append_assoc, append-nil, arith, true, false, Bool, ◌||◌, subst, Option, Some, None}
use Rattle.std.specs.Prelude.{codes, flat_map, negsuc, pos, ℤ}
use Rattle.wh_base.specs.Lists.{has_text, same_text}
use Rattle.wh_base.specs.declared.queries.ColName.{ColName}
use Rattle.wh_base.specs.declared.queries.RawCondition.{RawCondition}
use Rattle.wh_base.specs.declared.queries.RawItem.{RawItem}
use Rattle.wh_base.specs.declared.queries.RawJoin.{RawJoin}
use Rattle.wh_base.specs.declared.queries.RawKey.{RawKey}
use Rattle.wh_base.specs.declared.queries.RawQuery.{RawQuery}
use Rattle.wh_base.specs.declared.queries.RawTable.{RawTable}
use Rattle.wh_base.specs.declared.queries.RawTest.{RawTest}
use Rattle.wh_base.specs.declared.tokens.Token.{Token}
use Rattle.wh_base.specs.declared.tokens.TokenKind.TheVariants as kinds
use Rattle.def_grammar.specs.Canonical.{another_table_tokens, as_of_tokens, bare, column_tokens, comma, condition_tokens, from_tokens, group_tokens, having_tokens, item_tokens, joined_tokens, key_tokens, listed_tokens, marked, named, order_by_tokens, query_tokens, table_alias_tokens, table_tokens, test_tokens, where_tokens}
use Rattle.def_grammar.specs.Query.{all_of, as_of, column, condition, from_tables, item, join, joined_table, on_join, order_key, select, table, table_with, test, where_conditions}
use Rattle.def_grammar.specs.Reading.{Rule, bracketed, gives, listed, many, mapped, mark, maybe, name, number, optional_list, word, ◌>>=◌, ◌>>◌, ◌or◌}
use Rattle.def_grammar.specs.Written.{AreTables, Each, IfThere, IsColumn, IsCondition, IsItem, IsJoin, IsKey, IsName, IsTable, IsTest, IsUnsigned, IsWritten}
use Rattle.wh_query_print.proofs.Begun.{Begun, Parts, begun-clause, begun-mark, begun-name, begun-word, bind-none, bind-some, many-read, mapped-none, mapped-some, maybe-none, maybe-some, optional-none, optional-some, or-first, or-second, parted-read, then-none, then-some}
use Rattle.wh_query_print.proofs.ReadBack.{AfterColumn, AfterItem, AfterKey, column-head, column-read, condition-read, item-read, key-read, name-read, no-mark, test-read, unsigned-read}

-- ---- FROM

-- what may stand behind a table
record AfterTable (ts : List Token) : Type 0 where
  column : AfterColumn ts
  no_name : name ts ≡ None

-- a table and its alias, with its join
abbrev tabled : List ℕ → Option (List ℕ) → Option RawJoin → RawTable
tabled n a on = record { table = n; alias = a; on = on }

maybe-name : (a : Option (List ℕ)) → IfThere IsName a → (ts : List Token) → name ts ≡ None → maybe name (table_alias_tokens a ++ ts) ≡ Some (a, ts)
maybe-name None h ts none = maybe-none name ts none
maybe-name (Some a) h ts none = maybe-some name a (named a ++ ts) ts (name-read a h ts)

table-read : (n : List ℕ) (a : Option (List ℕ)) → IsName n → IfThere IsName a → (ts : List Token) → name ts ≡ None
    → table ((named n ++ table_alias_tokens a) ++ ts) ≡ Some ((n, a), ts)
table-read n a h k ts none =
    let all : List Token = named n ++ (table_alias_tokens a ++ ts) in
    bind-some name (λ m. maybe name >>= (λ b. gives (m, b))) n (Some ((n, a), ts)) all (table_alias_tokens a ++ ts) (name-read n h (table_alias_tokens a ++ ts))
    (bind-some (maybe name) (λ b. gives (n, b)) a (Some ((n, a), ts)) (table_alias_tokens a ++ ts) ts (maybe-name a k ts none) refl)

after-equals : (ts : List Token) → AfterColumn (marked (codes "=") ++ ts)
after-equals ts = record { dot = refl; opening = refl }

join-read : (j : RawJoin) → IsJoin j → (ts : List Token) → AfterColumn ts → on_join (column_tokens j.left ++ (marked (codes "=") ++ (column_tokens j.right ++ ts))) ≡ Some (j, ts)
join-read j h ts after =
    let right : List Token = column_tokens j.right ++ ts in
    let equals : List Token = marked (codes "=") ++ right in
    let all : List Token = column_tokens j.left ++ equals in
    let inner : bracketed join all ≡ None =
    bind-none (mark (codes "(") >> join) (λ x. mark (codes ")") >> gives x) all (then-none (mark (codes "(")) join all (no-mark (codes "(") all (column-head j.left h.0 equals))) in
    or-second (bracketed join) join (Some (j, ts)) all inner
    (bind-some column (λ a. mark (codes "=") >> (column >>= (λ b. gives (record { left = a; right = b })))) j.left (Some (j, ts)) all equals (column-read j.left h.0 equals (after-equals right))
    (bind-some column (λ b. gives (record { left = j.left; right = b })) j.right (Some (j, ts)) right ts (column-read j.right h.1 ts after) refl))

abbrev commas : Rule RawTable
commas = mapped (table_with None) (mark (codes ",") >> table)

abbrev joins : List ℕ × Option (List ℕ) → Rule RawTable
joins t = word (codes "ON") >> (on_join >>= (λ j. gives (table_with (Some j) t)))

joined-read : (n : List ℕ) (a : Option (List ℕ)) (j : RawJoin) → IsName n → IfThere IsName a → IsJoin j → (ts : List Token) → AfterColumn ts
    → (word (codes "JOIN") >> (table >>= joins)) (named (codes "JOIN") ++ ((named n ++ table_alias_tokens a) ++ (named (codes "ON") ++ (column_tokens j.left ++ (marked (codes "=") ++ (column_tokens j.right ++ ts)))))) ≡ Some (tabled n a (Some j), ts)
joined-read n a j h k i ts after =
    let condition : List Token = column_tokens j.left ++ (marked (codes "=") ++ (column_tokens j.right ++ ts)) in
    let on : List Token = named (codes "ON") ++ condition in
    bind-some table joins (n, a) (Some (tabled n a (Some j), ts)) ((named n ++ table_alias_tokens a) ++ on) on (table-read n a h k on refl)
    (bind-some on_join (λ x. gives (table_with (Some x) (n, a))) j (Some (tabled n a (Some j), ts)) condition ts (join-read j i ts after) refl)

another-read : (n : List ℕ) (a : Option (List ℕ)) (on : Option RawJoin) → IsName n → IfThere IsName a → IfThere IsJoin on → (ts : List Token) → AfterTable ts
    → (commas or joined_table) (joined_tokens on (named n ++ table_alias_tokens a) ++ ts) ≡ Some (tabled n a on, ts)
another-read n a None h k i ts after =
    let all : List Token = comma ++ ((named n ++ table_alias_tokens a) ++ ts) in
    or-first commas joined_table (tabled n a None, ts) all (mapped-some (table_with None) (mark (codes ",") >> table) (n, a) all ts (table-read n a h k ts after.no_name))
another-read n a (Some j) h k i ts after =
    let condition : List Token = column_tokens j.left ++ (marked (codes "=") ++ column_tokens j.right) in
    let whole : (named n ++ table_alias_tokens a) ++ (named (codes "ON") ++ condition) ++ ts ≡ (named n ++ table_alias_tokens a) ++ (named (codes "ON") ++ (column_tokens j.left ++ (marked (codes "=") ++ (column_tokens j.right ++ ts)))) =
    append_assoc (named n ++ table_alias_tokens a) (named (codes "ON") ++ condition) ts
    ∙ ap (λ us. (named n ++ table_alias_tokens a) ++ (named (codes "ON") ++ us)) (append_assoc (column_tokens j.left) (marked (codes "=") ++ column_tokens j.right) ts) in
    let P : List Token → Type 0 = λ us. (commas or joined_table) (named (codes "JOIN") ++ us) ≡ Some (tabled n a (Some j), ts) in
    subst P (sym whole) (joined-read n a j h k i ts after.column)

abbrev IsAnother : RawTable → Type 0
IsAnother t = IsTable t

another-after : (on : Option RawJoin) (u : List Token) (ts : List Token) → AfterTable (joined_tokens on u ++ ts)
another-after None u ts = record { column = record { dot = refl; opening = refl }; no_name = refl }
another-after (Some j) u ts = record { column = record { dot = refl; opening = refl }; no_name = refl }

another-some : (on : Option RawJoin) (u : List Token) → 0 < length (joined_tokens on u)
another-some None u = omega arith
another-some (Some j) u = omega arith

tables-read : (tables : List RawTable) → AreTables tables → (ts : List Token) → AfterTable ts → (commas or joined_table) ts ≡ None
    → from_tables (from_tokens tables ++ ts) ≡ Some (tables, ts)
tables-read [] h ts after end = absurd h
tables-read (t ∷ more) h ts after end =
    let g : RawTable → List Token = another_table_tokens in
    let others : List Token = flat_map g more ++ ts in
    let first : RawTable = tabled t.table t.alias None in
    let same : first ≡ t = ap (λ on. tabled t.table t.alias on) (sym h.1) in
    let behind : name others ≡ None = no-name more ts h.2 after in
    let rest : many (commas or joined_table) others ≡ Some (more, ts) =
    many-read IsTable AfterTable g (commas or joined_table) more ts h.2 (λ u p us ok. another-read u.table u.alias u.on p.0 p.1 p.2 us ok) (λ u us p. another-after u.on (table_tokens u) us) (λ u p. another-some u.on (table_tokens u)) after end in
    let P : RawTable → Type 0 = λ u. from_tables (from_tokens (t ∷ more) ++ ts) ≡ Some (u ∷ more, ts) in
    let all : List Token = (named t.table ++ table_alias_tokens t.alias) ++ others in
    let read : from_tables all ≡ Some (first ∷ more, ts) =
    bind-some table (λ u. many (commas or joined_table) >>= (λ us. gives (table_with None u ∷ us))) (t.table, t.alias) (Some (first ∷ more, ts)) all others (table-read t.table t.alias h.0.0 h.0.1 others behind)
    (bind-some (many (commas or joined_table)) (λ us. gives (first ∷ us)) more (Some (first ∷ more, ts)) others ts rest refl) in
    let Q : List Token → Type 0 = λ us. from_tables us ≡ Some (first ∷ more, ts) in
    subst P same (subst Q (sym (append_assoc (table_tokens t) (flat_map g more) ts)) read)
  where
    no-name : (us : List RawTable) (ts : List Token) → Each IsTable us → AfterTable ts → name (flat_map another_table_tokens us ++ ts) ≡ None
    no-name [] ts all after = after.no_name
    no-name (u ∷ us) ts all after = rw (append_assoc (another_table_tokens u) (flat_map another_table_tokens us) ts) ((another-after u.on (table_tokens u) (flat_map another_table_tokens us ++ ts)).no_name)

-- ---- what stands behind each part

abbrev begun_after : List (List ℕ)
begun_after = codes "WHERE" ∷ codes "GROUP" ∷ codes "HAVING" ∷ codes "ORDER" ∷ []

after-column : (ws : List (List ℕ)) (ts : List Token) → Begun ws ts → AfterColumn ts
after-column ws ts h = record { dot = begun-mark (codes ".") ws ts h; opening = begun-mark (codes "(") ws ts h }

as_of-read : (s : Option ℤ) → IfThere IsUnsigned s → (ts : List Token) → word (codes "AS") ts ≡ None → as_of (as_of_tokens s ++ ts) ≡ Some (s, ts)
as_of-read None h ts none =
    let words : Rule Token = word (codes "AS") >> word (codes "OF") >> word (codes "SCN") in
    let two : (word (codes "AS") >> word (codes "OF")) ts ≡ None = then-none (word (codes "AS")) (word (codes "OF")) ts none in
    let three : words ts ≡ None = then-none (word (codes "AS") >> word (codes "OF")) (word (codes "SCN")) ts two in
    maybe-none (words >> mapped pos number) ts (then-none words (mapped pos number) ts three)
as_of-read (Some (pos n)) h ts none =
    let words : Rule Token = word (codes "AS") >> word (codes "OF") >> word (codes "SCN") in
    maybe-some (words >> mapped pos number) (pos n) (as_of_tokens (Some (pos n)) ++ ts) ts (unsigned-read n h ts)
as_of-read (Some (negsuc n)) h ts none = absurd h

-- AS OF, or nothing, before the clauses
as_of-begun : (s : Option ℤ) (ts : List Token) → Begun begun_after ts → Begun (codes "AS" ∷ begun_after) (as_of_tokens s ++ ts)
as_of-begun None [] h = tt
as_of-begun None (t ∷ ts) h = (h.0, or-later (same_text h.0 (codes "AS")) (has_text begun_after h.0) h.1, h.2)
  where
    or-later : (p q : Bool) → q ≡ true → (p || q) ≡ true
    or-later true q h = refl
    or-later false q h = h
as_of-begun (Some z) ts h = (codes "AS", refl, refl)

after-tables : (ts : List Token) → Begun (codes "AS" ∷ begun_after) ts → AfterTable ts
after-tables ts h = record { column = after-column (codes "AS" ∷ begun_after) ts h; no_name = begun-name (codes "AS" ∷ begun_after) ts (refl, (refl, (refl, (refl, (refl, tt))))) h }

no-tables : (ts : List Token) → Begun (codes "AS" ∷ begun_after) ts → (commas or joined_table) ts ≡ None
no-tables ts h =
    let ws : List (List ℕ) = codes "AS" ∷ begun_after in
    let no_comma : commas ts ≡ None = mapped-none (table_with None) (mark (codes ",") >> table) ts (then-none (mark (codes ",")) table ts (begun-mark (codes ",") ws ts h)) in
    let no_inner : maybe (word (codes "INNER")) ts ≡ Some (None, ts) = maybe-none (word (codes "INNER")) ts (begun-word (codes "INNER") ws ts (refl, (refl, (refl, (refl, (refl, tt))))) h) in
    let no_join : (word (codes "JOIN") >> (table >>= joins)) ts ≡ None = then-none (word (codes "JOIN")) (table >>= joins) ts (begun-word (codes "JOIN") ws ts (refl, (refl, (refl, (refl, (refl, tt))))) h) in
    or-second commas joined_table None ts no_comma (then-some (maybe (word (codes "INNER"))) (word (codes "JOIN") >> (table >>= joins)) None None ts ts no_inner no_join)

-- ---- the clauses

and-parts : Parts AfterColumn (word (codes "AND")) (bare kinds.Name (codes "AND"))
and-parts = record { reads = λ ts. refl; follows = λ ts. record { dot = refl; opening = refl } }

comma-columns : Parts AfterColumn (mark (codes ",")) (bare kinds.Mark (codes ","))
comma-columns = record { reads = λ ts. refl; follows = λ ts. record { dot = refl; opening = refl } }

comma-items : Parts AfterItem (mark (codes ",")) (bare kinds.Mark (codes ","))
comma-items = record { reads = λ ts. refl; follows = λ ts. record { column = record { dot = refl; opening = refl }; no_as = refl; no_name = refl } }

comma-keys : Parts AfterKey (mark (codes ",")) (bare kinds.Mark (codes ","))
comma-keys = record { reads = λ ts. refl; follows = λ ts. record { column = record { dot = refl; opening = refl }; no_asc = refl; no_desc = refl } }

abbrev groups : Rule (List ColName)
groups = optional_list (word (codes "GROUP") >> word (codes "BY") >> listed column)

abbrev havings : Rule (List RawTest)
havings = optional_list (word (codes "HAVING") >> all_of test)

abbrev keys : Rule (List RawKey)
keys = optional_list (word (codes "ORDER") >> word (codes "BY") >> listed order_key)

where-read : (cs : List RawCondition) → Each IsCondition cs → (ts : List Token) → Begun (codes "GROUP" ∷ codes "HAVING" ∷ codes "ORDER" ∷ []) ts → where_conditions (where_tokens cs ++ ts) ≡ Some (cs, ts)
where-read [] h ts begun =
    optional-none (word (codes "WHERE") >> all_of condition) ts (then-none (word (codes "WHERE")) (all_of condition) ts (begun-word (codes "WHERE") (codes "GROUP" ∷ codes "HAVING" ∷ codes "ORDER" ∷ []) ts (refl, (refl, (refl, tt))) begun))
where-read (c ∷ cs) h ts begun =
    let ws : List (List ℕ) = codes "GROUP" ∷ codes "HAVING" ∷ codes "ORDER" ∷ [] in
    optional-some (word (codes "WHERE") >> all_of condition) (where_tokens (c ∷ cs) ++ ts) ts (c ∷ cs)
    (parted-read IsCondition AfterColumn condition_tokens condition (word (codes "AND")) (bare kinds.Name (codes "AND")) (c ∷ cs) ts and-parts h (λ x p us ok. condition-read x p us ok) (after-column ws ts begun) (begun-word (codes "AND") ws ts (refl, (refl, (refl, tt))) begun))

groups-read : (cs : List ColName) → Each IsColumn cs → (ts : List Token) → Begun (codes "HAVING" ∷ codes "ORDER" ∷ []) ts → groups (group_tokens cs ++ ts) ≡ Some (cs, ts)
groups-read [] h ts begun =
    let by : (word (codes "GROUP") >> word (codes "BY")) ts ≡ None = then-none (word (codes "GROUP")) (word (codes "BY")) ts (begun-word (codes "GROUP") (codes "HAVING" ∷ codes "ORDER" ∷ []) ts (refl, (refl, tt)) begun) in
    optional-none (word (codes "GROUP") >> word (codes "BY") >> listed column) ts (then-none (word (codes "GROUP") >> word (codes "BY")) (listed column) ts by)
groups-read (c ∷ cs) h ts begun =
    let ws : List (List ℕ) = codes "HAVING" ∷ codes "ORDER" ∷ [] in
    optional-some (word (codes "GROUP") >> word (codes "BY") >> listed column) (group_tokens (c ∷ cs) ++ ts) ts (c ∷ cs)
    (parted-read IsColumn AfterColumn column_tokens column (mark (codes ",")) (bare kinds.Mark (codes ",")) (c ∷ cs) ts comma-columns h (λ x p us ok. column-read x p us ok) (after-column ws ts begun) (begun-mark (codes ",") ws ts begun))

havings-read : (hs : List RawTest) → Each IsTest hs → (ts : List Token) → Begun (codes "ORDER" ∷ []) ts → havings (having_tokens hs ++ ts) ≡ Some (hs, ts)
havings-read [] h ts begun =
    optional-none (word (codes "HAVING") >> all_of test) ts (then-none (word (codes "HAVING")) (all_of test) ts (begun-word (codes "HAVING") (codes "ORDER" ∷ []) ts (refl, tt) begun))
havings-read (t ∷ hs) h ts begun =
    let ws : List (List ℕ) = codes "ORDER" ∷ [] in
    optional-some (word (codes "HAVING") >> all_of test) (having_tokens (t ∷ hs) ++ ts) ts (t ∷ hs)
    (parted-read IsTest AfterColumn test_tokens test (word (codes "AND")) (bare kinds.Name (codes "AND")) (t ∷ hs) ts and-parts h (λ x p us ok. test-read x p us) (after-column ws ts begun) (begun-word (codes "AND") ws ts (refl, tt) begun))

keys-read : (ks : List RawKey) → Each IsKey ks → keys (order_by_tokens ks ++ []) ≡ Some (ks, [])
keys-read [] h = refl
keys-read (k ∷ ks) h =
    optional-some (word (codes "ORDER") >> word (codes "BY") >> listed order_key) (order_by_tokens (k ∷ ks) ++ []) [] (k ∷ ks)
    (parted-read IsKey AfterKey key_tokens order_key (mark (codes ",")) (bare kinds.Mark (codes ",")) (k ∷ ks) [] comma-keys h (λ x p us ok. key-read x p us ok) (record { column = record { dot = refl; opening = refl }; no_asc = refl; no_desc = refl }) refl)

-- ---- the whole

pub query-read : (q : RawQuery) → IsWritten q → select (query_tokens q) ≡ Some (q, [])
query-read q h =
    let last : List Token = order_by_tokens q.order ++ [] in
    let after_groups : List Token = having_tokens q.having ++ last in
    let after_where : List Token = group_tokens q.groups ++ after_groups in
    let after_scn : List Token = where_tokens q.conditions ++ after_where in
    let after_tables : List Token = as_of_tokens q.as_of ++ after_scn in
    let from : List Token = from_tokens q.tables ++ after_tables in
    let items : List Token = listed_tokens comma item_tokens q.items ++ (named (codes "FROM") ++ from) in
    let one : Begun (codes "ORDER" ∷ []) last = begun-clause (codes "ORDER") (named (codes "BY")) comma key_tokens q.order [] [] tt in
    let two : Begun (codes "HAVING" ∷ codes "ORDER" ∷ []) after_groups = begun-clause (codes "HAVING") [] (named (codes "AND")) test_tokens q.having (codes "ORDER" ∷ []) last one in
    let three : Begun (codes "GROUP" ∷ codes "HAVING" ∷ codes "ORDER" ∷ []) after_where = begun-clause (codes "GROUP") (named (codes "BY")) comma column_tokens q.groups (codes "HAVING" ∷ codes "ORDER" ∷ []) after_groups two in
    let four : Begun begun_after after_scn = begun-clause (codes "WHERE") [] (named (codes "AND")) condition_tokens q.conditions (codes "GROUP" ∷ codes "HAVING" ∷ codes "ORDER" ∷ []) after_where three in
    let five : Begun (codes "AS" ∷ begun_after) after_tables = as_of-begun q.as_of after_scn four in
    let no_as : word (codes "AS") after_scn ≡ None = begun-word (codes "AS") begun_after after_scn (refl, (refl, (refl, (refl, tt)))) four in
    let i : listed item items ≡ Some (q.items, named (codes "FROM") ++ from) =
    parted-read IsItem AfterItem item_tokens item (mark (codes ",")) (bare kinds.Mark (codes ",")) q.items (named (codes "FROM") ++ from) comma-items h.items (λ x p us ok. item-read x p us ok) (record { column = record { dot = refl; opening = refl }; no_as = refl; no_name = refl }) refl in
    let t : from_tables from ≡ Some (q.tables, after_tables) = tables-read q.tables h.tables after_tables (after-tables after_tables five) (no-tables after_tables five) in
    let s : as_of after_tables ≡ Some (q.as_of, after_scn) = as_of-read q.as_of h.as_of after_scn no_as in
    let c : where_conditions after_scn ≡ Some (q.conditions, after_where) = where-read q.conditions h.conditions after_where three in
    let g : groups after_where ≡ Some (q.groups, after_groups) = groups-read q.groups h.groups after_groups two in
    let v : havings after_groups ≡ Some (q.having, last) = havings-read q.having h.having last one in
    let o : keys last ≡ Some (q.order, []) = keys-read q.order h.order in
    let r : Option (RawQuery × List Token) = Some (q, []) in
    let made : List RawItem → List RawTable → Option ℤ → List RawCondition → List ColName → List RawTest → List RawKey → RawQuery =
    λ i t s c g v o. record { items = i; tables = t; as_of = s; conditions = c; groups = g; having = v; order = o } in
    let read : select (named (codes "SELECT") ++ items) ≡ r =
    bind-some (listed item) (λ i. word (codes "FROM") >> (from_tables >>= (λ t. as_of >>= (λ s. where_conditions >>= (λ c. groups >>= (λ g. havings >>= (λ v. keys >>= (λ o. gives (made i t s c g v o))))))))) q.items r items (named (codes "FROM") ++ from) i
    (bind-some from_tables (λ t. as_of >>= (λ s. where_conditions >>= (λ c. groups >>= (λ g. havings >>= (λ v. keys >>= (λ o. gives (made q.items t s c g v o))))))) q.tables r from after_tables t
    (bind-some as_of (λ s. where_conditions >>= (λ c. groups >>= (λ g. havings >>= (λ v. keys >>= (λ o. gives (made q.items q.tables s c g v o)))))) q.as_of r after_tables after_scn s
    (bind-some where_conditions (λ c. groups >>= (λ g. havings >>= (λ v. keys >>= (λ o. gives (made q.items q.tables q.as_of c g v o))))) q.conditions r after_scn after_where c
    (bind-some groups (λ g. havings >>= (λ v. keys >>= (λ o. gives (made q.items q.tables q.as_of q.conditions g v o)))) q.groups r after_where after_groups g
    (bind-some havings (λ v. keys >>= (λ o. gives (made q.items q.tables q.as_of q.conditions q.groups v o))) q.having r after_groups last v
    (bind-some keys (λ o. gives (made q.items q.tables q.as_of q.conditions q.groups q.having o)) q.order r last [] o refl)))))) in
    subst (λ us. select us ≡ r) (whole q) read
  where
    whole : (q : RawQuery) → named (codes "SELECT") ++ (listed_tokens comma item_tokens q.items ++ (named (codes "FROM") ++ (from_tokens q.tables
        ++ (as_of_tokens q.as_of ++ (where_tokens q.conditions ++ (group_tokens q.groups ++ (having_tokens q.having ++ (order_by_tokens q.order ++ [])))))))) ≡ query_tokens q
    whole q = rw (append-nil (order_by_tokens q.order)) refl
