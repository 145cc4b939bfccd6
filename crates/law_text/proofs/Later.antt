-- The star form of a query when more tables were created later.
use Rattle.std.proofs.Common.{ap₂, codes, ◌≡◌, ℕ, suc, zero, ◌+◌, ◌<◌, List, [], ◌∷◌, ◌++◌, refl, ap, sym, ◌∙◌, arith, true, false, Bool, cond, ◌&&◌, ◌||◌, ◌==◌, length, map, not, nat_lt, option_map, unwrap_or, flat_map, filter_map, position, slice_get, Option, Some, None, Result, Ok, Err}
use Rattle.std.proofs.lemmas.Bool.Decides.{nat_tests}
use Rattle.std.proofs.lemmas.List.{length-append}
use Rattle.std.specs.List.{AllByRecursion, cons_option, list_any, position_or_len}
use Rattle.wh_base.specs.Columns.{agg_columns, expr_columns}
use Rattle.wh_base.specs.Lists.{first_of, first_some, has_number, head, option_case, or_refuse, same_text, unless, unless_then, where_true, ◌>>=◌}
use Rattle.wh_base.specs.Tables.{def_at, empty_def, table_number}
use Rattle.wh_base.specs.declared.columns.ColPart.{ColPart}
use Rattle.wh_base.specs.declared.columns.ColRef.{ColRef}
use Rattle.wh_base.specs.declared.queries.ColName.{ColName}
use Rattle.wh_base.specs.declared.queries.Edge.{Edge}
use Rattle.wh_base.specs.declared.queries.RawAgg.{RawAgg}
use Rattle.wh_base.specs.declared.queries.RawAgg.TheVariants.{AvgOf, CountOf, CountRows, MaxOf, MinOf, SumOf}
use Rattle.wh_base.specs.declared.queries.RawCondition.{RawCondition}
use Rattle.wh_base.specs.declared.queries.RawCondition.TheVariants as raw
use Rattle.wh_base.specs.declared.queries.RawExpr.{RawExpr}
use Rattle.wh_base.specs.declared.queries.RawExpr.TheVariants.{Column, Constant, Times}
use Rattle.wh_base.specs.declared.queries.RawItem.{RawItem}
use Rattle.wh_base.specs.declared.queries.RawJoin.{RawJoin}
use Rattle.wh_base.specs.declared.queries.RawKey.{RawKey}
use Rattle.wh_base.specs.declared.queries.RawOrder.{RawOrder}
use Rattle.wh_base.specs.declared.queries.RawOrder.TheVariants as order
use Rattle.wh_base.specs.declared.queries.RawQuery.{RawQuery}
use Rattle.wh_base.specs.declared.queries.RawTable.{RawTable}
use Rattle.wh_base.specs.declared.queries.RawTest.{RawTest}
use Rattle.wh_base.specs.declared.queries.RawWhat.{RawWhat}
use Rattle.wh_base.specs.declared.queries.RawWhat.TheVariants as what
use Rattle.wh_base.specs.declared.queries.StarQuery.{StarQuery}
use Rattle.wh_base.specs.declared.replies.Refusal.{Refusal}
use Rattle.wh_base.specs.declared.replies.Refusal.TheVariants.{NoSuchObject, NotGrouped, NotStar, ValueDoesNotFit}
use Rattle.wh_base.specs.declared.tables.TableDef.{TableDef}
use Rattle.wh_base.specs.declared.values.Literal.{Literal}
use Rattle.wh_base.specs.declared.values.Literal.TheVariants.{Number}
use Rattle.def_resolve.specs.Kinds.{IsNumber, Sort, agg_refusal, agg_sort, agrees, column_compare_refusal, column_sort, compare_refusal, condition_refusal, equal_refusal, expr_sort, is_plain, is_summed, is_too_long, literal_sort, misfit, misfit_literal, part_sort, printed_part, product_refusal, sum_refusal, summed_refusal, test_refusal}
use Rattle.def_resolve.specs.Names.{Source, column_in, column_named, column_of, is_qualified_by, names_refusal, no_column, part_named, source_of, sources_of, table_refusal, the_only}
use Rattle.def_resolve.specs.Resolve.{first_table, grouping_holds, join_of_condition, join_of_table, joins_of, kinds_refusal, order_kind_refusal, resolve, resolved_agg, resolved_expr, resolved_item, star_form, star_query, what_refusal}
use Rattle.def_resolve.specs.Star.{Tree, branch_to, directed, grow, is_key_column, is_repeated_number, leads_to, next_branch, spanning, star_of, turned, with_branch}
use Rattle.law_text.proofs.Stars.{after-refusals, no-refusal}

-- ---- lists

first-same : {A B : Type 0} (f g : A → Option B) → ((x : A) → f x ≡ g x) → (xs : List A) → map f xs ≡ map g xs
first-same f g h [] = refl
first-same f g h (x ∷ xs) = rw (h x, first-same f g h xs) refl

first_of-same : {A B : Type 0} (f g : A → Option B) → ((x : A) → f x ≡ g x) → (xs : List A) → first_of f xs ≡ first_of g xs
first_of-same {A} {B} f g h xs = ap (λ (os : List (Option B)). first_some os) (first-same f g h xs)

each-same : {A B : Type 0} (P : A → Type 0) (f g : A → Option B) → ((x : A) → P x → f x ≡ g x) → (xs : List A) → AllByRecursion P xs → map f xs ≡ map g xs
each-same P f g h [] all = refl
each-same P f g h (x ∷ xs) all = rw (h x all.0, each-same P f g h xs all.1) refl

first_of-each : {A B : Type 0} (P : A → Type 0) (f g : A → Option B) → ((x : A) → P x → f x ≡ g x) → (xs : List A) → AllByRecursion P xs → first_of f xs ≡ first_of g xs
first_of-each {A} {B} P f g h xs all = ap (λ (os : List (Option B)). first_some os) (each-same P f g h xs all)

each-both : {A : Type 0} (P : A → Type 0) (xs ys : List A) → AllByRecursion P xs → AllByRecursion P ys → AllByRecursion P (xs ++ ys)
each-both P [] ys h k = k
each-both P (x ∷ xs) ys h k = (h.0, each-both P xs ys h.1 k)

each-flat : {A B : Type 0} (P : B → Type 0) (f : A → List B) → ((x : A) → AllByRecursion P (f x)) → (xs : List A) → AllByRecursion P (flat_map f xs)
each-flat P f h [] = tt
each-flat P f h (x ∷ xs) = each-both P (f x) (flat_map f xs) (h x) (each-flat P f h xs)

-- ---- tables by their names and numbers

get-later : {A : Type 0} (xs ys : List A) (n : ℕ) → n < length xs → slice_get (xs ++ ys) n ≡ slice_get xs n
get-later [] ys n h = absurd (omega (arith, h))
get-later (x ∷ xs) ys zero h = refl
get-later (x ∷ xs) ys (suc n) h = get-later xs ys n (omega (arith, h))

pub def-later : (defs more : List TableDef) (n : ℕ) → n < length defs → def_at (defs ++ more) n ≡ def_at defs n
def-later defs more n h = ap (λ (o : Option TableDef). unwrap_or o empty_def) (get-later defs more n h)

place-later : {A : Type 0} (p : A → Bool) (xs ys : List A) → position_or_len p xs < length xs → position_or_len p (xs ++ ys) ≡ position_or_len p xs
place-later p [] ys h = absurd (omega (arith, h))
place-later p (x ∷ xs) ys h = by (p x) h (λ k. place-later p xs ys k)
  where
    by : (b : Bool) → cond (not b) (1 + position_or_len p xs) 0 < suc (length xs) → (position_or_len p xs < length xs → position_or_len p (xs ++ ys) ≡ position_or_len p xs)
        → cond (not b) (1 + position_or_len p (xs ++ ys)) 0 ≡ cond (not b) (1 + position_or_len p xs) 0
    by true k later = refl
    by false k later = ap (λ (n : ℕ). 1 + n) (later (omega (arith, k)))

found-at : (b : Bool) (m n : ℕ) → cond b (Some m) None ≡ Some n → (b ≡ true) × (m ≡ n)
found-at true m n h = (refl, cc)
found-at false m n h = cc

position-within : {A : Type 0} (p : A → Bool) (xs : List A) (n : ℕ) → position p xs ≡ Some n → (position_or_len p xs < length xs) × (position_or_len p xs ≡ n)
position-within p xs n h =
    let found = found-at (nat_lt (position_or_len p xs) (length xs)) (position_or_len p xs) n h in
    (grind (arith, nat_tests, found.0), found.1)

position-later : {A : Type 0} (p : A → Bool) (xs ys : List A) (n : ℕ) → position p xs ≡ Some n → position p (xs ++ ys) ≡ Some n
position-later p xs ys n h =
    let within = position-within p xs n h in
    let place : position_or_len p (xs ++ ys) ≡ n = place-later p xs ys within.0 ∙ within.1 in
    let below : nat_lt n (length (xs ++ ys)) ≡ true = grind (arith, nat_tests, within.0, within.1, length-append xs ys) in
    rw (place, below) refl

-- ---- the tables of FROM

abbrev IsWithin : List TableDef → Source → Type 0
IsWithin defs s = s.table < length defs

abbrev missing : List TableDef → RawTable → Option Refusal
missing defs t = option_case (table_number defs t.table) (Some (NoSuchObject t.table)) (λ _. None)

source-at : (defs more : List TableDef) (t : RawTable) (n : ℕ) → table_number defs t.table ≡ Some n
    → (table_number (defs ++ more) t.table ≡ Some n) × (n < length defs)
source-at defs more t n h =
    let within = position-within (λ d. same_text d.name t.table) defs n h in
    (position-later (λ d. same_text d.name t.table) defs more n h, omega (arith, within.0, within.1))

abbrev source_numbered : List TableDef → RawTable → ℕ → Source
source_numbered defs t n = record { label = unwrap_or t.alias t.table; table = n; def = def_at defs n }

source-later : (defs more : List TableDef) (t : RawTable) (n : ℕ) → table_number defs t.table ≡ Some n
    → (source_of (defs ++ more) t ≡ Some (source_numbered defs t n)) × (source_of defs t ≡ Some (source_numbered defs t n))
source-later defs more t n h =
    let at = source-at defs more t n h in
    let old : source_of defs t ≡ Some (source_numbered defs t n) = ap (λ (o : Option ℕ). option_map (source_numbered defs t) o) h in
    let new : source_of (defs ++ more) t ≡ Some (source_numbered (defs ++ more) t n) = ap (λ (o : Option ℕ). option_map (source_numbered (defs ++ more) t) o) at.0 in
    let same : Some (source_numbered (defs ++ more) t n) ≡ Some (source_numbered defs t n) =
    ap (λ (d : TableDef). Some (record { label = unwrap_or t.alias t.table; table = n; def = d })) (def-later defs more n at.1) in
    (new ∙ same, old)

-- the tables are there, and are the same ones
record AreThere (defs more : List TableDef) (ts : List RawTable) : Type 0 where
  none : first_of (missing (defs ++ more)) ts ≡ None
  sources : filter_map (source_of (defs ++ more)) ts ≡ filter_map (source_of defs) ts
  within : AllByRecursion (IsWithin defs) (filter_map (source_of defs) ts)

there-at : (defs more : List TableDef) (t : RawTable) (ts : List RawTable) (o : Option ℕ) → table_number defs t.table ≡ o
    → (first_of (missing defs) ts ≡ None → AreThere defs more ts)
    → first_some (option_case o (Some (NoSuchObject t.table)) (λ _. None) ∷ map (missing defs) ts) ≡ None → AreThere defs more (t ∷ ts)
there-at defs more t ts None e later h = cc
there-at defs more t ts (Some n) e later h =
    let rest = later h in
    let at = source-at defs more t n e in
    let both = source-later defs more t n e in
    record {
      none = rw (at.0) rest.none;
      sources = rw (both.0, both.1, rest.sources) refl;
      within = rw (both.1) (at.1, rest.within);
    }

are-there : (defs more : List TableDef) (ts : List RawTable) → first_of (missing defs) ts ≡ None → AreThere defs more ts
are-there defs more [] h = record { none = refl; sources = refl; within = tt }
are-there defs more (t ∷ ts) h = there-at defs more t ts (table_number defs t.table) refl (λ k. are-there defs more ts k) h

-- ---- the columns that names stand for

abbrev IsAmong : List TableDef → ColRef → Type 0
IsAmong defs c = c.table < length defs

abbrev IfAmong : List TableDef → Option ColRef → Type 0
IfAmong defs None = Unit {0}
IfAmong defs (Some c) = IsAmong defs c

among-in : (defs : List TableDef) (table : ℕ) (b : Bool) (o : Option ColPart) → table < length defs → IfAmong defs (cond b (option_map (λ p. record { table = table; part = p }) o) None)
among-in defs table true None h = tt
among-in defs table true (Some p) h = h
among-in defs table false o h = tt

among-cons : (defs : List TableDef) (o : Option ColRef) (cs : List ColRef) → IfAmong defs o → AllByRecursion (IsAmong defs) cs → AllByRecursion (IsAmong defs) (cons_option o cs)
among-cons defs None cs h all = all
among-cons defs (Some c) cs h all = (h, all)

among-all : (defs : List TableDef) (c : ColName) (ss : List Source) → AllByRecursion (IsWithin defs) ss → AllByRecursion (IsAmong defs) (filter_map (column_in c) ss)
among-all defs c [] all = tt
among-all defs c (s ∷ ss) all =
    among-cons defs (column_in c s) (filter_map (column_in c) ss) (among-in defs s.table (is_qualified_by c.qualifier s) (part_named s.def c.part) all.0) (among-all defs c ss all.1)

among-only : (defs : List TableDef) (cs : List ColRef) → AllByRecursion (IsAmong defs) cs → IfAmong defs (the_only cs)
among-only defs [] all = tt
among-only defs (c ∷ []) all = all.0
among-only defs (c ∷ d ∷ cs) all = tt

among-named : (defs : List TableDef) (o : Option ColRef) → 0 < length defs → IfAmong defs o → IsAmong defs (unwrap_or o no_column)
among-named defs None some h = some
among-named defs (Some c) some h = h

columns-among : (defs : List TableDef) (ss : List Source) → AllByRecursion (IsWithin defs) ss → 0 < length defs → (c : ColName) → IsAmong defs (column_named ss c)
columns-among defs ss all some c = among-named defs (column_of ss c) some (among-only defs (filter_map (column_in c) ss) (among-all defs c ss all))

-- ---- kinds

abbrev IsKept : List TableDef → List TableDef → ℕ → Type 0
IsKept new old n = def_at new n ≡ def_at old n

-- the tables of all columns, and the first of FROM, are the same in both lists of definitions
record AreKept (new old : List TableDef) (column : ColName → ColRef) (first : ℕ) : Type 0 where
  columns : (c : ColName) → IsKept new old (column c).table
  at_first : IsKept new old first

sort-kept : (new old : List TableDef) (c : ColRef) → IsKept new old c.table → column_sort new c ≡ column_sort old c
sort-kept new old c h = ap (λ (d : TableDef). part_sort d c.part) h

summed-kept : (new old : List TableDef) (c : ColRef) → IsKept new old c.table → is_summed new c ≡ is_summed old c
summed-kept new old c h = ap (λ (s : Sort). is_plain c.part && agrees s IsNumber) (sort-kept new old c h)

misfit-kept : (new old : List TableDef) (c : ColRef) → IsKept new old c.table → misfit new c ≡ misfit old c
misfit-kept new old c h = ap (λ (d : TableDef). ValueDoesNotFit d.name (printed_part d c.part)) h

literal-kept : (new old : List TableDef) (n : ℕ) → IsKept new old n → misfit_literal new n ≡ misfit_literal old n
literal-kept new old n h = ap (λ (d : TableDef). ValueDoesNotFit d.name (codes "-")) h

abbrev compared : Sort → List Literal → Refusal → Refusal → Option Refusal
compared sort ls kind long =
    first_some (where_true (list_any (λ l. not (agrees sort (literal_sort l))) ls) kind ∷ where_true (list_any is_too_long ls) long ∷ [])

compare_none-kept : (new old : List TableDef) (first : ℕ) (sort : Sort) (ls : List Literal) → IsKept new old first → compare_refusal new first None sort ls ≡ compare_refusal old first None sort ls
compare_none-kept new old first sort ls h = ap (λ (r : Refusal). compared sort ls r r) (literal-kept new old first h)

compare_some-kept : (new old : List TableDef) (first : ℕ) (c : ColRef) (sort : Sort) (ls : List Literal) → IsKept new old c.table → compare_refusal new first (Some c) sort ls ≡ compare_refusal old first (Some c) sort ls
compare_some-kept new old first c sort ls h =
    ap (λ (r : Refusal). compared sort ls r (misfit_literal new c.table)) (misfit-kept new old c h) ∙ ap (λ (r : Refusal). compared sort ls (misfit old c) r) (literal-kept new old c.table h)

compare_column-kept : (new old : List TableDef) (c : ColRef) (ls : List Literal) → IsKept new old c.table → column_compare_refusal new c ls ≡ column_compare_refusal old c ls
compare_column-kept new old c ls h =
    compare_some-kept new old c.table c (column_sort new c) ls h ∙ ap (λ (s : Sort). compare_refusal old c.table (Some c) s ls) (sort-kept new old c h)

equal-kept : (new old : List TableDef) (a b : ColRef) → IsKept new old a.table → IsKept new old b.table → equal_refusal new a b ≡ equal_refusal old a b
equal-kept new old a b h k =
    ap₂ (λ (s t : Sort). where_true (not (agrees s t)) (misfit new a)) (sort-kept new old a h) (sort-kept new old b k)
    ∙ ap (λ (r : Refusal). where_true (not (agrees (column_sort old a) (column_sort old b))) r) (misfit-kept new old a h)

condition-kept : (new old : List TableDef) (column : ColName → ColRef) (first : ℕ) → AreKept new old column first → (c : RawCondition) → condition_refusal new column c ≡ condition_refusal old column c
condition-kept new old column first h (raw.Compare c op l) = compare_column-kept new old (column c) (l ∷ []) (h.columns c)
condition-kept new old column first h (raw.Between c l m) = compare_column-kept new old (column c) (l ∷ m ∷ []) (h.columns c)
condition-kept new old column first h (raw.Equal a b) = equal-kept new old (column a) (column b) (h.columns a) (h.columns b)
condition-kept new old column first h (raw.OneOf c ls) = compare_column-kept new old (column c) ls (h.columns c)
condition-kept new old column first h (raw.IsNull c) = refl
condition-kept new old column first h (raw.NotNull c) = refl

one-found : (new old : List TableDef) (a : ColRef) → misfit new a ≡ misfit old a → (x : Bool)
    → option_map (misfit new) (cond (not x) (Some a) None) ≡ option_map (misfit old) (cond (not x) (Some a) None)
one-found new old a h true = refl
one-found new old a h false = ap (λ (r : Refusal). Some r) h

two-found : (new old : List TableDef) (a b : ColRef) → misfit new a ≡ misfit old a → misfit new b ≡ misfit old b → (x y : Bool)
    → option_map (misfit new) (cond (not x) (Some a) (cond (not y) (Some b) None)) ≡ option_map (misfit old) (cond (not x) (Some a) (cond (not y) (Some b) None))
two-found new old a b h k true y = one-found new old b k y
two-found new old a b h k false y = ap (λ (r : Refusal). Some r) h

one-kept : (new old : List TableDef) (a : ColRef) → IsKept new old a.table → summed_refusal new (a ∷ []) ≡ summed_refusal old (a ∷ [])
one-kept new old a h =
    one-found new old a (misfit-kept new old a h) (is_summed new a) ∙ ap (λ (x : Bool). option_map (misfit old) (cond (not x) (Some a) None)) (summed-kept new old a h)

two-kept : (new old : List TableDef) (a b : ColRef) → IsKept new old a.table → IsKept new old b.table → summed_refusal new (a ∷ b ∷ []) ≡ summed_refusal old (a ∷ b ∷ [])
two-kept new old a b h k =
    two-found new old a b (misfit-kept new old a h) (misfit-kept new old b k) (is_summed new a) (is_summed new b)
    ∙ ap₂ (λ (x y : Bool). option_map (misfit old) (cond (not x) (Some a) (cond (not y) (Some b) None))) (summed-kept new old a h) (summed-kept new old b k)

product-kept : (new old : List TableDef) (column : ColName → ColRef) (first : ℕ) → AreKept new old column first → (e : RawExpr) → product_refusal new first (resolved_expr column e) ≡ product_refusal old first (resolved_expr column e)
product-kept new old column first h (Column c) = refl
product-kept new old column first h (Times a b) = two-kept new old (column a) (column b) (h.columns a) (h.columns b)
product-kept new old column first h (Constant n) = ap (λ (r : Refusal). where_true (is_too_long (Number n)) r) (literal-kept new old first h.at_first)

sum-kept : (new old : List TableDef) (column : ColName → ColRef) (first : ℕ) → AreKept new old column first → (e : RawExpr) → sum_refusal new first (resolved_expr column e) ≡ sum_refusal old first (resolved_expr column e)
sum-kept new old column first h (Column c) = one-kept new old (column c) (h.columns c)
sum-kept new old column first h (Times a b) = product-kept new old column first h (Times a b)
sum-kept new old column first h (Constant n) = product-kept new old column first h (Constant n)

agg-kept : (new old : List TableDef) (column : ColName → ColRef) (first : ℕ) → AreKept new old column first → (a : RawAgg) → agg_refusal new first (resolved_agg column a) ≡ agg_refusal old first (resolved_agg column a)
agg-kept new old column first h CountRows = refl
agg-kept new old column first h (CountOf e) = product-kept new old column first h e
agg-kept new old column first h (SumOf e) = sum-kept new old column first h e
agg-kept new old column first h (AvgOf e) = sum-kept new old column first h e
agg-kept new old column first h (MinOf e) = product-kept new old column first h e
agg-kept new old column first h (MaxOf e) = product-kept new old column first h e

-- ---- a condition of HAVING

expr_sort-kept : (new old : List TableDef) (column : ColName → ColRef) (first : ℕ) → AreKept new old column first → (e : RawExpr) → expr_sort new (resolved_expr column e) ≡ expr_sort old (resolved_expr column e)
expr_sort-kept new old column first h (Column c) = sort-kept new old (column c) (h.columns c)
expr_sort-kept new old column first h (Times a b) = refl
expr_sort-kept new old column first h (Constant n) = refl

-- a comparison of an expression with a literal
expr-kept : (new old : List TableDef) (column : ColName → ColRef) (first : ℕ) → AreKept new old column first → (sort : Sort) (ls : List Literal) (e : RawExpr)
    → compare_refusal new first (head (expr_columns (resolved_expr column e))) sort ls ≡ compare_refusal old first (head (expr_columns (resolved_expr column e))) sort ls
expr-kept new old column first h sort ls (Column c) = compare_some-kept new old first (column c) sort ls (h.columns c)
expr-kept new old column first h sort ls (Times a b) = compare_some-kept new old first (column a) sort ls (h.columns a)
expr-kept new old column first h sort ls (Constant n) = compare_none-kept new old first sort ls h.at_first

compare_agg-kept : (new old : List TableDef) (column : ColName → ColRef) (first : ℕ) → AreKept new old column first → (ls : List Literal) (a : RawAgg)
    → compare_refusal new first (head (agg_columns (resolved_agg column a))) (agg_sort new (resolved_agg column a)) ls ≡ compare_refusal old first (head (agg_columns (resolved_agg column a))) (agg_sort old (resolved_agg column a)) ls
compare_agg-kept new old column first h ls CountRows = compare_none-kept new old first IsNumber ls h.at_first
compare_agg-kept new old column first h ls (CountOf e) = expr-kept new old column first h IsNumber ls e
compare_agg-kept new old column first h ls (SumOf e) = expr-kept new old column first h IsNumber ls e
compare_agg-kept new old column first h ls (AvgOf e) = expr-kept new old column first h IsNumber ls e
compare_agg-kept new old column first h ls (MinOf e) =
    expr-kept new old column first h (expr_sort new (resolved_expr column e)) ls e
    ∙ ap (λ (s : Sort). compare_refusal old first (head (expr_columns (resolved_expr column e))) s ls) (expr_sort-kept new old column first h e)
compare_agg-kept new old column first h ls (MaxOf e) =
    expr-kept new old column first h (expr_sort new (resolved_expr column e)) ls e
    ∙ ap (λ (s : Sort). compare_refusal old first (head (expr_columns (resolved_expr column e))) s ls) (expr_sort-kept new old column first h e)

test-kept : (new old : List TableDef) (column : ColName → ColRef) (first : ℕ) → AreKept new old column first → (t : RawTest)
    → test_refusal new first (resolved_agg column t.agg) t.literal ≡ test_refusal old first (resolved_agg column t.agg) t.literal
test-kept new old column first h t =
    ap₂ (λ (o u : Option Refusal). first_some (o ∷ u ∷ [])) (agg-kept new old column first h t.agg) (compare_agg-kept new old column first h (t.literal ∷ []) t.agg)

what-kept : (new old : List TableDef) (column : ColName → ColRef) (first : ℕ) → AreKept new old column first → (w : RawWhat) → what_refusal new first column w ≡ what_refusal old first column w
what-kept new old column first h (what.Plain c) = refl
what-kept new old column first h (what.Computed a) = agg-kept new old column first h a

order-kept : (new old : List TableDef) (column : ColName → ColRef) (first : ℕ) → AreKept new old column first → (w : RawOrder) → order_kind_refusal new first column w ≡ order_kind_refusal old first column w
order-kept new old column first h (order.Position n) = refl
order-kept new old column first h (order.Column c) = refl
order-kept new old column first h (order.Computed a) = agg-kept new old column first h a

-- ---- joins

abbrev IsEdgeKept : List TableDef → List TableDef → Edge → Type 0
IsEdgeKept new old e = IsKept new old e.from.table × IsKept new old e.to.table

table_joins-kept : (new old : List TableDef) (column : ColName → ColRef) (first : ℕ) → AreKept new old column first → (t : RawTable) → AllByRecursion (IsEdgeKept new old) (join_of_table column t)
table_joins-kept new old column first h t = by t.on
  where
    by : (o : Option RawJoin) → AllByRecursion (IsEdgeKept new old) (option_case o [] (λ j. record { from = column j.left; to = column j.right } ∷ []))
    by None = tt
    by (Some j) = ((h.columns j.left, h.columns j.right), tt)

condition_joins-kept : (new old : List TableDef) (column : ColName → ColRef) (first : ℕ) → AreKept new old column first → (c : RawCondition) → AllByRecursion (IsEdgeKept new old) (join_of_condition column c)
condition_joins-kept new old column first h (raw.Compare c op l) = tt
condition_joins-kept new old column first h (raw.Between c l m) = tt
condition_joins-kept new old column first h (raw.Equal a b) = ((h.columns a, h.columns b), tt)
condition_joins-kept new old column first h (raw.OneOf c ls) = tt
condition_joins-kept new old column first h (raw.IsNull c) = tt
condition_joins-kept new old column first h (raw.NotNull c) = tt

joins-kept : (new old : List TableDef) (column : ColName → ColRef) (first : ℕ) → AreKept new old column first → (q : RawQuery) → AllByRecursion (IsEdgeKept new old) (joins_of column q)
joins-kept new old column first h q =
    each-both (IsEdgeKept new old) (flat_map (join_of_table column) q.tables) (flat_map (join_of_condition column) q.conditions)
    (each-flat (IsEdgeKept new old) (join_of_table column) (table_joins-kept new old column first h) q.tables)
    (each-flat (IsEdgeKept new old) (join_of_condition column) (condition_joins-kept new old column first h) q.conditions)

kinds-kept : (new old : List TableDef) (column : ColName → ColRef) (first : ℕ) → AreKept new old column first → (q : RawQuery) → kinds_refusal new first column q ≡ kinds_refusal old first column q
kinds-kept new old column first h q =
    let items : first_of (λ (i : RawItem). what_refusal new first column i.what) q.items ≡ first_of (λ (i : RawItem). what_refusal old first column i.what) q.items =
    first_of-same (λ (i : RawItem). what_refusal new first column i.what) (λ (i : RawItem). what_refusal old first column i.what) (λ i. what-kept new old column first h i.what) q.items in
    let ons : first_of (λ (e : Edge). equal_refusal new e.from e.to) (flat_map (join_of_table column) q.tables) ≡ first_of (λ (e : Edge). equal_refusal old e.from e.to) (flat_map (join_of_table column) q.tables) =
    first_of-each (IsEdgeKept new old) (λ (e : Edge). equal_refusal new e.from e.to) (λ (e : Edge). equal_refusal old e.from e.to) (λ e k. equal-kept new old e.from e.to k.0 k.1) (flat_map (join_of_table column) q.tables)
    (each-flat (IsEdgeKept new old) (join_of_table column) (table_joins-kept new old column first h) q.tables) in
    let conditions : first_of (condition_refusal new column) q.conditions ≡ first_of (condition_refusal old column) q.conditions =
    first_of-same (condition_refusal new column) (condition_refusal old column) (condition-kept new old column first h) q.conditions in
    let tests : first_of (λ (t : RawTest). test_refusal new first (resolved_agg column t.agg) t.literal) q.having ≡ first_of (λ (t : RawTest). test_refusal old first (resolved_agg column t.agg) t.literal) q.having =
    first_of-same (λ (t : RawTest). test_refusal new first (resolved_agg column t.agg) t.literal) (λ (t : RawTest). test_refusal old first (resolved_agg column t.agg) t.literal) (test-kept new old column first h) q.having in
    let keys : first_of (λ (k : RawKey). order_kind_refusal new first column k.what) q.order ≡ first_of (λ (k : RawKey). order_kind_refusal old first column k.what) q.order =
    first_of-same (λ (k : RawKey). order_kind_refusal new first column k.what) (λ (k : RawKey). order_kind_refusal old first column k.what) (λ k. order-kept new old column first h k.what) q.order in
    five-same items ons conditions tests keys
  where
    five-same : {o o' p p' r r' s s' t t' : Option Refusal} → o ≡ o' → p ≡ p' → r ≡ r' → s ≡ s' → t ≡ t' → first_some (o ∷ p ∷ r ∷ s ∷ t ∷ []) ≡ first_some (o' ∷ p' ∷ r' ∷ s' ∷ t' ∷ [])
    five-same a b c d e = rw (a, b, c, d, e) refl

-- ---- the tree

abbrev key_part : ColPart → TableDef → Bool
key_part part d = is_key_column (d ∷ []) (record { table = 0; part = part })

key-kept : (new old : List TableDef) (c : ColRef) → IsKept new old c.table → is_key_column new c ≡ is_key_column old c
key-kept new old c h = ap (key_part c.part) h

leads-kept : (new old : List TableDef) (tree : Tree) (n : ℕ) (e : Edge) → IsKept new old e.to.table → leads_to new tree n e ≡ leads_to old tree n e
leads-kept new old tree n e h = ap (λ (b : Bool). has_number tree.tables e.from.table && ((e.to.table == n) && b)) (key-kept new old e.to h)

directed-kept : (new old : List TableDef) (tree : Tree) (n : ℕ) (e : Edge) → IsEdgeKept new old e → directed new tree n e ≡ directed old tree n e
directed-kept new old tree n e h =
    ap₂ (λ (b c : Bool). cond b (Some e) (where_true c (turned e))) (leads-kept new old tree n e h.1) (leads-kept new old tree n (turned e) h.0)

branch-kept : (new old : List TableDef) (joins : List Edge) → AllByRecursion (IsEdgeKept new old) joins → (tree : Tree) (n : ℕ) → branch_to new joins tree n ≡ branch_to old joins tree n
branch-kept new old joins h tree n =
    ap (λ (o : Option Edge). cond (has_number tree.tables n) None o) (first_of-each (IsEdgeKept new old) (directed new tree n) (directed old tree n) (directed-kept new old tree n) joins h)

next-kept : (new old : List TableDef) (joins : List Edge) → AllByRecursion (IsEdgeKept new old) joins → (from : List ℕ) (tree : Tree) → next_branch new joins from tree ≡ next_branch old joins from tree
next-kept new old joins h from tree = first_of-same (branch_to new joins tree) (branch_to old joins tree) (branch-kept new old joins h tree) from

grow-kept : (n : ℕ) (new old : List TableDef) (joins : List Edge) → AllByRecursion (IsEdgeKept new old) joins → (from : List ℕ) (tree : Tree) → grow n new joins from tree ≡ grow n old joins from tree
grow-kept zero new old joins h from tree = refl
grow-kept (suc n) new old joins h from tree =
    ap (λ (o : Option Edge). grow n new joins from (with_branch tree o)) (next-kept new old joins h from tree) ∙ grow-kept n new old joins h from (with_branch tree (next_branch old joins from tree))

spanning-kept : (new old : List TableDef) (joins : List Edge) → AllByRecursion (IsEdgeKept new old) joins → (from : List ℕ) (root : ℕ) → spanning new joins from root ≡ spanning old joins from root
spanning-kept new old joins h from root =
    ap (λ (tree : Tree). where_true (length tree.tables == length from) tree) (grow-kept (length from) new old joins h from (record { tables = root ∷ []; edges = [] }))

star-kept : (new old : List TableDef) (joins : List Edge) → AllByRecursion (IsEdgeKept new old) joins → (from : List ℕ) → star_of new joins from ≡ star_of old joins from
star-kept new old joins h from =
    ap (λ (o : Option Tree). cond (is_repeated_number from || not (length joins + 1 == length from)) None o) (first_of-same (spanning new joins from) (spanning old joins from) (spanning-kept new old joins h from) from)

-- ---- the star form

-- the star form by the tree
abbrev formed_by : RawQuery → List Source → Option Tree → Result StarQuery Refusal
formed_by q sources o =
    let column : (ColName → ColRef) = column_named sources in
    let items = map (λ i. resolved_item column i.what) q.items in
    or_refuse o NotStar >>= (λ tree. unless (where_true (not (grouping_holds q column items (map column q.groups))) NotGrouped) (star_query q column tree))

form-kept : (new old : List TableDef) (q : RawQuery) (sources : List Source) (first : ℕ) → AreKept new old (column_named sources) first → star_form new q sources ≡ star_form old q sources
form-kept new old q sources first h =
    ap (formed_by q sources) (star-kept new old (joins_of (column_named sources) q) (joins-kept new old (column_named sources) first h q) (map (λ s. s.table) sources))

-- no table of FROM, no star
no-star : (defs : List TableDef) (joins : List Edge) → star_of defs joins [] ≡ None
no-star defs joins = let none : (length joins + 1 == 0) ≡ false = grind (arith, nat_tests) in rw (none) refl

some-within : (defs : List TableDef) (q : RawQuery) (r : StarQuery) (sources : List Source) → AllByRecursion (IsWithin defs) sources → star_form defs q sources ≡ Ok r → first_table sources < length defs
some-within defs q r [] all h = absurd (refused (ap (formed_by q []) (sym (no-star defs (joins_of (column_named []) q))) ∙ h))
  where
    refused : Err NotStar ≡ Ok r → ⊥
    refused e = cc
some-within defs q r (s ∷ ss) all h = all.0

-- ---- the whole

-- the star form by the tables of FROM
abbrev resolved_by : List TableDef → RawQuery → Option Refusal → List Source → Result StarQuery Refusal
resolved_by defs q o sources =
    unless_then (first_some (o ∷ names_refusal sources q ∷ kinds_refusal defs (first_table sources) (column_named sources) q ∷ [])) (star_form defs q sources)

first-none : {A : Type 0} (o : Option A) (os : List (Option A)) → first_some (o ∷ os) ≡ None → o ≡ None
first-none None os h = refl
first-none (Some x) os h = cc

kept : (defs more : List TableDef) (sources : List Source) → AllByRecursion (IsWithin defs) sources → first_table sources < length defs → AreKept (defs ++ more) defs (column_named sources) (first_table sources)
kept defs more sources all some =
    record {
      columns = λ c. def-later defs more (column_named sources c).table (columns-among defs sources all (omega (arith, some)) c);
      at_first = def-later defs more (first_table sources) some;
    }

pub later-tables : (defs more : List TableDef) (a : RawQuery) (q : StarQuery) → resolve defs a ≡ Ok q → resolve (defs ++ more) a ≡ Ok q
later-tables defs more a q h =
    let sources : List Source = sources_of defs a in
    let refusals : Option Refusal = first_some (table_refusal defs a ∷ names_refusal sources a ∷ kinds_refusal defs (first_table sources) (column_named sources) a ∷ []) in
    let none : table_refusal defs a ≡ None = first-none (table_refusal defs a) (names_refusal sources a ∷ kinds_refusal defs (first_table sources) (column_named sources) a ∷ []) (no-refusal refusals (star_form defs a sources) q h) in
    let there = are-there defs more a.tables none in
    let some : first_table sources < length defs = some-within defs a q sources there.within (after-refusals refusals (star_form defs a sources) q h) in
    let same = kept defs more sources there.within some in
    let tables : resolved_by (defs ++ more) a (table_refusal (defs ++ more) a) (sources_of (defs ++ more) a) ≡ resolved_by (defs ++ more) a (table_refusal defs a) sources =
    ap₂ (λ (o : Option Refusal) (ss : List Source). resolved_by (defs ++ more) a o ss) (there.none ∙ sym none) there.sources in
    let rest : resolved_by (defs ++ more) a (table_refusal defs a) sources ≡ resolved_by defs a (table_refusal defs a) sources =
    ap₂ (λ (o : Option Refusal) (form : Result StarQuery Refusal). unless_then (first_some (table_refusal defs a ∷ names_refusal sources a ∷ o ∷ [])) form)
    (kinds-kept (defs ++ more) defs (column_named sources) (first_table sources) same a) (form-kept (defs ++ more) defs a sources (first_table sources) same) in
    tables ∙ rest ∙ h
