-- A query resolves the same whether rows may move between the partitions of its tables or not, which ALTER TABLE switches.
use Rattle.std.proofs.Common.{◌≡◌, ◌∙◌, ap, ap₂, refl, ℕ, zero, suc, ◌+◌, Bool, true, false, not, cond, codes, List, [], ◌∷◌, length, map, Option, None, Some, nat_lt, ◌==◌, ◌&&◌, ◌||◌}
use Rattle.std.specs.List.{cons_option, find, flat_map, list_any, position_or_len}
use Rattle.std.specs.Prelude.{Result, filter_map, option_map, unwrap_or}
use Rattle.std.proofs.lemmas.List.{length-map}
use Rattle.wh_base.specs.Columns.{agg_columns}
use Rattle.wh_base.specs.Lists.{first_of, first_some, has_number, head, option_case, or_refuse, same_text, unless, unless_then, where_true, ◌>>=◌}
use Rattle.wh_base.specs.Tables.{def_at, table_number}
use Rattle.wh_base.specs.declared.columns.Agg.{Agg}
use Rattle.wh_base.specs.declared.columns.Agg.TheVariants.{Avg, Count, CountAll, Max, Min, Sum}
use Rattle.wh_base.specs.declared.columns.ColPart.{ColPart}
use Rattle.wh_base.specs.declared.columns.ColPart.TheVariants.{Col, Mark, RowId}
use Rattle.wh_base.specs.declared.columns.ColRef.{ColRef}
use Rattle.wh_base.specs.declared.columns.Expr.{Expr}
use Rattle.wh_base.specs.declared.columns.Expr.TheVariants as expr
use Rattle.wh_base.specs.declared.queries.ColName.{ColName}
use Rattle.wh_base.specs.declared.queries.Edge.{Edge}
use Rattle.wh_base.specs.declared.queries.NamePart.{NamePart}
use Rattle.wh_base.specs.declared.queries.NamePart.TheVariants.{MarkName, Plain, RowIdName}
use Rattle.wh_base.specs.declared.queries.RawCondition.{RawCondition}
use Rattle.wh_base.specs.declared.queries.RawCondition.TheVariants as raw
use Rattle.wh_base.specs.declared.queries.RawItem.{RawItem}
use Rattle.wh_base.specs.declared.queries.RawKey.{RawKey}
use Rattle.wh_base.specs.declared.queries.RawOrder.{RawOrder}
use Rattle.wh_base.specs.declared.queries.RawOrder.TheVariants as order
use Rattle.wh_base.specs.declared.queries.RawQuery.{RawQuery}
use Rattle.wh_base.specs.declared.queries.RawTable.{RawTable}
use Rattle.wh_base.specs.declared.queries.RawTest.{RawTest}
use Rattle.wh_base.specs.declared.queries.RawWhat.{RawWhat}
use Rattle.wh_base.specs.declared.queries.RawWhat.TheVariants as what
use Rattle.wh_base.specs.declared.queries.StarQuery.{StarQuery}
use Rattle.wh_base.specs.declared.replies.Refusal.{Refusal}
use Rattle.wh_base.specs.declared.replies.Refusal.TheVariants.{NoSuchColumn, NoSuchObject, NotGrouped, NotStar, ValueDoesNotFit}
use Rattle.wh_base.specs.declared.tables.TableDef.{TableDef}
use Rattle.wh_base.specs.declared.values.Literal.{Literal}
use Rattle.wh_base.specs.declared.values.Literal.TheVariants.{Number}
use Rattle.def_resolve.specs.Kinds.{IsNumber, Sort, agg_refusal, agg_sort, agrees, column_compare_refusal, column_sort, compare_refusal, condition_refusal, equal_refusal, expr_sort, is_plain, is_summed, is_too_long, literal_sort, misfit, misfit_literal, part_sort, printed_part, product_refusal, sum_refusal, summed_refusal, test_refusal}
use Rattle.def_resolve.specs.Names.{Source, agg_names, called_by, column_in, column_named, name_refusal, name_text, names_refusal, no_column, order_refusal, query_names, source_of, sources_of, table_refusal, the_only}
use Rattle.def_resolve.specs.Resolve.{first_table, grouping_holds, join_of_table, joins_of, kinds_refusal, order_kind_refusal, resolve, resolved_agg, resolved_item, star_form, star_query, what_refusal}
use Rattle.def_resolve.specs.Star.{Tree, branch_to, directed, grow, is_key_column, is_repeated_number, leads_to, next_branch, spanning, star_of, turned, with_branch}
use Rattle.law_trace.proofs.Defining.{def_still}
use Rattle.law_trace.specs.Reached.{still}

map-same : {A B : Type 0} (f g : A → B) → ((x : A) → f x ≡ g x) → (xs : List A) → map f xs ≡ map g xs
map-same f g h [] = refl
map-same f g h (x ∷ xs) = λ i. h x i ∷ map-same f g h xs i

first-same : {A B : Type 0} (f g : A → Option B) → ((x : A) → f x ≡ g x) → (xs : List A) → first_of f xs ≡ first_of g xs
first-same {A} {B} f g h xs = ap (λ (os : List (Option B)). first_some os) (map-same f g h xs)

-- ---- a definition without its row movement

sort-by : (d : TableDef) (p : ColPart) → part_sort (still d) p ≡ part_sort d p
sort-by d (Col n) = refl
sort-by d RowId = refl
sort-by d Mark = refl

printed-by : (d : TableDef) (p : ColPart) → printed_part (still d) p ≡ printed_part d p
printed-by d (Col n) = refl
printed-by d RowId = refl
printed-by d Mark = refl

abbrev keyed_by : ColPart → TableDef → Bool
keyed_by part d = is_key_column (d ∷ []) (record { table = 0; part = part })

key-by : (d : TableDef) (p : ColPart) → keyed_by p (still d) ≡ keyed_by p d
key-by d (Col n) = refl
key-by d RowId = refl
key-by d Mark = refl

-- a table of FROM whose definition is without it
abbrev stilled : Source → Source
stilled s = record s { def = still s.def }

module _ (defs : List TableDef) where
  abbrev new : List TableDef
  new = map still defs

  sort-same : (c : ColRef) → column_sort new c ≡ column_sort defs c
  sort-same c = ap (λ (d : TableDef). part_sort d c.part) (def_still defs c.table) ∙ sort-by (def_at defs c.table) c.part

  misfit-same : (c : ColRef) → misfit new c ≡ misfit defs c
  misfit-same c =
      ap (λ (d : TableDef). ValueDoesNotFit d.name (printed_part d c.part)) (def_still defs c.table)
      ∙ ap (λ (text : List ℕ). ValueDoesNotFit (def_at defs c.table).name text) (printed-by (def_at defs c.table) c.part)

  literal-same : (n : ℕ) → misfit_literal new n ≡ misfit_literal defs n
  literal-same n = ap (λ (d : TableDef). ValueDoesNotFit d.name (codes "-")) (def_still defs n)

  key-same : (c : ColRef) → is_key_column new c ≡ is_key_column defs c
  key-same c = ap (keyed_by c.part) (def_still defs c.table) ∙ key-by (def_at defs c.table) c.part

  summed-same : (c : ColRef) → is_summed new c ≡ is_summed defs c
  summed-same c = ap (λ (s : Sort). is_plain c.part && agrees s IsNumber) (sort-same c)

  -- ---- kinds

  abbrev compared : Sort → List Literal → Refusal → Refusal → Option Refusal
  compared sort ls kind long = first_some (where_true (list_any (λ l. not (agrees sort (literal_sort l))) ls) kind ∷ where_true (list_any is_too_long ls) long ∷ [])

  compare-same : (first : ℕ) (o : Option ColRef) (sort : Sort) (ls : List Literal) → compare_refusal new first o sort ls ≡ compare_refusal defs first o sort ls
  compare-same first None sort ls = ap (λ (r : Refusal). compared sort ls r r) (literal-same first)
  compare-same first (Some c) sort ls =
      ap (λ (r : Refusal). compared sort ls r (misfit_literal new c.table)) (misfit-same c) ∙ ap (λ (r : Refusal). compared sort ls (misfit defs c) r) (literal-same c.table)

  column-same : (c : ColRef) (ls : List Literal) → column_compare_refusal new c ls ≡ column_compare_refusal defs c ls
  column-same c ls = compare-same c.table (Some c) (column_sort new c) ls ∙ ap (λ (s : Sort). compare_refusal defs c.table (Some c) s ls) (sort-same c)

  equal-same : (a b : ColRef) → equal_refusal new a b ≡ equal_refusal defs a b
  equal-same a b =
      ap₂ (λ (s t : Sort). where_true (not (agrees s t)) (misfit new a)) (sort-same a) (sort-same b)
      ∙ ap (λ (r : Refusal). where_true (not (agrees (column_sort defs a) (column_sort defs b))) r) (misfit-same a)

  condition-same : (column : ColName → ColRef) (c : RawCondition) → condition_refusal new column c ≡ condition_refusal defs column c
  condition-same column (raw.Compare c op l) = column-same (column c) (l ∷ [])
  condition-same column (raw.Between c l m) = column-same (column c) (l ∷ m ∷ [])
  condition-same column (raw.Equal a b) = equal-same (column a) (column b)
  condition-same column (raw.OneOf c ls) = column-same (column c) ls
  condition-same column (raw.IsNull c) = refl
  condition-same column (raw.NotNull c) = refl

  sums-same : (cs : List ColRef) → summed_refusal new cs ≡ summed_refusal defs cs
  sums-same [] = refl
  sums-same (c ∷ cs) = by (is_summed new c) (is_summed defs c) (summed-same c) (sums-same cs)
    where
      by : (a b : Bool) → a ≡ b → summed_refusal new cs ≡ summed_refusal defs cs
          → option_map (misfit new) (cond (not a) (Some c) (find (λ x. not (is_summed new x)) cs)) ≡ option_map (misfit defs) (cond (not b) (Some c) (find (λ x. not (is_summed defs x)) cs))
      by true true e rest = rest
      by false false e rest = ap (λ (r : Refusal). Some r) (misfit-same c)
      by true false e rest = absurd (cc)
      by false true e rest = absurd (cc)

  product-same : (first : ℕ) (e : Expr) → product_refusal new first e ≡ product_refusal defs first e
  product-same first (expr.Col c) = refl
  product-same first (expr.Product a b) = sums-same (a ∷ b ∷ [])
  product-same first (expr.Lit n) = ap (λ (r : Refusal). where_true (is_too_long (Number n)) r) (literal-same first)

  sum-same : (first : ℕ) (e : Expr) → sum_refusal new first e ≡ sum_refusal defs first e
  sum-same first (expr.Col c) = sums-same (c ∷ [])
  sum-same first (expr.Product a b) = product-same first (expr.Product a b)
  sum-same first (expr.Lit n) = product-same first (expr.Lit n)

  agg-same : (first : ℕ) (a : Agg) → agg_refusal new first a ≡ agg_refusal defs first a
  agg-same first CountAll = refl
  agg-same first (Count e) = product-same first e
  agg-same first (Sum e) = sum-same first e
  agg-same first (Avg e) = sum-same first e
  agg-same first (Min e) = product-same first e
  agg-same first (Max e) = product-same first e

  expr_sort-same : (e : Expr) → expr_sort new e ≡ expr_sort defs e
  expr_sort-same (expr.Col c) = sort-same c
  expr_sort-same (expr.Product a b) = refl
  expr_sort-same (expr.Lit n) = refl

  agg_sort-same : (a : Agg) → agg_sort new a ≡ agg_sort defs a
  agg_sort-same CountAll = refl
  agg_sort-same (Count e) = refl
  agg_sort-same (Sum e) = refl
  agg_sort-same (Avg e) = refl
  agg_sort-same (Min e) = expr_sort-same e
  agg_sort-same (Max e) = expr_sort-same e

  test-same : (first : ℕ) (a : Agg) (l : Literal) → test_refusal new first a l ≡ test_refusal defs first a l
  test-same first a l =
      ap₂ (λ (o u : Option Refusal). first_some (o ∷ u ∷ [])) (agg-same first a)
      (compare-same first (head (agg_columns a)) (agg_sort new a) (l ∷ []) ∙ ap (λ (s : Sort). compare_refusal defs first (head (agg_columns a)) s (l ∷ [])) (agg_sort-same a))

  what-same : (first : ℕ) (column : ColName → ColRef) (w : RawWhat) → what_refusal new first column w ≡ what_refusal defs first column w
  what-same first column (what.Plain c) = refl
  what-same first column (what.Computed a) = agg-same first (resolved_agg column a)

  order-same : (first : ℕ) (column : ColName → ColRef) (w : RawOrder) → order_kind_refusal new first column w ≡ order_kind_refusal defs first column w
  order-same first column (order.Position n) = refl
  order-same first column (order.Column c) = refl
  order-same first column (order.Computed a) = agg-same first (resolved_agg column a)

  five-same : {o o' p p' r r' s s' t t' : Option Refusal} → o ≡ o' → p ≡ p' → r ≡ r' → s ≡ s' → t ≡ t' → first_some (o ∷ p ∷ r ∷ s ∷ t ∷ []) ≡ first_some (o' ∷ p' ∷ r' ∷ s' ∷ t' ∷ [])
  five-same a b c d e = rw (a, b, c, d, e) refl

  kinds-same : (column : ColName → ColRef) (first : ℕ) (q : RawQuery) → kinds_refusal new first column q ≡ kinds_refusal defs first column q
  kinds-same column first q =
      five-same (first-same (λ (i : RawItem). what_refusal new first column i.what) (λ i. what_refusal defs first column i.what) (λ i. what-same first column i.what) q.items)
      (first-same (λ (e : Edge). equal_refusal new e.from e.to) (λ e. equal_refusal defs e.from e.to) (λ e. equal-same e.from e.to) (flat_map (join_of_table column) q.tables))
      (first-same (condition_refusal new column) (condition_refusal defs column) (condition-same column) q.conditions)
      (first-same (λ (t : RawTest). test_refusal new first (resolved_agg column t.agg) t.literal) (λ t. test_refusal defs first (resolved_agg column t.agg) t.literal)
      (λ t. test-same first (resolved_agg column t.agg) t.literal) q.having)
      (first-same (λ (k : RawKey). order_kind_refusal new first column k.what) (λ k. order_kind_refusal defs first column k.what) (λ k. order-same first column k.what) q.order)

  -- ---- the tree

  leads-same : (tree : Tree) (n : ℕ) (e : Edge) → leads_to new tree n e ≡ leads_to defs tree n e
  leads-same tree n e = ap (λ (b : Bool). has_number tree.tables e.from.table && ((e.to.table == n) && b)) (key-same e.to)

  directed-same : (tree : Tree) (n : ℕ) (e : Edge) → directed new tree n e ≡ directed defs tree n e
  directed-same tree n e = ap₂ (λ (b c : Bool). cond b (Some e) (where_true c (turned e))) (leads-same tree n e) (leads-same tree n (turned e))

  branch-same : (joins : List Edge) (tree : Tree) (n : ℕ) → branch_to new joins tree n ≡ branch_to defs joins tree n
  branch-same joins tree n = ap (λ (o : Option Edge). cond (has_number tree.tables n) None o) (first-same (directed new tree n) (directed defs tree n) (directed-same tree n) joins)

  next-same : (joins : List Edge) (from : List ℕ) (tree : Tree) → next_branch new joins from tree ≡ next_branch defs joins from tree
  next-same joins from tree = first-same (branch_to new joins tree) (branch_to defs joins tree) (branch-same joins tree) from

  grow-same : (n : ℕ) (joins : List Edge) (from : List ℕ) (tree : Tree) → grow n new joins from tree ≡ grow n defs joins from tree
  grow-same zero joins from tree = refl
  grow-same (suc n) joins from tree =
      ap (λ (o : Option Edge). grow n new joins from (with_branch tree o)) (next-same joins from tree) ∙ grow-same n joins from (with_branch tree (next_branch defs joins from tree))

  spanning-same : (joins : List Edge) (from : List ℕ) (root : ℕ) → spanning new joins from root ≡ spanning defs joins from root
  spanning-same joins from root = ap (λ (tree : Tree). where_true (length tree.tables == length from) tree) (grow-same (length from) joins from (record { tables = root ∷ []; edges = [] }))

  star-same : (joins : List Edge) (from : List ℕ) → star_of new joins from ≡ star_of defs joins from
  star-same joins from =
      ap (λ (o : Option Tree). cond (is_repeated_number from || not (length joins + 1 == length from)) None o) (first-same (spanning new joins from) (spanning defs joins from) (spanning-same joins from) from)

  -- ---- the tables of FROM

  place-same : (p : TableDef → Bool) → ((d : TableDef) → p (still d) ≡ p d) → (ds : List TableDef) → position_or_len p (map still ds) ≡ position_or_len p ds
  place-same p h [] = refl
  place-same p h (d ∷ ds) = ap₂ (λ (b : Bool) (n : ℕ). cond (not b) (1 + n) 0) (h d) (place-same p h ds)

  number-same : (name : List ℕ) → table_number new name ≡ table_number defs name
  number-same name =
      ap₂ (λ (n m : ℕ). cond (nat_lt n m) (Some n) None) (place-same (λ d. same_text d.name name) (λ d. refl) defs) (length-map defs still)

  abbrev numbered : List TableDef → RawTable → ℕ → Source
  numbered ds t n = record { label = unwrap_or t.alias t.table; table = n; def = def_at ds n }

  source-same : (t : RawTable) → source_of new t ≡ option_map stilled (source_of defs t)
  source-same t = ap (λ (o : Option ℕ). option_map (numbered new t) o) (number-same t.table) ∙ by (table_number defs t.table)
    where
      by : (o : Option ℕ) → option_map (numbered new t) o ≡ option_map stilled (option_map (numbered defs t) o)
      by None = refl
      by (Some n) = ap (λ (d : TableDef). Some (record { label = unwrap_or t.alias t.table; table = n; def = d })) (def_still defs n)

  cons-stilled : (o : Option Source) (ss : List Source) → cons_option (option_map stilled o) (map stilled ss) ≡ map stilled (cons_option o ss)
  cons-stilled None ss = refl
  cons-stilled (Some s) ss = refl

  sources-same : (ts : List RawTable) → filter_map (source_of new) ts ≡ map stilled (filter_map (source_of defs) ts)
  sources-same [] = refl
  sources-same (t ∷ ts) =
      ap₂ (λ (o : Option Source) (ss : List Source). cons_option o ss) (source-same t) (sources-same ts) ∙ cons-stilled (source_of defs t) (filter_map (source_of defs) ts)

  refusals-same : (q : RawQuery) → table_refusal new q ≡ table_refusal defs q
  refusals-same q =
      first-same (λ (t : RawTable). option_case (table_number new t.table) (Some (NoSuchObject t.table)) (λ _. None)) (λ t. option_case (table_number defs t.table) (Some (NoSuchObject t.table)) (λ _. None))
      (λ t. ap (λ (o : Option ℕ). option_case o (Some (NoSuchObject t.table)) (λ _. None)) (number-same t.table)) q.tables

-- ---- names

in-by : (q : Option (List ℕ)) (p : NamePart) (s : Source) → column_in (record { qualifier = q; part = p }) (stilled s) ≡ column_in (record { qualifier = q; part = p }) s
in-by None (Plain n) s = refl
in-by None RowIdName s = refl
in-by None MarkName s = refl
in-by (Some q) (Plain n) s = refl
in-by (Some q) RowIdName s = refl
in-by (Some q) MarkName s = refl

columns-same : (c : ColName) (ss : List Source) → filter_map (column_in c) (map stilled ss) ≡ filter_map (column_in c) ss
columns-same c [] = refl
columns-same c (s ∷ ss) = ap₂ (λ (o : Option ColRef) (cs : List ColRef). cons_option o cs) (in-by c.qualifier c.part s) (columns-same c ss)

named-same : (ss : List Source) (c : ColName) → column_named (map stilled ss) c ≡ column_named ss c
named-same ss c = ap (λ (cs : List ColRef). unwrap_or (the_only cs) no_column) (columns-same c ss)

all-named : (ss : List Source) → column_named (map stilled ss) ≡ column_named ss
all-named ss = λ i c. named-same ss c i

name-same : (ss : List Source) (c : ColName) → name_refusal (map stilled ss) c ≡ name_refusal ss c
name-same ss c = ap (λ (cs : List ColRef). option_case (the_only cs) (Some (NoSuchColumn (name_text c))) (λ _. None)) (columns-same c ss)

key-names : (ss : List Source) (q : RawQuery) (w : RawOrder) → order_refusal (map stilled ss) q w ≡ order_refusal ss q w
key-names ss q (order.Position n) = refl
key-names ss q (order.Column c) = ap (λ (o : Option Refusal). option_case (called_by q c) o (λ _. None)) (name-same ss c)
key-names ss q (order.Computed a) = first-same (name_refusal (map stilled ss)) (name_refusal ss) (name-same ss) (agg_names a)

names-same : (ss : List Source) (q : RawQuery) → names_refusal (map stilled ss) q ≡ names_refusal ss q
names-same ss q =
    ap₂ (λ (o u : Option Refusal). first_some (o ∷ u ∷ [])) (first-same (name_refusal (map stilled ss)) (name_refusal ss) (name-same ss) (query_names q))
    (first-same (λ (k : RawKey). order_refusal (map stilled ss) q k.what) (λ k. order_refusal ss q k.what) (λ k. key-names ss q k.what) q.order)

tables-same : (ss : List Source) → map (λ (s : Source). s.table) (map stilled ss) ≡ map (λ s. s.table) ss
tables-same [] = refl
tables-same (s ∷ ss) = ap (λ ns. s.table ∷ ns) (tables-same ss)

first-table : (ss : List Source) → first_table (map stilled ss) ≡ first_table ss
first-table [] = refl
first-table (s ∷ ss) = refl

-- ---- the whole

-- the star form by the tree
abbrev formed : RawQuery → (ColName → ColRef) → Option Tree → Result StarQuery Refusal
formed q column o =
    or_refuse o NotStar
    >>= (λ tree. unless (where_true (not (grouping_holds q column (map (λ i. resolved_item column i.what) q.items) (map column q.groups))) NotGrouped) (star_query q column tree))

form-same : (defs : List TableDef) (q : RawQuery) (ss : List Source) → star_form (map still defs) q (map stilled ss) ≡ star_form defs q ss
form-same defs q ss =
    ap₂ (λ (column : ColName → ColRef) (tables : List ℕ). formed q column (star_of (map still defs) (joins_of column q) tables)) (all-named ss) (tables-same ss)
    ∙ ap (formed q (column_named ss)) (star-same defs (joins_of (column_named ss) q) (map (λ s. s.table) ss))

-- the star form by the tables of FROM
abbrev resolved_by : List TableDef → RawQuery → Option Refusal → List Source → Result StarQuery Refusal
resolved_by defs q o ss = unless_then (first_some (o ∷ names_refusal ss q ∷ kinds_refusal defs (first_table ss) (column_named ss) q ∷ [])) (star_form defs q ss)

by-sources : (defs : List TableDef) (q : RawQuery) (o : Option Refusal) (ss : List Source) → resolved_by (map still defs) q o (map stilled ss) ≡ resolved_by defs q o ss
by-sources defs q o ss =
    let kinds : kinds_refusal (map still defs) (first_table (map stilled ss)) (column_named (map stilled ss)) q ≡ kinds_refusal defs (first_table ss) (column_named ss) q =
    ap₂ (λ (first : ℕ) (column : ColName → ColRef). kinds_refusal (map still defs) first column q) (first-table ss) (all-named ss) ∙ kinds-same defs (column_named ss) (first_table ss) q in
    λ i. unless_then (first_some (o ∷ names-same ss q i ∷ kinds i ∷ [])) (form-same defs q ss i)

pub resolve-still : (defs : List TableDef) (q : RawQuery) → resolve (map still defs) q ≡ resolve defs q
resolve-still defs q =
    ap₂ (λ (o : Option Refusal) (ss : List Source). resolved_by (map still defs) q o ss) (refusals-same defs q) (sources-same defs q.tables)
    ∙ by-sources defs q (table_refusal defs q) (sources_of defs q)
