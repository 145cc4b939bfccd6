-- What a query resolves to is a star over tables that are there, with columns that they have.
use Rattle.std.proofs.Common.{◌≡◌, ◌∙◌, sym, ap, refl, subst, ℕ, zero, suc, ◌+◌, ◌<◌, Bool, true, false, cond, not, List, [], ◌∷◌, ◌++◌, length, map, Option, None, Some, ◌==◌, ◌&&◌, ◌||◌, true≢false}
use Rattle.std.proofs.lemmas.Option.{same_Some}
use Rattle.std.specs.List.{cons_option, filter_map, flat_map}
use Rattle.std.specs.Option.{ForSome}
use Rattle.std.specs.Prelude.{option_map, unwrap_or}
use Rattle.std.proofs.lemmas.Bool.{not-true, and_parts, eq-eqb, eqb-true}
use Rattle.std.proofs.lemmas.List.{map-append}
use Rattle.wh_base.specs.Columns.{agg_columns, expr_columns}
use Rattle.wh_base.specs.Lists.{first_of, first_some, has_number, option_case, same_text, where_true}
use Rattle.wh_base.specs.Tables.{column_number, def_at, table_number}
use Rattle.wh_base.specs.declared.columns.ColPart.{ColPart}
use Rattle.wh_base.specs.declared.columns.ColPart.TheVariants.{Col, Mark, RowId}
use Rattle.wh_base.specs.declared.columns.ColRef.{ColRef}
use Rattle.wh_base.specs.declared.queries.ColName.{ColName}
use Rattle.wh_base.specs.declared.queries.Edge.{Edge}
use Rattle.wh_base.specs.declared.queries.NamePart.{NamePart}
use Rattle.wh_base.specs.declared.queries.NamePart.TheVariants.{MarkName, Plain, RowIdName}
use Rattle.wh_base.specs.declared.queries.RawAgg.{RawAgg}
use Rattle.wh_base.specs.declared.queries.RawAgg.TheVariants.{AvgOf, CountOf, CountRows, MaxOf, MinOf, SumOf}
use Rattle.wh_base.specs.declared.queries.RawCondition.{RawCondition}
use Rattle.wh_base.specs.declared.queries.RawCondition.TheVariants as raw
use Rattle.wh_base.specs.declared.queries.RawExpr.{RawExpr}
use Rattle.wh_base.specs.declared.queries.RawExpr.TheVariants.{Column, Constant, Times}
use Rattle.wh_base.specs.declared.queries.RawItem.{RawItem}
use Rattle.wh_base.specs.declared.queries.RawJoin.{RawJoin}
use Rattle.wh_base.specs.declared.queries.RawQuery.{RawQuery}
use Rattle.wh_base.specs.declared.queries.RawTable.{RawTable}
use Rattle.wh_base.specs.declared.queries.RawTest.{RawTest}
use Rattle.wh_base.specs.declared.queries.RawWhat.{RawWhat}
use Rattle.wh_base.specs.declared.queries.RawWhat.TheVariants as what
use Rattle.wh_base.specs.declared.queries.StarQuery.{StarQuery}
use Rattle.wh_base.specs.declared.tables.TableDef.{TableDef}
use Rattle.def_resolve.specs.Names.{Source, column_in, column_named, is_qualified_by, no_column, part_named, source_of, sources_of, the_only}
use Rattle.def_resolve.specs.Resolve.{join_of_condition, join_of_table, joins_of, resolved_agg, resolved_condition, resolved_expr, resolved_item, resolved_test, star_query}
use Rattle.def_resolve.specs.Star.{is_repeated_number, Tree, branch_to, directed, grow, is_key_column, leads_outwards, leads_to, next_branch, spanning, star_of, tree_from, turned, with_branch}
use Rattle.def_restrictions.specs.Definition.{condition_column, item_columns, used_columns}
use Rattle.law_lists.proofs.Each.{Each-given}
use Rattle.law_refresh.specs.Planned.{Distinct, IsPlace}
use Rattle.law_trace.proofs.Listed.{each_every, Each, each_append, each_flat, each_made, each_weaker}
use Rattle.law_trace.proofs.Stepping.{within_places}

-- ---- the columns that names stand for

-- the column is one of a table that is there
abbrev pub IsColumn : List TableDef → ColRef → Type 0
IsColumn defs c = (c.table < length defs) × IsPlace (def_at defs c.table) c.part

-- the keys of partitions are columns
abbrev pub AreKeyed : List TableDef → Type 0
AreKeyed defs = (n : ℕ) → n < length defs → ForSome (def_at defs n).part_key (λ k. k < length (def_at defs n).columns)

abbrev pub IsSource : List TableDef → Source → Type 0
IsSource defs s = (s.table < length defs) × (s.def ≡ def_at defs s.table)

source_is : (defs : List TableDef) (t : RawTable) (s : Source) → source_of defs t ≡ Some s → IsSource defs s
source_is defs t s e = by (table_number defs t.table) refl e
  where
    by : (o : Option ℕ) → table_number defs t.table ≡ o → option_map (λ n. record { label = unwrap_or t.alias t.table; table = n; def = def_at defs n }) o ≡ Some s → IsSource defs s
    by None f e = cc
    by (Some n) f e = subst (IsSource defs) (same_Some (record { label = unwrap_or t.alias t.table; table = n; def = def_at defs n }) s e) (within_places (λ d. same_text d.name t.table) defs n f, refl)

pub sources_are : (defs : List TableDef) (q : RawQuery) → Each (IsSource defs) (sources_of defs q)
sources_are defs q = Each-given (IsSource defs) (source_of defs) (source_is defs) q.tables

place_is : (d : TableDef) → ForSome d.part_key (λ k. k < length d.columns) → (n : NamePart) (p : ColPart) → part_named d n ≡ Some p → IsPlace d p
place_is d keyed (Plain name) p e = by (column_number d name) refl e
  where
    by : (o : Option ℕ) → column_number d name ≡ o → option_map Col o ≡ Some p → IsPlace d p
    by None f e = cc
    by (Some n) f e = subst (IsPlace d) (same_Some (Col n) p e) (λ m g. subst (λ k. k < length d.columns) (same_Some n m g) (within_places (λ c. same_text c.name name) d.columns n f))
place_is d keyed RowIdName p e = subst (IsPlace d) (same_Some RowId p e) (λ m g. cc)
place_is d keyed MarkName p e = subst (IsPlace d) (same_Some Mark p e) keyed

column_is : (defs : List TableDef) → AreKeyed defs → (c : ColName) (s : Source) → IsSource defs s → (r : ColRef) → column_in c s ≡ Some r → IsColumn defs r
column_is defs keyed c s is r e = by (is_qualified_by c.qualifier s) (part_named s.def c.part) refl e
  where
    place : (p : ColPart) → part_named s.def c.part ≡ Some p → IsPlace (def_at defs s.table) p
    place p f =
        place_is (def_at defs s.table) (keyed s.table is.0) c.part p (ap (λ (d : TableDef). part_named d c.part) (sym is.1) ∙ f)

    by : (b : Bool) (o : Option ColPart) → part_named s.def c.part ≡ o → cond b (option_map (λ p. record { table = s.table; part = p }) o) None ≡ Some r → IsColumn defs r
    by false o f e = cc
    by true None f e = cc
    by true (Some p) f e = subst (IsColumn defs) (same_Some (record { table = s.table; part = p }) r e) (is.0, place p f)

all_columns : (defs : List TableDef) → AreKeyed defs → (c : ColName) (ss : List Source) → Each (IsSource defs) ss → Each (IsColumn defs) (filter_map (column_in c) ss)
all_columns defs keyed c [] h = tt
all_columns defs keyed c (s ∷ ss) h = by (column_in c s) refl (all_columns defs keyed c ss h.1)
  where
    by : (o : Option ColRef) → column_in c s ≡ o → Each (IsColumn defs) (filter_map (column_in c) ss) → Each (IsColumn defs) (cons_option o (filter_map (column_in c) ss))
    by None e more = more
    by (Some r) e more = (column_is defs keyed c s h.0 r e, more)

pub named_is : (defs : List TableDef) → AreKeyed defs → (ss : List Source) → Each (IsSource defs) ss → 0 < length defs → (c : ColName) → IsColumn defs (column_named ss c)
named_is defs keyed ss sources some c = by (filter_map (column_in c) ss) (all_columns defs keyed c ss sources)
  where
    by : (rs : List ColRef) → Each (IsColumn defs) rs → IsColumn defs (unwrap_or (the_only rs) no_column)
    by [] h = (some, λ m g. cc)
    by (r ∷ []) h = h.0
    by (r ∷ s ∷ rs) h = (some, λ m g. cc)

-- ---- the parts of a query

module _ (P : ColRef → Type 0) (column : ColName → ColRef) (all : (c : ColName) → P (column c)) where
  expr_all : (e : RawExpr) → Each P (expr_columns (resolved_expr column e))
  expr_all (Column c) = (all c, tt)
  expr_all (Times a b) = (all a, (all b, tt))
  expr_all (Constant n) = tt

  pub agg_all : (a : RawAgg) → Each P (agg_columns (resolved_agg column a))
  agg_all CountRows = tt
  agg_all (CountOf e) = expr_all e
  agg_all (SumOf e) = expr_all e
  agg_all (AvgOf e) = expr_all e
  agg_all (MinOf e) = expr_all e
  agg_all (MaxOf e) = expr_all e

  item_all : (w : RawWhat) → Each P (item_columns (resolved_item column w))
  item_all (what.Plain c) = (all c, tt)
  item_all (what.Computed a) = agg_all a

  items_all : (is : List RawItem) → Each P (flat_map item_columns (map (λ i. resolved_item column i.what) is))
  items_all [] = tt
  items_all (i ∷ is) = each_append P (item_columns (resolved_item column i.what)) (flat_map item_columns (map (λ i. resolved_item column i.what) is)) (item_all i.what) (items_all is)

  abbrev OfCondition : RawCondition → Type 0
  OfCondition c = Each P (map condition_column (resolved_condition column c))

  condition_all : (c : RawCondition) → OfCondition c
  condition_all (raw.Compare c op l) = (all c, tt)
  condition_all (raw.Between c l m) = (all c, (all c, tt))
  condition_all (raw.Equal a b) = tt
  condition_all (raw.OneOf c ls) = (all c, tt)
  condition_all (raw.IsNull c) = (all c, tt)
  condition_all (raw.NotNull c) = (all c, tt)

  conditions_all : (cs : List RawCondition) → Each P (map condition_column (flat_map (resolved_condition column) cs))
  conditions_all [] = tt
  conditions_all (c ∷ cs) =
      subst (Each P) (sym (map-append condition_column (resolved_condition column c) (flat_map (resolved_condition column) cs)))
      (each_append P (map condition_column (resolved_condition column c)) (map condition_column (flat_map (resolved_condition column) cs)) (condition_all c) (conditions_all cs))

  tests_all : (ts : List RawTest) → Each P (flat_map (λ t. agg_columns t.agg) (map (resolved_test column) ts))
  tests_all [] = tt
  tests_all (t ∷ ts) = each_append P (agg_columns (resolved_agg column t.agg)) (flat_map (λ t. agg_columns t.agg) (map (resolved_test column) ts)) (agg_all t.agg) (tests_all ts)

  -- both ends of a join
  abbrev pub Ends : Edge → Type 0
  Ends e = P e.from × P e.to

  table_joins : (t : RawTable) → Each Ends (join_of_table column t)
  table_joins t = by t.on
    where
      by : (o : Option RawJoin) → Each Ends (option_case o [] (λ j. record { from = column j.left; to = column j.right } ∷ []))
      by None = tt
      by (Some j) = ((all j.left, all j.right), tt)

  condition_joins : (c : RawCondition) → Each Ends (join_of_condition column c)
  condition_joins (raw.Equal a b) = ((all a, all b), tt)
  condition_joins (raw.Compare c op l) = tt
  condition_joins (raw.Between c l m) = tt
  condition_joins (raw.OneOf c ls) = tt
  condition_joins (raw.IsNull c) = tt
  condition_joins (raw.NotNull c) = tt

  pub joins_all : (q : RawQuery) → Each Ends (joins_of column q)
  joins_all q =
      each_append Ends (flat_map (join_of_table column) q.tables) (flat_map (join_of_condition column) q.conditions)
      (each_flat Ends (join_of_table column) table_joins q.tables) (each_flat Ends (join_of_condition column) condition_joins q.conditions)

  ends_all : (es : List Edge) → Each Ends es → Each P (flat_map (λ e. e.from ∷ e.to ∷ []) es)
  ends_all [] h = tt
  ends_all (e ∷ es) h = (h.0.0, (h.0.1, ends_all es h.1))

  pub used_all : (q : RawQuery) (tree : Tree) → Each Ends tree.edges → Each P (used_columns (star_query q column tree))
  used_all q tree ends =
      let s : StarQuery = star_query q column tree in
      let hs : List ColRef = flat_map (λ t. agg_columns t.agg) s.having in
      let es : List ColRef = flat_map (λ (e : Edge). e.from ∷ e.to ∷ []) s.edges in
      let cs : List ColRef = map condition_column s.conditions in
      each_append P (flat_map item_columns s.items) (cs ++ (es ++ (s.keys ++ hs))) (items_all q.items)
      (each_append P cs (es ++ (s.keys ++ hs)) (conditions_all q.conditions)
      (each_append P es (s.keys ++ hs) (ends_all tree.edges ends)
      (each_append P s.keys hs (each_made P column all q.groups) (tests_all q.having))))

-- ---- the tree

first_found : {A B : Type 0} (P : B → Type 0) (h : A → Option B) (xs : List A) → Each (λ x. (y : B) → h x ≡ Some y → P y) xs → (y : B) → first_of h xs ≡ Some y → P y
first_found P h [] each y e = cc
first_found {B = B} P h (x ∷ xs) each y e = by (h x) refl e (first_found P h xs each.1 y)
  where
    by : (o : Option B) → h x ≡ o → first_some (o ∷ map h xs) ≡ Some y → (first_of h xs ≡ Some y → P y) → P y
    by None f g more = more g
    by (Some z) f g more = each.0 y (f ∙ g)

module _ (defs : List TableDef) (joins : List Edge) (P : Edge → Type 0) (L : ℕ → Type 0) (turns : (e : Edge) → P e → P (turned e)) (low : (e : Edge) → P e → L e.to.table) (all : Each P joins) where
  directed_is : (tree : Tree) (n : ℕ) (j e : Edge) → P j → directed defs tree n j ≡ Some e → P e
  directed_is tree n j e h d = by (leads_to defs tree n j) (leads_to defs tree n (turned j)) d
    where
      by : (a b : Bool) → cond a (Some j) (where_true b (turned j)) ≡ Some e → P e
      by true b d = subst P (same_Some j e d) h
      by false true d = subst P (same_Some (turned j) e d) (turns j h)
      by false false d = cc

  branch_is : (tree : Tree) (n : ℕ) (e : Edge) → branch_to defs joins tree n ≡ Some e → P e
  branch_is tree n e d = by (has_number tree.tables n) d
    where
      by : (b : Bool) → cond b None (first_of (directed defs tree n) joins) ≡ Some e → P e
      by true d = cc
      by false d = first_found P (directed defs tree n) joins (each_weaker P (λ j. (k : Edge) → directed defs tree n j ≡ Some k → P k) (λ j h k d. directed_is tree n j k h d) joins all) e d

  next_is : (tree : Tree) (from : List ℕ) (e : Edge) → next_branch defs joins from tree ≡ Some e → P e
  next_is tree from e d = first_found P (branch_to defs joins tree) from (each_every (λ n. (k : Edge) → branch_to defs joins tree n ≡ Some k → P k) (λ n k d. branch_is tree n k d) from) e d

  abbrev Grown : Tree → Type 0
  Grown tree = Each P tree.edges × Each L tree.tables

  with_is : (tree : Tree) (o : Option Edge) → ((e : Edge) → o ≡ Some e → P e) → Grown tree → Grown (with_branch tree o)
  with_is tree None k h = h
  with_is tree (Some e) k h = (each_append P tree.edges (e ∷ []) h.0 (k e refl, tt), each_append L tree.tables (e.to.table ∷ []) h.1 (low e (k e refl), tt))

  grow_is : (n : ℕ) (from : List ℕ) (tree : Tree) → Grown tree → Grown (grow n defs joins from tree)
  grow_is zero from tree h = h
  grow_is (suc n) from tree h = grow_is n from (with_branch tree (next_branch defs joins from tree)) (with_is tree (next_branch defs joins from tree) (next_is tree from) h)

  spanning_is : (from : List ℕ) (m : ℕ) (tree : Tree) → L m → spanning defs joins from m ≡ Some tree → Grown tree
  spanning_is from m tree l d = by (length (tree_from defs joins from m).tables == length from) d
    where
      by : (b : Bool) → where_true b (tree_from defs joins from m) ≡ Some tree → Grown tree
      by true d = subst Grown (same_Some (tree_from defs joins from m) tree d) (grow_is (length from) from (record { tables = m ∷ []; edges = [] }) (tt, (l, tt)))
      by false d = cc

  pub star_is : (from : List ℕ) (tree : Tree) → Each L from → star_of defs joins from ≡ Some tree → Grown tree
  star_is from tree ls d = by (is_repeated_number from || not (length joins + 1 == length from)) d
    where
      by : (b : Bool) → cond b None (first_of (spanning defs joins from) from) ≡ Some tree → Grown tree
      by true d = cc
      by false d = first_found Grown (spanning defs joins from) from (each_weaker L (λ m. (t : Tree) → spanning defs joins from m ≡ Some t → Grown t) (λ m l t d. spanning_is from m t l d) from ls) tree d

fewer : (xs ys : List ℕ) (n : ℕ) → has_number (xs ++ ys) n ≡ false → has_number xs n ≡ false
fewer [] ys n h = refl
fewer (x ∷ xs) ys n h = by (x == n) h (fewer xs ys n)
  where
    by : (b : Bool) → (b || has_number (xs ++ ys) n) ≡ false → (has_number (xs ++ ys) n ≡ false → has_number xs n ≡ false) → (b || has_number xs n) ≡ false
    by true h more = h
    by false h more = more h

last_has : (xs : List ℕ) (n : ℕ) → has_number (xs ++ n ∷ []) n ≡ true
last_has [] n = ap (λ b. b || false) (eq-eqb n n refl)
last_has (x ∷ xs) n = by (x == n) (last_has xs n)
  where
    by : (b : Bool) → has_number (xs ++ n ∷ []) n ≡ true → (b || has_number (xs ++ n ∷ []) n) ≡ true
    by true h = refl
    by false h = h

-- a number that is listed is none of those that aren't
absent : (n : ℕ) (listed ns : List ℕ) → has_number listed n ≡ true → Each (λ m. has_number listed m ≡ false) ns → has_number ns n ≡ false
absent n listed [] has h = refl
absent n listed (m ∷ ns) has h = by (m == n) refl (absent n listed ns has h.1)
  where
    by : (b : Bool) → (m == n) ≡ b → has_number ns n ≡ false → (b || has_number ns n) ≡ false
    by true e rest = absurd (true≢false (sym has ∙ ap (has_number listed) (sym (eqb-true m n e)) ∙ h.0))
    by false e rest = rest

-- each table once
leads_apart : (defs : List TableDef) (listed : List ℕ) (es : List Edge) → leads_outwards defs listed es ≡ true → Each (λ n. has_number listed n ≡ false) (map (λ e. e.to.table) es) × Distinct (map (λ e. e.to.table) es)
leads_apart defs listed [] h = (tt, tt)
leads_apart defs listed (e ∷ es) h =
    let parts = and_parts (has_number listed e.from.table && (not (has_number listed e.to.table) && is_key_column defs e.to)) (leads_outwards defs (listed ++ e.to.table ∷ []) es) h in
    let new : has_number listed e.to.table ≡ false = not-true (has_number listed e.to.table) (and_parts (not (has_number listed e.to.table)) (is_key_column defs e.to) (and_parts (has_number listed e.from.table) (not (has_number listed e.to.table) && is_key_column defs e.to) parts.0).1).0 in
    let rest = leads_apart defs (listed ++ e.to.table ∷ []) es parts.1 in (
      (new, each_weaker (λ n. has_number (listed ++ e.to.table ∷ []) n ≡ false) (λ n. has_number listed n ≡ false) (λ n k. fewer listed (e.to.table ∷ []) n k) (map (λ e. e.to.table) es) rest.0),
      (absent e.to.table (listed ++ e.to.table ∷ []) (map (λ e. e.to.table) es) (last_has listed e.to.table) rest.0, rest.1),
    )

pub apart_root : (defs : List TableDef) (root : ℕ) (es : List Edge) → leads_outwards defs (root ∷ []) es ≡ true → Distinct (root ∷ map (λ e. e.to.table) es)
apart_root defs root es h =
    let both = leads_apart defs (root ∷ []) es h in
    (absent root (root ∷ []) (map (λ e. e.to.table) es) (last_has [] root) both.0, both.1)
