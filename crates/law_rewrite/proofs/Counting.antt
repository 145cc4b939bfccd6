-- What is counted as a product is of numbers, since the query is resolved and rows fit their columns.
use Rattle.std.proofs.Common.{◌≡◌, ◌∙◌, sym, ap, subst, refl, arith, ℕ, zero, suc, Bool, true, false, cond, not, List, [], ◌∷◌, length, map, Option, Some, None}
use Rattle.std.specs.List.{flat_map}
use Rattle.std.specs.Prelude.{Ok, option_map, slice_get, zip, ◌&&◌}
use Rattle.std.proofs.lemmas.Bool.{and_parts}
use Rattle.wh_base.specs.Columns.{agg_columns}
use Rattle.wh_base.specs.Lists.{first_of, first_some, option_case, where_true}
use Rattle.wh_base.specs.Tables.{Base, Row, def_at, defs_of, row_at, table_at, value_at}
use Rattle.wh_base.specs.Values.{is_null}
use Rattle.wh_base.specs.declared.columns.Agg.{Agg}
use Rattle.wh_base.specs.declared.columns.Agg.TheVariants.{Avg, Count, CountAll, Max, Min, Sum}
use Rattle.wh_base.specs.declared.columns.ColPart.{ColPart}
use Rattle.wh_base.specs.declared.columns.ColPart.TheVariants.{Col, Mark, RowId}
use Rattle.wh_base.specs.declared.columns.ColRef.{ColRef}
use Rattle.wh_base.specs.declared.columns.Expr.{Expr}
use Rattle.wh_base.specs.declared.columns.Expr.TheVariants as expr
use Rattle.wh_base.specs.declared.queries.ColName.{ColName}
use Rattle.wh_base.specs.declared.queries.Item.{Item}
use Rattle.wh_base.specs.declared.queries.RawItem.{RawItem}
use Rattle.wh_base.specs.declared.queries.RawQuery.{RawQuery}
use Rattle.wh_base.specs.declared.queries.RawTest.{RawTest}
use Rattle.wh_base.specs.declared.queries.RawWhat.{RawWhat}
use Rattle.wh_base.specs.declared.queries.RawWhat.TheVariants as what
use Rattle.wh_base.specs.declared.queries.StarQuery.{StarQuery}
use Rattle.wh_base.specs.declared.replies.Refusal.{Refusal}
use Rattle.wh_base.specs.declared.replies.Refusal.TheVariants.{NotGrouped, NotStar, NullNotAllowed, ValueDoesNotFit}
use Rattle.wh_base.specs.declared.tables.ColumnDef.{ColumnDef}
use Rattle.wh_base.specs.declared.tables.Kind.{Kind}
use Rattle.wh_base.specs.declared.tables.Kind.TheVariants as kind
use Rattle.wh_base.specs.declared.tables.TableDef.{TableDef}
use Rattle.wh_base.specs.declared.values.Value.{Value}
use Rattle.wh_base.specs.declared.values.Value.TheVariants.{Day, Null, Num, Ratio, Text}
use Rattle.def_effect.specs.Block.{column_refusal, fits_kind}
use Rattle.def_meaning.specs.Accumulated.{item_aggs, query_aggs}
use Rattle.def_meaning.specs.Joined.{part_value, rows_at}
use Rattle.def_resolve.specs.Kinds.{IsAny, IsNumber, agg_refusal, agg_sort, agrees, column_sort, compare_refusal, condition_refusal, equal_refusal, is_plain, is_summed, misfit, part_sort, product_refusal, sort_of_kind, summed_refusal, test_refusal}
use Rattle.def_resolve.specs.Names.{column_named, names_refusal, sources_of, table_refusal}
use Rattle.def_resolve.specs.Resolve.{first_table, grouping_holds, join_of_table, joins_of, kinds_refusal, order_kind_refusal, resolve, resolved_agg, resolved_item, resolved_test, star_form, star_query, what_refusal}
use Rattle.def_resolve.specs.Star.{Tree, star_of}
use Rattle.wh_base.specs.Lists.{head, unless}
use Rattle.law_lists.proofs.Each.{Each-both, Each-append, Each-map, Each-of_map}
use Rattle.law_lists.proofs.Options.{none_where, none_first, none_then, or_refuse_is, unless_is, none_each}
use Rattle.law_lists.proofs.Tables.{base_def}
use Rattle.law_rewrite.specs.Words.{Each}
use Rattle.law_rewrite.specs.Fine.{KindsFine, Numbers, ProductFine, may_be_number}
use Rattle.law_rewrite.specs.Kept.{DefKept, NoRows, SameDef, TableKept}
use Rattle.law_rewrite.proofs.Owed.{at_table, nothing}

-- ---- a row

fits_number : (k : Kind) (v : Value) → not (fits_kind k v) ≡ false → agrees (sort_of_kind k) IsNumber ≡ true → may_be_number v ≡ true
fits_number k Null e h = refl
fits_number k (Num n) e h = refl
fits_number (kind.Number p) (Text t) e h = cc
fits_number (kind.Number p) (Day n) e h = cc
fits_number (kind.Number p) (Ratio a) e h = cc
fits_number (kind.Text n) (Text t) e h = cc
fits_number (kind.Text n) (Day m) e h = cc
fits_number (kind.Text n) (Ratio a) e h = cc
fits_number kind.Date (Text t) e h = cc
fits_number kind.Date (Day m) e h = cc
fits_number kind.Date (Ratio a) e h = cc

number_at : (d : TableDef) (columns : List ColumnDef) (vs : List Value) (k : ℕ) → length vs ≡ length columns → first_of (column_refusal d) (zip columns vs) ≡ None
    → agrees (option_case (slice_get columns k) IsAny (λ c. sort_of_kind c.kind)) IsNumber ≡ true → may_be_number (value_at vs k) ≡ true
number_at d columns [] k wide none h = refl
number_at d [] (v ∷ vs) k wide none h = absurd (omega (arith, wide))
number_at d (c ∷ columns) (v ∷ vs) zero wide none h =
    let own : column_refusal d (c, v) ≡ None = (none_first (column_refusal d (c, v)) (map (column_refusal d) (zip columns vs)) none).0 in
    fits_number c.kind v (none_where (not (fits_kind c.kind v)) (ValueDoesNotFit d.name c.name) (none_first (where_true (not (fits_kind c.kind v)) (ValueDoesNotFit d.name c.name)) (where_true (c.not_null && is_null v) (NullNotAllowed d.name c.name) ∷ []) own).0) h
number_at d (c ∷ columns) (v ∷ vs) (suc k) wide none h = number_at d columns vs k (omega (arith, wide)) (none_first (column_refusal d (c, v)) (map (column_refusal d) (zip columns vs)) none).1 h

-- ---- a base state

module _ (defs : List TableDef) (base : Base) (kept : Each (TableKept base) base) (same : (n : ℕ) → DefKept defs base n) where
  part_number : (n : ℕ) (p : ColPart) → agrees (part_sort (table_at base n).def p) IsNumber ≡ true → Each (λ r. may_be_number (part_value r p) ≡ true) (rows_at base n)
  part_number n p h =
      Each-of_map (λ r. may_be_number (part_value r p) ≡ true) (row_at (table_at base n)) (table_at base n).rows
      (Each-map (λ r. (length r.values ≡ length (table_at base n).def.columns) × (first_of (column_refusal (table_at base n).def) (zip (table_at base n).def.columns r.values) ≡ None)) (λ r. may_be_number (part_value (row_at (table_at base n) r) p) ≡ true)
      (λ r k. by r p k h) (table_at base n).rows
      (Each-both (λ r. length r.values ≡ length (table_at base n).def.columns) (λ r. first_of (column_refusal (table_at base n).def) (zip (table_at base n).def.columns r.values) ≡ None) (table_at base n).rows own.widths own.columns))
    where
      own : TableKept base (table_at base n)
      own = at_table (TableKept base) base n (nothing base) kept

      by : (r : Row) (p : ColPart) → (length r.values ≡ length (table_at base n).def.columns) × (first_of (column_refusal (table_at base n).def) (zip (table_at base n).def.columns r.values) ≡ None)
          → agrees (part_sort (table_at base n).def p) IsNumber ≡ true → may_be_number (part_value (row_at (table_at base n) r) p) ≡ true
      by r (Col m) k e = number_at (table_at base n).def (table_at base n).def.columns r.values m k.0 k.1 e
      by r RowId k e = refl
      by r Mark k e = refl

  sort_same : (d e : TableDef) → record d { movement = false } ≡ record e { movement = false } → (p : ColPart) → part_sort d p ≡ part_sort e p
  sort_same d e h (Col k) = ap (λ (x : TableDef). part_sort x (Col k)) h
  sort_same d e h RowId = refl
  sort_same d e h Mark = refl

  numbers_of : (c : ColRef) → is_summed defs c ≡ true → Numbers (rows_at base) c
  numbers_of c h = by (same c.table)
    where
      by : DefKept defs base c.table → Numbers (rows_at base) c
      by (NoRows e) = subst (Each (λ r. may_be_number (part_value r c.part) ≡ true)) (sym e) tt
      by (SameDef e) =
          part_number c.table c.part
          (ap (λ d. agrees (part_sort d c.part) IsNumber) (sym (base_def base c.table)) ∙ ap (λ s. agrees s IsNumber) (sort_same (def_at (defs_of base) c.table) (def_at defs c.table) e c.part)
          ∙ (and_parts (is_plain c.part) (agrees (column_sort defs c) IsNumber) h).1)

  both_summed : (a b : ColRef) → summed_refusal defs (a ∷ b ∷ []) ≡ None → (is_summed defs a ≡ true) × (is_summed defs b ≡ true)
  both_summed a b h = by (is_summed defs a) (is_summed defs b) h
    where
      by : (x y : Bool) → option_map (misfit defs) (cond (not x) (Some a) (cond (not y) (Some b) None)) ≡ None → (x ≡ true) × (y ≡ true)
      by true true e = (refl, refl)
      by true false e = cc
      by false y e = cc

  product_fine : (first : ℕ) (e : Expr) → product_refusal defs first e ≡ None → ProductFine (rows_at base) e
  product_fine first (expr.Col c) h = tt
  product_fine first (expr.Product a b) h = let both : (is_summed defs a ≡ true) × (is_summed defs b ≡ true) = both_summed a b h in (numbers_of a both.0, numbers_of b both.1)
  product_fine first (expr.Lit n) h = tt

  agg_fine : (first : ℕ) (a : Agg) → agg_refusal defs first a ≡ None → KindsFine (rows_at base) a
  agg_fine first CountAll h = tt
  agg_fine first (Count e) h = product_fine first e h
  agg_fine first (Sum e) h = tt
  agg_fine first (Avg e) h = tt
  agg_fine first (Min e) h = tt
  agg_fine first (Max e) h = tt

-- ---- the aggregates of a query

module _ (defs : List TableDef) (first : ℕ) (column : ColName → ColRef) where
  abbrev Passed : Agg → Type 0
  Passed a = agg_refusal defs first a ≡ None

  what_passed : (w : RawWhat) → what_refusal defs first column w ≡ None → Each Passed (item_aggs (resolved_item column w))
  what_passed (what.Plain c) h = tt
  what_passed (what.Computed a) h = (h, tt)

  items_passed : (is : List RawItem) → Each (λ i. what_refusal defs first column i.what ≡ None) is → Each Passed (flat_map item_aggs (map (λ i. resolved_item column i.what) is))
  items_passed [] h = tt
  items_passed (i ∷ is) h = Each-append Passed (item_aggs (resolved_item column i.what)) (flat_map item_aggs (map (λ j. resolved_item column j.what) is)) (what_passed i.what h.0) (items_passed is h.1)

  tests_passed : (ts : List RawTest) → Each (λ t. test_refusal defs first (resolved_agg column t.agg) t.literal ≡ None) ts → Each Passed (map (λ t. t.agg) (map (resolved_test column) ts))
  tests_passed [] h = tt
  tests_passed (t ∷ ts) h = (
    (none_first (agg_refusal defs first (resolved_agg column t.agg)) (compare_refusal defs first (head (agg_columns (resolved_agg column t.agg))) (agg_sort defs (resolved_agg column t.agg)) (t.literal ∷ []) ∷ []) h.0).0,
    tests_passed ts h.1,
  )

  query_passed : (query : RawQuery) (tree : Tree) → kinds_refusal defs first column query ≡ None → Each Passed (query_aggs (star_query query column tree))
  query_passed query tree h =
      Each-append Passed (flat_map item_aggs (map (λ i. resolved_item column i.what) query.items)) (map (λ t. t.agg) (map (resolved_test column) query.having))
      (items_passed query.items (none_each (λ i. what_refusal defs first column i.what) query.items one.0))
      (tests_passed query.having (none_each (λ t. test_refusal defs first (resolved_agg column t.agg) t.literal) query.having four.0))
    where
      orders : Option Refusal
      orders = first_of (λ k. order_kind_refusal defs first column k.what) query.order

      havings : Option Refusal
      havings = first_of (λ t. test_refusal defs first (resolved_agg column t.agg) t.literal) query.having

      conditions : Option Refusal
      conditions = first_of (condition_refusal defs column) query.conditions

      joins : Option Refusal
      joins = first_of (λ e. equal_refusal defs e.from e.to) (flat_map (join_of_table column) query.tables)

      one : (first_of (λ i. what_refusal defs first column i.what) query.items ≡ None) × (first_some (joins ∷ conditions ∷ havings ∷ orders ∷ []) ≡ None)
      one = none_first (first_of (λ i. what_refusal defs first column i.what) query.items) (joins ∷ conditions ∷ havings ∷ orders ∷ []) h

      two : (joins ≡ None) × (first_some (conditions ∷ havings ∷ orders ∷ []) ≡ None)
      two = none_first joins (conditions ∷ havings ∷ orders ∷ []) one.1

      three : (conditions ≡ None) × (first_some (havings ∷ orders ∷ []) ≡ None)
      three = none_first conditions (havings ∷ orders ∷ []) two.1

      four : (havings ≡ None) × (first_some (orders ∷ []) ≡ None)
      four = none_first havings (orders ∷ []) three.1

-- **the products that a query counts are of numbers**
pub kinds_owe : (defs : List TableDef) (query : RawQuery) (q : StarQuery) (base : Base) → resolve defs query ≡ Ok q → Each (TableKept base) base → ((n : ℕ) → DefKept defs base n) → Each (KindsFine (rows_at base)) (query_aggs q)
kinds_owe defs query q base h kept same =
    Each-map (λ a. agg_refusal defs first a ≡ None) (KindsFine (rows_at base)) (λ a k. agg_fine defs base kept same first a k) (query_aggs q)
    (subst (λ (x : StarQuery). Each (λ a. agg_refusal defs first a ≡ None) (query_aggs x)) form (query_passed defs first column query found.0 kinds))
  where
    column : ColName → ColRef
    column = column_named (sources_of defs query)

    first : ℕ
    first = first_table (sources_of defs query)

    passed : (first_some (table_refusal defs query ∷ names_refusal (sources_of defs query) query ∷ kinds_refusal defs (first_table (sources_of defs query)) (column_named (sources_of defs query)) query ∷ []) ≡ None)
        × (star_form defs query (sources_of defs query) ≡ Ok q)
    passed =
        none_then (first_some (table_refusal defs query ∷ names_refusal (sources_of defs query) query ∷ kinds_refusal defs (first_table (sources_of defs query)) (column_named (sources_of defs query)) query ∷ []))
        (star_form defs query (sources_of defs query)) q h

    kinds : kinds_refusal defs (first_table (sources_of defs query)) (column_named (sources_of defs query)) query ≡ None
    kinds =
        (none_first (kinds_refusal defs (first_table (sources_of defs query)) (column_named (sources_of defs query)) query) []
        (none_first (names_refusal (sources_of defs query) query) (kinds_refusal defs (first_table (sources_of defs query)) (column_named (sources_of defs query)) query ∷ [])
        (none_first (table_refusal defs query) (names_refusal (sources_of defs query) query ∷ kinds_refusal defs (first_table (sources_of defs query)) (column_named (sources_of defs query)) query ∷ []) passed.0).1).1).0

    items : List Item
    items = map (λ i. resolved_item (column_named (sources_of defs query)) i.what) query.items

    found : (tree : Tree) × ((star_of defs (joins_of column query) (map (λ s. s.table) (sources_of defs query)) ≡ Some tree) × (unless (where_true (not (grouping_holds query column items (map column query.groups))) NotGrouped) (star_query query column tree) ≡ Ok q))
    found =
        or_refuse_is (star_of defs (joins_of column query) (map (λ s. s.table) (sources_of defs query))) NotStar
        (λ tree. unless (where_true (not (grouping_holds query column items (map column query.groups))) NotGrouped) (star_query query column tree)) q passed.1

    form : star_query query column found.0 ≡ q
    form = unless_is (where_true (not (grouping_holds query column items (map column query.groups))) NotGrouped) (star_query query column found.0) q found.1.1
