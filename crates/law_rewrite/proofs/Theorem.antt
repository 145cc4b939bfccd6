-- A plan of class GENERAL over a fresh aggregate view of the same tables gives the query's meaning.
use Rattle.std.proofs.Common.{◌≡◌, ◌∙◌, sym, ap, subst, refl, Bool, true, false, cond, List, [], ◌∷◌, ◌++◌, map, Option, Some, None}
use Rattle.std.specs.Prelude.{is_some}
use Rattle.std.specs.List.{filter, flat_map, list_all, list_any}
use Rattle.std.specs.Cmp.{IsTotalOrder}
use Rattle.std.specs.Ordering.{ordering_reverse}
use Rattle.std.specs.declared.cmp.Ordering.{Ordering}
use Rattle.std.proofs.lemmas.Cmp.{then_total, on_total, back_total}
use Rattle.std.proofs.lemmas.List.{append-nil}
use Rattle.std.proofs.lemmas.Map.Lookups.{CmpEqualImpliesEq}
use Rattle.std.proofs.lemmas.Bool.{and_parts}
use Rattle.wh_base.specs.Columns.{has_column}
use Rattle.wh_base.specs.Lists.{sorted_by}
use Rattle.wh_base.specs.Tables.{Base, value_at}
use Rattle.wh_base.specs.Values.{value_cmp, values_cmp}
use Rattle.wh_base.proofs.Sorting.{SameCounts, times, sorted_counts, sorted_same}
use Rattle.wh_base.specs.ValueLaws.{value_total, values_total, values_exact, second_equal}
use Rattle.wh_base.specs.declared.values.Value.{Value}
use Rattle.wh_base.specs.declared.columns.Agg.{Agg}
use Rattle.wh_base.specs.declared.columns.Agg.TheVariants.{Avg, Count, CountAll, Max, Min, Sum}
use Rattle.wh_base.specs.declared.columns.ColRef.{ColRef}
use Rattle.wh_base.specs.declared.queries.Item.{Item}
use Rattle.wh_base.specs.declared.queries.Item.TheVariants as item
use Rattle.wh_base.specs.declared.queries.OrderKey.{OrderKey}
use Rattle.wh_base.specs.declared.queries.StarQuery.{StarQuery}
use Rattle.wh_base.specs.declared.tables.RowAt.{RowAt}
use Rattle.wh_base.specs.declared.tables.TableDef.{TableDef}
use Rattle.wh_base.specs.declared.views.Class.TheVariants.{General}
use Rattle.def_meaning.specs.Accumulated.{query_aggs}
use Rattle.def_meaning.specs.Joined.{column_value, conditions_true, edge_true, joined}
use Rattle.def_meaning.specs.Meaning.{Grouped, entries, expr_value, not_null, entry_cmp, grouped_entries, groups, in_order, key_of, meaning, order_cmp, plain_entries, plain_item, row_cmp, stored}
use Rattle.def_restrictions.specs.Definition.{condition_column}
use Rattle.def_rewriting.specs.Compatible.{linked, own_conditions}
use Rattle.def_rewriting.specs.Classes.{class_rows}
use Rattle.def_rewriting.specs.PlanRows.{general_rows, placed, plan_groups}
use Rattle.def_rewriting.specs.Reaching.{item_place, plain_columns, stands_at, view_layout}
use Rattle.def_rewriting.specs.Rollup.{Origin, counts_all, origin}
use Rattle.law_lists.proofs.Each.{Each-both, Each-from_all, Each-map, Each-of, Each-turn}
use Rattle.law_lists.proofs.Counts.{SameCounts-map}
use Rattle.law_lists.proofs.Groups.{groups_agree, groups_full, groups_within}
use Rattle.law_rewrite.specs.Words.{Each}
use Rattle.law_rewrite.proofs.Answering.{Full, Reads, Served, ServedAll, Sourced}
use Rattle.law_rewrite.proofs.Fresh.{group_row, own_true, own_true', rows_answer, view_stands}
use Rattle.law_rewrite.proofs.Placing.{linked_equal, placed_is}
use Rattle.law_rewrite.proofs.Sourcing.{at_place, Kind, One, ServedBy, SureAgg, kind_of, serves_of}

-- ---- the order of rows is total, and tells all rows apart

one_way : (R : List Value → List Value → Ordering) → IsTotalOrder R → (b : Bool) → IsTotalOrder (λ x y. cond b (ordering_reverse (R x y)) (R x y))
one_way R t false = t
one_way R t true = let e : (λ x y. R y x) ≡ (λ x y. ordering_reverse (R x y)) = λ i x y. t.antisymm y x i in subst IsTotalOrder e (back_total t)

nothing_total : IsTotalOrder (order_cmp [])
nothing_total = record { antisymm = λ x y. refl; trans = λ x y z h k. cc; congr = λ x y z h. refl }

order_total : (order : List OrderKey) → IsTotalOrder (order_cmp order)
order_total [] = nothing_total
order_total (k ∷ ks) = then_total (one_way (λ x y. value_cmp (value_at x k.item) (value_at y k.item)) (on_total (λ r. value_at r k.item) value_total) k.descending) (order_total ks)

pub row_total : (order : List OrderKey) → IsTotalOrder (row_cmp order)
row_total order = then_total (order_total order) values_total

pub row_exact : (order : List OrderKey) → CmpEqualImpliesEq (row_cmp order)
row_exact order a b h = values_exact a b (second_equal (order_cmp order a b) (values_cmp a b) h)

-- rows are in order the same whatever order they came in
pub same_rows_in_order : (order : List OrderKey) (xs ys : List (List Value)) → SameCounts xs ys → in_order order xs ≡ in_order order ys
same_rows_in_order order xs ys h = sorted_same (row_cmp order) (row_total order) (row_exact order) xs ys h

-- ---- what the rows of a view's groups have

pub groups_in : {T : Type 0} (P : T → Type 0) (value : T → ColRef → Value) (keys : List ColRef) (ts : List T) → Each P ts → Each (λ g. Each P g.1) (groups value keys ts)
groups_in P value [] ts h = (h, tt)
groups_in P value (c ∷ cs) ts h = groups_within P (key_of value (c ∷ cs)) ts h

-- a group is of its key
pub of_key : {T : Type 0} (value : T → ColRef → Value) (keys : List ColRef) (ts : List T) → Each (λ g. Each (λ t. key_of value keys t ≡ g.0) g.1) (groups value keys ts)
of_key value [] ts = (Each-of (λ t. [] ≡ []) (λ t. refl) ts, tt)
of_key value (c ∷ cs) ts = groups_agree (key_of value (c ∷ cs)) ts

-- a view without group columns has no column that is available
pub no_columns : (v : StarQuery) (c : ColRef) (items : List Item) → Each (λ d. has_column [] d ≡ true) (flat_map plain_columns items) → list_any (stands_at c) (map (item_place v) items) ≡ false
no_columns v c [] h = refl
no_columns v c (item.Col d ∷ items) h = absurd (let e : false ≡ true = h.0 in cc)
no_columns v c (item.Agg a ∷ items) h = no_columns v c items h

-- ---- the theorem

-- what a view over the same tables has for a query, over the tuples of the view
pub record Fits (defs : List TableDef) (q v : StarQuery) (ts : List (List RowAt)) : Type 0 where
  pub q_grouped : q.grouped ≡ true
  pub v_grouped : v.grouped ≡ true
  pub no_having : v.having ≡ []
  pub same_tables : q.tables ≡ v.tables
  -- all joins hold in the view's tuples
  pub joins : Each (λ t. list_all (edge_true (column_value v.tables t)) (q.edges ++ v.edges) ≡ true) ts
  -- a selected column is a group column
  pub selected : Each (λ d. has_column v.keys d ≡ true) (flat_map plain_columns v.items)
  -- the query's group columns and the columns of its own conditions are available by the view
  pub keys : Each (λ c. list_any (stands_at c) (view_layout v) ≡ true) q.keys
  pub conditions : Each (λ c. list_any (stands_at c) (view_layout v) ≡ true) (map condition_column (own_conditions q v))
  -- each aggregate comes from the view
  pub computable : list_all (λ a. is_some (origin defs (linked q v) v a)) (query_aggs q) ≡ true
  -- what is counted by COUNT(*) is NULL in no tuple
  pub sure : Each (λ a. SureAgg (column_value v.tables) (linked q v) v defs a ts) (query_aggs q)

module _ (defs : List TableDef) (q v : StarQuery) (ts : List (List RowAt)) (fits : Fits defs q v ts) where
  abbrev value : List RowAt → ColRef → Value
  value = column_value v.tables

  abbrev value' : List Value → ColRef → Value
  value' = placed (view_layout v)

  front : (f : ColRef → Value) (es ds : List _) → list_all (edge_true f) (es ++ ds) ≡ true → list_all (edge_true f) ds ≡ true
  front f [] ds h = h
  front f (e ∷ es) ds h = front f es ds (and_parts (edge_true f e) (list_all (edge_true f) (es ++ ds)) h).1

  reads_all : (columns : List ColRef) → Each (λ c. list_any (stands_at c) (view_layout v) ≡ true) columns → Reads value (group_row value v) value' columns (groups value v.keys ts)
  reads_all columns there =
      Each-map (λ g. (Each (λ t. list_all (edge_true (value t)) (q.edges ++ v.edges) ≡ true) g.1) × Each (λ t. key_of value v.keys t ≡ g.0) g.1)
      (λ g. Each (λ t. Each (λ c. value t c ≡ value' (group_row value v g) c) columns) g.1)
      by_group (groups value v.keys ts)
      (Each-both (λ g. Each (λ t. list_all (edge_true (value t)) (q.edges ++ v.edges) ≡ true) g.1) (λ g. Each (λ t. key_of value v.keys t ≡ g.0) g.1) (groups value v.keys ts)
      (groups_in (λ t. list_all (edge_true (value t)) (q.edges ++ v.edges) ≡ true) value v.keys ts fits.joins) (of_key value v.keys ts))
    where
      by_tuple : (g : Grouped (List RowAt)) (t : List RowAt) → (list_all (edge_true (value t)) (q.edges ++ v.edges) ≡ true) × (key_of value v.keys t ≡ g.0) → Each (λ c. value t c ≡ value' (group_row value v g) c) columns
      by_tuple g t h =
          Each-map (λ c. list_any (stands_at c) (view_layout v) ≡ true) (λ c. value t c ≡ value' (group_row value v g) c)
          (λ c k. sym (placed_is value v t g.1 c (front (value t) q.edges v.edges h.0) fits.selected k) ∙ ap (λ k. value' (group_row value v (k, g.1)) c) h.1) columns there

      by_group : (g : Grouped (List RowAt)) → (Each (λ t. list_all (edge_true (value t)) (q.edges ++ v.edges) ≡ true) g.1) × Each (λ t. key_of value v.keys t ≡ g.0) g.1
          → Each (λ t. Each (λ c. value t c ≡ value' (group_row value v g) c) columns) g.1
      by_group g h =
          Each-map (λ t. (list_all (edge_true (value t)) (q.edges ++ v.edges) ≡ true) × (key_of value v.keys t ≡ g.0)) (λ t. Each (λ c. value t c ≡ value' (group_row value v g) c) columns)
          (by_tuple g) g.1 (Each-both (λ t. list_all (edge_true (value t)) (q.edges ++ v.edges) ≡ true) (λ t. key_of value v.keys t ≡ g.0) g.1 h.0 h.1)

  full_by : (vkeys qkeys : List ColRef) → Each (λ d. has_column vkeys d ≡ true) (flat_map plain_columns v.items) → Each (λ c. list_any (stands_at c) (view_layout v) ≡ true) qkeys → Full qkeys (groups value vkeys ts)
  full_by vkeys [] h k = tt
  full_by [] (c ∷ cs) h k = absurd (let e : list_any (stands_at c) (view_layout v) ≡ false = no_columns v c v.items h in let f : list_any (stands_at c) (view_layout v) ≡ true = k.0 in cc)
  full_by (d ∷ ds) (c ∷ cs) h k = groups_full (key_of value (d ∷ ds)) ts

  one_of : (t : List RowAt) → list_all (edge_true (value t)) (q.edges ++ v.edges) ≡ true → One value (linked q v) t
  one_of t h c d k = sym (linked_equal (value t) (q.edges ++ v.edges) h c d k)

  under : {A : Type 0} (H : Type 0) (Q : A → Type 0) (gs : List A) → (H → Each Q gs) → Each (λ g. H → Q g) gs
  under H Q [] f = tt
  under H Q (g ∷ gs) f = (λ h. (f h).0, under H Q gs (λ h. (f h).1))

  groups_sure : (a : Agg) → SureAgg value (linked q v) v defs a ts → Each (λ g. SureAgg value (linked q v) v defs a g.1) (groups value v.keys ts)
  groups_sure CountAll h = Each-of (λ g. Unit {0}) (λ g. tt) (groups value v.keys ts)
  groups_sure (Count e) h =
      under (counts_all defs v e ≡ true) (λ g. Each (λ t. not_null (expr_value (value t) e) ≡ true) g.1) (groups value v.keys ts)
      (λ k. groups_in (λ t. not_null (expr_value (value t) e) ≡ true) value v.keys ts (h k))
  groups_sure (Sum e) h = Each-of (λ g. Unit {0}) (λ g. tt) (groups value v.keys ts)
  groups_sure (Avg e) h = Each-of (λ g. Unit {0}) (λ g. tt) (groups value v.keys ts)
  groups_sure (Min e) h = Each-of (λ g. Unit {0}) (λ g. tt) (groups value v.keys ts)
  groups_sure (Max e) h = Each-of (λ g. Unit {0}) (λ g. tt) (groups value v.keys ts)

  kinds_by : (o : Option Origin) (a : Agg) → Kind value (linked q v) v defs o a → Sourced value (group_row value v) value' defs q v o a
  kinds_by None a h = h
  kinds_by (Some o) a h = h

  served_by : (o : Option Origin) (a : Agg) (g : Grouped (List RowAt)) → ServedBy value (linked q v) v defs (group_row value v g) o a g → Served value (group_row value v) value' defs q v o a g
  served_by None a g h = h
  served_by (Some o) a g h = h

  sourced_all : Each (λ a. Sourced value (group_row value v) value' defs q v (origin defs (linked q v) v a) a) (query_aggs q)
  sourced_all =
      Each-map (λ a. is_some (origin defs (linked q v) v a) ≡ true) (λ a. Sourced value (group_row value v) value' defs q v (origin defs (linked q v) v a) a)
      (λ a h. kinds_by (origin defs (linked q v) v a) a (kind_of value (linked q v) v defs a h)) (query_aggs q)
      (Each-from_all (λ a. is_some (origin defs (linked q v) v a)) (query_aggs q) fits.computable)

  served_each : (a : Agg) → is_some (origin defs (linked q v) v a) ≡ true → SureAgg value (linked q v) v defs a ts
      → Each (λ g. Served value (group_row value v) value' defs q v (origin defs (linked q v) v a) a g) (groups value v.keys ts)
  served_each a h sure =
      Each-map (λ g. Each (One value (linked q v)) g.1 × SureAgg value (linked q v) v defs a g.1) (λ g. Served value (group_row value v) value' defs q v (origin defs (linked q v) v a) a g)
      (λ g k. served_by (origin defs (linked q v) v a) a g (serves_of value (linked q v) v defs g (group_row value v g) (at_place value (linked q v) v g k.0) a k.1 h)) (groups value v.keys ts)
      (Each-both (λ g. Each (One value (linked q v)) g.1) (λ g. SureAgg value (linked q v) v defs a g.1) (groups value v.keys ts)
      (groups_in (One value (linked q v)) value v.keys ts (Each-map (λ t. list_all (edge_true (value t)) (q.edges ++ v.edges) ≡ true) (One value (linked q v)) one_of ts fits.joins))
      (groups_sure a sure))

  served_all : Each (ServedAll value (group_row value v) value' defs q v) (groups value v.keys ts)
  served_all =
      Each-turn (λ a g. Served value (group_row value v) value' defs q v (origin defs (linked q v) v a) a g) (query_aggs q) (groups value v.keys ts)
      (Each-map (λ a. (is_some (origin defs (linked q v) v a) ≡ true) × SureAgg value (linked q v) v defs a ts)
      (λ a. Each (λ g. Served value (group_row value v) value' defs q v (origin defs (linked q v) v a) a g) (groups value v.keys ts))
      (λ a k. served_each a k.0 k.1) (query_aggs q)
      (Each-both (λ a. is_some (origin defs (linked q v) v a) ≡ true) (λ a. SureAgg value (linked q v) v defs a ts) (query_aggs q)
      (Each-from_all (λ a. is_some (origin defs (linked q v) v a)) (query_aggs q) fits.computable) fits.sure))

  -- the plan's rows are those of the query's groups over the view's tuples that meet its own conditions
  pub general_answers : (rows : List (List Value)) → rows ≡ map (λ e. e.row) (sorted_by entry_cmp (entries value v ts))
      → SameCounts (general_rows defs q v (view_layout v) rows) (map (λ e. e.row) (entries value q (filter (own_true value v (group_row value v) defs q value') ts)))
  general_answers rows e p =
      ap (times p) (ap (λ rs. general_rows defs q v (view_layout v) rs) e ∙ grouped_rows (map (λ e. e.row) (sorted_by entry_cmp (entries value v ts))))
      ∙ rows_answer value v (group_row value v) defs q value' (groups value v.keys ts) (map (λ e. e.row) (sorted_by entry_cmp (entries value v ts))) ts fits.v_grouped
      sourced_all served_all (full_by v.keys q.keys fits.selected fits.keys) (reads_all q.keys fits.keys) (reads_all (map condition_column (own_conditions q v)) fits.conditions)
      (view_stands value v ts fits.v_grouped fits.no_having) p
      ∙ ap (times p) (sym (grouped_meaning (filter (own_true value v (group_row value v) defs q value') ts)))
    where
      grouped_rows : (rs : List (List Value)) → general_rows defs q v (view_layout v) rs ≡ plan_groups defs q v value' (filter (own_true' value v (group_row value v) defs q value') rs)
      grouped_rows rs = ap (λ b. cond b (plan_groups defs q v value' (filter (own_true' value v (group_row value v) defs q value') rs)) (map (λ r. map (plain_item (value' r)) q.items) (filter (own_true' value v (group_row value v) defs q value') rs))) fits.q_grouped

      grouped_meaning : (us : List (List RowAt)) → map (λ e. e.row) (entries value q us) ≡ map (λ e. e.row) (grouped_entries value q us)
      grouped_meaning us = ap (λ b. map (λ e. e.row) (cond b (grouped_entries value q us) (plain_entries value q us))) fits.q_grouped

-- **an eligible plan over a fresh aggregate view of the same tables, with nothing joined back, gives the query's meaning**
pub general_plan : (defs : List TableDef) (q v : StarQuery) (base : Base) → Fits defs q v (joined v base)
    → joined q base ≡ filter (λ t. conditions_true (column_value v.tables t) (own_conditions q v)) (joined v base)
    → in_order q.order (class_rows defs base q v None [] General [] (stored v base)) ≡ meaning q base
general_plan defs q v base fits tuples =
    same_rows_in_order q.order (class_rows defs base q v None [] General [] (stored v base)) (map (λ e. e.row) (stored q base))
    (λ p. ap (λ places. times p (general_rows defs q v places (map (λ e. e.row) (stored v base)))) (append-nil (view_layout v))
    ∙ general_answers defs q v (joined v base) fits (map (λ e. e.row) (stored v base)) refl p
    ∙ ap (λ us. times p (map (λ e. e.row) (entries (column_value v.tables) q us))) (sym tuples)
    ∙ ap (λ ns. times p (map (λ e. e.row) (entries (column_value ns) q (joined q base)))) (sym fits.same_tables)
    ∙ sym (SameCounts-map (λ e. e.row) (sorted_by entry_cmp (entries (column_value q.tables) q (joined q base))) (entries (column_value q.tables) q (joined q base))
    (sorted_counts entry_cmp (entries (column_value q.tables) q (joined q base))) p))
