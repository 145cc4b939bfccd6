-- The theorem in the words of eligibility, for a query and a view over the same tables.
use Rattle.std.proofs.Common.{◌≡◌, ◌∙◌, sym, ap, refl, Bool, true, false, List, [], ◌∷◌, ◌++◌, map, None}
use Rattle.std.specs.Prelude.{◌&&◌, ◌||◌, is_some, not}
use Rattle.std.specs.List.{filter, flat_map, list_all, list_any}
use Rattle.wh_base.specs.Columns.{agg_columns}
use Rattle.wh_base.specs.Lists.{has_number, is_empty, sorted_by}
use Rattle.wh_base.specs.Tables.{Base}
use Rattle.wh_base.specs.declared.values.Value.{Value}
use Rattle.wh_base.specs.declared.columns.ColRef.{ColRef}
use Rattle.wh_base.specs.declared.queries.StarQuery.{StarQuery}
use Rattle.wh_base.specs.declared.statements.Level.{Level}
use Rattle.def_dimensions.specs.Dimensions.{Dimension}
use Rattle.wh_base.specs.declared.tables.RowAt.{RowAt}
use Rattle.wh_base.specs.declared.tables.TableDef.{TableDef}
use Rattle.wh_base.specs.declared.views.Class.TheVariants.{General}
use Rattle.def_meaning.specs.Accumulated.{query_aggs}
use Rattle.def_meaning.specs.Joined.{column_value, conditions_true, edge_true, joined, product, rows_at, tuple_true}
use Rattle.def_meaning.specs.Meaning.{entries, entry_cmp, in_order, meaning, stored}
use Rattle.def_restrictions.specs.Definition.{condition_column, item_columns}
use Rattle.def_rewriting.specs.Compatible.{conditions_implied, linked, own_conditions}
use Rattle.def_rewriting.specs.Classes.{class_rows}
use Rattle.def_rewriting.specs.PlanRows.{general_rows}
use Rattle.def_rewriting.specs.Reaching.{plain_columns, reach, stands_at, view_layout, wanted, wanted_by_aggs, wanted_by_joins}
use Rattle.def_rewriting.specs.Rollup.{computable, origin}
use Rattle.law_lists.proofs.Each.{filter_same, Each-map, Each-passes}
use Rattle.law_lists.proofs.Lists.{filter-filter, no_elements}
use Rattle.law_lists.proofs.Counts.{SameCounts-map}
use Rattle.law_rewrite.specs.Words.{Each}
use Rattle.law_rewrite.proofs.Implying.{PlainIn}
use Rattle.law_rewrite.proofs.Filtering.{Promised, conditions_are}
use Rattle.law_rewrite.proofs.Answering.{Each-split}
use Rattle.law_rewrite.proofs.Reached.{wanted_stand}
use Rattle.law_rewrite.proofs.Theorem.{general_plan, same_rows_in_order}
use Rattle.law_rewrite.proofs.JoinView.{join_answers}
use Rattle.std.proofs.lemmas.List.{append-nil}
use Rattle.std.proofs.lemmas.Bool.{and_parts}
use Rattle.wh_base.proofs.Sorting.{sorted_counts, times}
pub use Rattle.law_rewrite.specs.Words.{Serving, Stars, ways}

two_true : (b c : Bool) → b ≡ true → (b && c) ≡ c
two_true true c h = refl
two_true false c h = cc

pub all-append : {A : Type 0} (p : A → Bool) (xs ys : List A) → list_all p xs ≡ true → list_all p ys ≡ true → list_all p (xs ++ ys) ≡ true
all-append p [] ys h k = k
all-append p (x ∷ xs) ys h k = let both : (p x ≡ true) × (list_all p xs ≡ true) = and_parts (p x) (list_all p xs) h in λ i. both.0 i && all-append p xs ys both.1 k i

-- query and view over the same tables and joins, with conditions that are implied
pub record Alike (defs : List TableDef) (q v : StarQuery) (base : Base) : Type 0 where
  pub same_tables : q.tables ≡ v.tables
  pub same_edges : q.edges ≡ v.edges
  pub implied : conditions_implied defs q v ≡ true
  pub plain_q : Each PlainIn q.conditions
  pub plain_v : Each PlainIn v.conditions
  pub promised : Each (λ t. Promised defs q v (column_value v.tables t)) (ways v base)

module _ (defs : List TableDef) (q v : StarQuery) (base : Base) (e : Alike defs q v base) where
  all_edges : (f : ColRef → Value) → list_all (edge_true f) v.edges ≡ true → list_all (edge_true f) (q.edges ++ v.edges) ≡ true
  all_edges f h = all-append (edge_true f) q.edges v.edges (ap (list_all (edge_true f)) e.same_edges ∙ h) h

  same_tuple : (t : List RowAt) → Promised defs q v (column_value v.tables t) → tuple_true q t ≡ (tuple_true v t && conditions_true (column_value v.tables t) (own_conditions q v))
  same_tuple t p =
      ap (λ ns. list_all (edge_true (column_value ns t)) q.edges && conditions_true (column_value ns t) q.conditions) e.same_tables
      ∙ ap (λ es. list_all (edge_true (column_value v.tables t)) es && conditions_true (column_value v.tables t) q.conditions) e.same_edges
      ∙ by (list_all (edge_true (column_value v.tables t)) v.edges) refl
    where
      by : (b : Bool) → list_all (edge_true (column_value v.tables t)) v.edges ≡ b
          → (b && conditions_true (column_value v.tables t) q.conditions) ≡ ((b && conditions_true (column_value v.tables t) v.conditions) && conditions_true (column_value v.tables t) (own_conditions q v))
      by true h = conditions_are defs q v e.plain_q e.plain_v e.implied (column_value v.tables t) p (all_edges (column_value v.tables t) h)
      by false h = refl

  -- the query's tuples are the view's that meet its own conditions
  pub tuples_are : joined q base ≡ filter (λ t. conditions_true (column_value v.tables t) (own_conditions q v)) (joined v base)
  tuples_are =
      ap (λ ns. filter (tuple_true q) (product (map (rows_at base) ns))) e.same_tables
      ∙ filter_same (tuple_true q) (λ t. tuple_true v t && conditions_true (column_value v.tables t) (own_conditions q v)) (ways v base)
      (Each-map (λ t. Promised defs q v (column_value v.tables t)) (λ t. tuple_true q t ≡ (tuple_true v t && conditions_true (column_value v.tables t) (own_conditions q v))) same_tuple (ways v base) e.promised)
      ∙ sym (filter-filter (λ t. conditions_true (column_value v.tables t) (own_conditions q v)) (tuple_true v) (ways v base))

  pub joins_hold : Each (λ t. list_all (edge_true (column_value v.tables t)) (q.edges ++ v.edges) ≡ true) (joined v base)
  joins_hold =
      Each-map (λ t. tuple_true v t ≡ true) (λ t. list_all (edge_true (column_value v.tables t)) (q.edges ++ v.edges) ≡ true)
      (λ t h. all_edges (column_value v.tables t) (and_parts (list_all (edge_true (column_value v.tables t)) v.edges) (conditions_true (column_value v.tables t) v.conditions) h).0)
      (joined v base) (Each-passes (tuple_true v) (ways v base))

-- **an eligible plan over a fresh aggregate view of the same tables, with nothing joined back, gives the query's meaning**
pub eligible_means : (defs : List TableDef) (q v : StarQuery) (base : Base) → Stars defs q v base → Serving defs q v
    → in_order q.order (class_rows defs base q v None [] General [] (stored v base)) ≡ meaning q base
eligible_means defs q v base s e =
    general_plan defs q v base
    (record {
      q_grouped = seven.0;
      v_grouped = e.grouped;
      no_having = no_elements v.having none;
      same_tables = e.same_tables;
      joins = joins_hold defs q v base alike;
      selected = s.selected;
      keys = e.keys;
      conditions = e.conditions;
      computable = seven.1;
      sure = s.sure;
    })
    (tuples_are defs q v base alike)
  where
    alike : Alike defs q v base
    alike = record { same_tables = e.same_tables; same_edges = e.same_edges; implied = e.implied; plain_q = s.plain_q; plain_v = s.plain_v; promised = s.promised }

    parts : (is_empty v.having ≡ true) × ((not v.grouped || (q.grouped && list_all (λ a. is_some (origin defs (linked q v) v a)) (query_aggs q))) ≡ true)
    parts = and_parts (is_empty v.having) (not v.grouped || (q.grouped && list_all (λ a. is_some (origin defs (linked q v) v a)) (query_aggs q))) e.computed

    none : is_empty v.having ≡ true
    none = parts.0

    seven : (q.grouped ≡ true) × (list_all (λ a. is_some (origin defs (linked q v) v a)) (query_aggs q) ≡ true)
    seven =
        and_parts q.grouped (list_all (λ a. is_some (origin defs (linked q v) v a)) (query_aggs q))
        (sym (ap (λ b. not b || (q.grouped && list_all (λ a. is_some (origin defs (linked q v) v a)) (query_aggs q))) e.grouped) ∙ parts.1)

-- the same with what the walk says
pub reached_means : (defs : List TableDef) (dims : List Dimension) (level : Level) (q v : StarQuery) (base : Base)
    → Stars defs q v base
    → Each (λ c. has_number q.tables c.table ≡ true) (wanted q v)
    → v.grouped ≡ true → q.tables ≡ v.tables → q.edges ≡ v.edges
    → conditions_implied defs q v ≡ true → reach defs dims level q v ≡ record { failed = None; back = [] } → computable defs q v ≡ true
    → in_order q.order (class_rows defs base q v None [] General [] (stored v base)) ≡ meaning q base
reached_means defs dims level q v base s own grouped tables edges five six seven =
    eligible_means defs q v base s
    (record {
      grouped = grouped;
      same_tables = tables;
      same_edges = edges;
      implied = five;
      keys = parts.0;
      conditions = more.0;
      computed = seven;
    })
  where
    there : Each (λ c. list_any (stands_at c) (view_layout v) ≡ true) (wanted q v)
    there = wanted_stand defs dims level q v six own

    parts : Each (λ c. list_any (stands_at c) (view_layout v) ≡ true) q.keys
        × Each (λ c. list_any (stands_at c) (view_layout v) ≡ true) (flat_map plain_columns q.items ++ (map condition_column (own_conditions q v) ++ (wanted_by_aggs q v ++ wanted_by_joins q v)))
    parts = Each-split (λ c. list_any (stands_at c) (view_layout v) ≡ true) q.keys (flat_map plain_columns q.items ++ (map condition_column (own_conditions q v) ++ (wanted_by_aggs q v ++ wanted_by_joins q v))) there

    more : Each (λ c. list_any (stands_at c) (view_layout v) ≡ true) (map condition_column (own_conditions q v))
        × Each (λ c. list_any (stands_at c) (view_layout v) ≡ true) (wanted_by_aggs q v ++ wanted_by_joins q v)
    more =
        Each-split (λ c. list_any (stands_at c) (view_layout v) ≡ true) (map condition_column (own_conditions q v)) (wanted_by_aggs q v ++ wanted_by_joins q v)
        (Each-split (λ c. list_any (stands_at c) (view_layout v) ≡ true) (flat_map plain_columns q.items) (map condition_column (own_conditions q v) ++ (wanted_by_aggs q v ++ wanted_by_joins q v)) parts.1).1

-- **the same over a fresh join view**
pub join_means : (defs : List TableDef) (q v : StarQuery) (base : Base) → Alike defs q v base → v.grouped ≡ false
    → Each (λ c. list_any (stands_at c) (view_layout v) ≡ true) q.keys
    → Each (λ c. list_any (stands_at c) (view_layout v) ≡ true) (flat_map item_columns q.items ++ flat_map (λ t. agg_columns t.agg) q.having)
    → Each (λ c. list_any (stands_at c) (view_layout v) ≡ true) (map condition_column (own_conditions q v))
    → in_order q.order (class_rows defs base q v None [] General [] (stored v base)) ≡ meaning q base
join_means defs q v base e plain keys read conditions =
    same_rows_in_order q.order (class_rows defs base q v None [] General [] (stored v base)) (map (λ x. x.row) (stored q base))
    (λ p. ap (λ places. times p (general_rows defs q v places (map (λ x. x.row) (stored v base)))) (append-nil (view_layout v))
    ∙ join_answers (column_value v.tables) v defs q (joined v base) plain joins keys read conditions p
    ∙ ap (λ us. times p (map (λ x. x.row) (entries (column_value v.tables) q us))) (sym (tuples_are defs q v base e))
    ∙ ap (λ ns. times p (map (λ x. x.row) (entries (column_value ns) q (joined q base)))) (sym e.same_tables)
    ∙ sym (SameCounts-map (λ x. x.row) (sorted_by entry_cmp (entries (column_value q.tables) q (joined q base))) (entries (column_value q.tables) q (joined q base))
    (sorted_counts entry_cmp (entries (column_value q.tables) q (joined q base))) p))
  where
    joins : Each (λ t. list_all (edge_true (column_value v.tables t)) v.edges ≡ true) (joined v base)
    joins =
        Each-map (λ t. tuple_true v t ≡ true) (λ t. list_all (edge_true (column_value v.tables t)) v.edges ≡ true)
        (λ t h. (and_parts (list_all (edge_true (column_value v.tables t)) v.edges) (conditions_true (column_value v.tables t) v.conditions) h).0)
        (joined v base) (Each-passes (tuple_true v) (ways v base))
