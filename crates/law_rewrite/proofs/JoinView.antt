-- A plan of class GENERAL over a fresh join view: its rows are tuples.
use Rattle.std.proofs.Common.{◌≡◌, ◌∙◌, sym, ap, refl, Bool, true, false, cond, List, [], map}
use Rattle.std.specs.List.{filter, list_all, list_any}
use Rattle.std.proofs.lemmas.Simd.{map-map}
use Rattle.wh_base.specs.Lists.{option_case, sorted_by}
use Rattle.wh_base.specs.Tables.{value_at}
use Rattle.wh_base.specs.Values.{is_true_that}
use Rattle.wh_base.proofs.Sorting.{SameCounts, times, sorted_counts}
use Rattle.wh_base.specs.declared.values.Value.{Value}
use Rattle.wh_base.specs.declared.values.Value.TheVariants.{Null}
use Rattle.wh_base.specs.declared.columns.Agg.{Agg}
use Rattle.wh_base.specs.declared.columns.ColRef.{ColRef}
use Rattle.wh_base.specs.declared.queries.Item.{Item}
use Rattle.wh_base.specs.declared.queries.Item.TheVariants as item
use Rattle.wh_base.specs.declared.queries.StarQuery.{StarQuery}
use Rattle.wh_base.specs.declared.queries.Test.{Test}
use Rattle.wh_base.specs.declared.tables.TableDef.{TableDef}
use Rattle.def_meaning.specs.Joined.{conditions_true, edge_true}
use Rattle.def_meaning.specs.Meaning.{Grouped, agg_value, entries, entry_cmp, group_entry, group_item, grouped_entries, groups, plain_entries, plain_item, test_true}
use Rattle.def_restrictions.specs.Definition.{condition_column}
use Rattle.def_rewriting.specs.Compatible.{linked, own_conditions}
use Rattle.def_rewriting.specs.PlanRows.{general_rows, placed, plan_agg, plan_groups, plan_item, plan_test}
use Rattle.def_rewriting.specs.Reaching.{item_place, stands_at, view_layout}
use Rattle.def_rewriting.specs.Rollup.{origin, rolled}
use Rattle.law_lists.proofs.Each.{filter_same, Each-filter, Each-map, Each-of}
use Rattle.law_lists.proofs.Counts.{SameCounts-filter, SameCounts-map}
use Rattle.law_lists.proofs.Lists.{filter-map, list_any-map}
use Rattle.law_lists.proofs.Columns.{first_value}
use Rattle.law_rewrite.specs.Words.{Each}
use Rattle.law_rewrite.proofs.Fresh.{conditions_read}
use Rattle.law_rewrite.proofs.Placing.{linked_equal, position-map}
use Rattle.law_rewrite.proofs.Entries.{entries_same}
use Rattle.law_rewrite.proofs.Projecting.{Has, entries_has, read_columns}

-- ---- over a join view a plan's rows are the query's entries over the view's rows

module _ (defs : List TableDef) (q v : StarQuery) (value' : List Value → ColRef → Value) (plain : v.grouped ≡ false) where
  agg_plain : (rows : List (List Value)) (a : Agg) → plan_agg defs q v value' rows a ≡ agg_value value' rows a
  agg_plain rows a = ap (λ b. cond b (option_case (origin defs (linked q v) v a) Null (rolled rows)) (agg_value value' rows a)) plain

  item_plain : (g : Grouped (List Value)) (i : Item) → plan_item defs q v value' g i ≡ group_item value' q.keys g i
  item_plain g (item.Col c) = refl
  item_plain g (item.Agg a) = agg_plain g.1 a

  test_plain : (g : Grouped (List Value)) (t : Test) → plan_test defs q v value' g t ≡ test_true value' g t
  test_plain g t = ap (λ x. is_true_that x t.op t.value) (agg_plain g.1 t.agg)

  groups_plain : (rows : List (List Value)) → plan_groups defs q v value' rows ≡ map (λ e. e.row) (grouped_entries value' q rows)
  groups_plain rows =
      (λ i. map (λ g. map (λ x. item_plain g x i) q.items) (filter (λ g. list_all (λ t. test_plain g t i) q.having) (groups value' q.keys rows)))
      ∙ sym (map-map (λ e. e.row) (group_entry value' q) (filter (λ g. list_all (test_true value' g) q.having) (groups value' q.keys rows)))

  pub rows_plain : (rows : List (List Value)) → cond q.grouped (plan_groups defs q v value' rows) (map (λ r. map (plain_item (value' r)) q.items) rows) ≡ map (λ e. e.row) (entries value' q rows)
  rows_plain rows = by q.grouped
    where
      by : (b : Bool) → cond b (plan_groups defs q v value' rows) (map (λ r. map (plain_item (value' r)) q.items) rows) ≡ map (λ e. e.row) (cond b (grouped_entries value' q rows) (plain_entries value' q rows))
      by true = groups_plain rows
      by false = sym (map-map (λ e. e.row) (λ r. record { key = []; row = map (plain_item (value' r)) q.items }) rows)

module _ {T : Type 0} (value : T → ColRef → Value) (v : StarQuery) where
  -- the row of a tuple
  abbrev pub tuple_row : T → List Value
  tuple_row t = map (plain_item (value t)) v.items

  -- a column is available by a selected column that equals it
  pub placed_plain : (t : T) (c : ColRef) → list_all (edge_true (value t)) v.edges ≡ true → list_any (stands_at c) (view_layout v) ≡ true → value t c ≡ placed (view_layout v) (tuple_row t) c
  placed_plain t c joins there =
      sym (ap (λ o. option_case o Null (value_at (tuple_row t))) (position-map (stands_at c) (item_place v) v.items)
      ∙ first_value (λ i. stands_at c (item_place v i)) (plain_item (value t)) (value t c) v.items
      (sym (list_any-map (stands_at c) (item_place v) v.items) ∙ there) (Each-of (λ i. stands_at c (item_place v i) ≡ true → plain_item (value t) i ≡ value t c) one v.items))
    where
      one : (i : Item) → stands_at c (item_place v i) ≡ true → plain_item (value t) i ≡ value t c
      one (item.Col d) e = sym (linked_equal (value t) v.edges joins d c e)
      one (item.Agg a) e = cc

  stand_all : (columns : List ColRef) (ts : List T) → Each (λ t. list_all (edge_true (value t)) v.edges ≡ true) ts → Each (λ c. list_any (stands_at c) (view_layout v) ≡ true) columns
      → Each (Has value (placed (view_layout v)) tuple_row columns) ts
  stand_all columns ts joins there =
      Each-map (λ t. list_all (edge_true (value t)) v.edges ≡ true) (Has value (placed (view_layout v)) tuple_row columns)
      (λ t h. Each-map (λ c. list_any (stands_at c) (view_layout v) ≡ true) (λ c. value t c ≡ placed (view_layout v) (tuple_row t) c) (λ c k. placed_plain t c h k) columns there) ts joins

  module _ (defs : List TableDef) (q : StarQuery) (ts : List T) (plain : v.grouped ≡ false) (joins : Each (λ t. list_all (edge_true (value t)) v.edges ≡ true) ts)
      (keys : Each (λ c. list_any (stands_at c) (view_layout v) ≡ true) q.keys)
      (read : Each (λ c. list_any (stands_at c) (view_layout v) ≡ true) (read_columns value (placed (view_layout v)) tuple_row q))
      (conditions : Each (λ c. list_any (stands_at c) (view_layout v) ≡ true) (map condition_column (own_conditions q v))) where
    own : T → Bool
    own t = conditions_true (value t) (own_conditions q v)

    abbrev value' : List Value → ColRef → Value
    value' = placed (view_layout v)

    own' : List Value → Bool
    own' r = conditions_true (value' r) (own_conditions q v)

    rows_are : map (λ e. e.row) (entries value v ts) ≡ map tuple_row ts
    rows_are =
        ap (λ b. map (λ e. e.row) (cond b (grouped_entries value v ts) (plain_entries value v ts))) plain
        ∙ map-map (λ e. e.row) (λ t. record { key = []; row = tuple_row t }) ts

    own_rows : filter own' (map tuple_row ts) ≡ map tuple_row (filter own ts)
    unfolding own own'
    own_rows =
        filter-map own' tuple_row ts
        ∙ ap (map tuple_row) (sym (filter_same own (λ t. own' (tuple_row t)) ts
        (Each-map (Has value (placed (view_layout v)) tuple_row (map condition_column (own_conditions q v))) (λ t. own t ≡ own' (tuple_row t))
        (λ t h. conditions_read (value t) (value' (tuple_row t)) (own_conditions q v) h) ts (stand_all (map condition_column (own_conditions q v)) ts joins conditions))))

    -- **the plan's rows are those of the query over the view's tuples that meet its own conditions**
    pub join_answers : SameCounts (general_rows defs q v (view_layout v) (map (λ e. e.row) (sorted_by entry_cmp (entries value v ts)))) (map (λ e. e.row) (entries value q (filter (λ t. conditions_true (value t) (own_conditions q v)) ts)))
    unfolding own own'
    join_answers p =
        ap (times p) (rows_plain defs q v value' plain (filter own' (map (λ e. e.row) (sorted_by entry_cmp (entries value v ts)))))
        ∙ SameCounts-map (λ e. e.row) (entries value' q (filter own' (map (λ e. e.row) (sorted_by entry_cmp (entries value v ts))))) (entries value' q (filter own' (map tuple_row ts)))
        (entries_same value' q (filter own' (map (λ e. e.row) (sorted_by entry_cmp (entries value v ts)))) (filter own' (map tuple_row ts))
        (SameCounts-filter own' (map (λ e. e.row) (sorted_by entry_cmp (entries value v ts))) (map tuple_row ts)
        (λ r. SameCounts-map (λ e. e.row) (sorted_by entry_cmp (entries value v ts)) (entries value v ts) (sorted_counts entry_cmp (entries value v ts)) r ∙ ap (times r) rows_are))) p
        ∙ ap (λ rs. times p (map (λ e. e.row) (entries value' q rs))) own_rows
        ∙ ap (λ es. times p (map (λ e. e.row) es)) (sym (entries_has value value' tuple_row q (filter own ts)
        (Each-filter (Has value value' tuple_row q.keys) own ts (stand_all q.keys ts joins keys))
        (Each-filter (Has value value' tuple_row (read_columns value value' tuple_row q)) own ts (stand_all (read_columns value value' tuple_row q) ts joins read))))
