-- A plan over an aggregate view.
use Rattle.std.proofs.Common.{◌≡◌, ◌∙◌, sym, ap, subst, refl, arith, ℕ, ◌<◌, Bool, true, false, cond, List, [], ◌∷◌, ◌++◌, map, length, Option, Some, None}
use Rattle.std.specs.Prelude.{◌&&◌, is_some}
use Rattle.std.specs.List.{filter, flat_map, list_all, list_any}
use Rattle.std.proofs.lemmas.List.{append-nil, get_or_append_left, length-map, map-id}
use Rattle.std.proofs.lemmas.List.Quantifiers.{position-Some}
use Rattle.std.proofs.lemmas.Option.{unwrap_or-slice_get}
use Rattle.std.proofs.lemmas.Bool.{and_parts}
use Rattle.wh_base.specs.Columns.{agg_columns, has_column}
use Rattle.wh_base.specs.Lists.{has_number, is_empty, option_case}
use Rattle.wh_base.specs.Tables.{Base, never_null, value_at}
use Rattle.wh_base.specs.Values.{product_value}
use Rattle.wh_base.proofs.Sorting.{times}
use Rattle.wh_base.specs.declared.columns.Agg.{Agg}
use Rattle.wh_base.specs.declared.columns.Agg.TheVariants.{Avg, Count, CountAll, Max, Min, Sum}
use Rattle.wh_base.specs.declared.columns.ColRef.{ColRef}
use Rattle.wh_base.specs.declared.columns.Expr.{Expr}
use Rattle.wh_base.specs.declared.columns.Expr.TheVariants as expr
use Rattle.wh_base.specs.declared.queries.Item.{Item}
use Rattle.wh_base.specs.declared.queries.Item.TheVariants as item
use Rattle.wh_base.specs.declared.queries.StarQuery.{StarQuery}
use Rattle.wh_base.specs.declared.tables.RowAt.{RowAt}
use Rattle.wh_base.specs.declared.tables.TableDef.{TableDef}
use Rattle.wh_base.specs.declared.values.Value.{Value}
use Rattle.wh_base.specs.declared.values.Value.TheVariants.{Null, Num}
use Rattle.def_meaning.specs.Accumulated.{query_aggs}
use Rattle.def_meaning.specs.Joined.{conditions_true, part_value, rows_at}
use Rattle.def_meaning.specs.Meaning.{Grouped, agg_value, entries, expr_value, group_item, grouped_entries, groups, in_order, key_of, meaning, not_null, plain_entries, plain_item}
use Rattle.def_restrictions.specs.Definition.{condition_column, item_columns}
use Rattle.def_rewriting.specs.Compatible.{linked, own_conditions}
use Rattle.def_rewriting.specs.PlanRows.{general_rows, placed, plan_groups}
use Rattle.def_rewriting.specs.Reaching.{Place, is_declared, item_place, layout, source_of, plain_columns, stands_at, view_layout}
use Rattle.def_rewriting.specs.Rollup.{Origin, counts_all, item_is_agg, origin}
use Rattle.law_lists.proofs.Each.{Each-both, Each-from_all, Each-map}
use Rattle.law_lists.proofs.Counts.{SameCounts-map}
use Rattle.law_lists.proofs.Groups.{Stands, groups_full}
use Rattle.law_lists.proofs.Columns.{position_value}
use Rattle.law_rewrite.specs.Words.{Each}
use Rattle.law_rewrite.proofs.Answering.{Each-parts, Full, Served, ServedAll, Sourced}
use Rattle.law_rewrite.proofs.Fresh.{group_row, rows_answer, view_stands}
use Rattle.law_rewrite.proofs.Projecting.{agg_has}
use Rattle.law_rewrite.proofs.Sourcing.{HasAggs, Kind, One, ServedBy, SureAgg, agg_one, kind_of, serves_of}
use Rattle.law_rewrite.proofs.Theorem.{groups_in, no_columns, of_key}
use Rattle.law_rewrite.proofs.Envs.{Env, env_value, joined_envs}
use Rattle.law_rewrite.proofs.Finding.{with_rows}
use Rattle.law_rewrite.proofs.Cells.{Cells, found_column, source_gives}
use Rattle.law_rewrite.proofs.Joining.{Alone, ByLevel, Common, Fact, Step, StepsFine, TupleFact, backs_of, joins_of, may_be_number}
use Rattle.law_rewrite.proofs.Staging.{Outcome, State, reached, run}
use Rattle.law_rewrite.proofs.Starting.{group_cells, start_fact, start_layout, tuple_facts}
use Rattle.law_rewrite.proofs.Whole.{KindsFine, Plan, ProductFine, Stand, all_rows, all_rows_are, finish, one, own_columns, reads_all, tuples_end, ts, view_rows, view_rows_are}

-- what a plan over an aggregate view rests on
pub record AggPlan (defs : List TableDef) (q v : StarQuery) (base : Base) : Type 0 where
  pub q_grouped : q.grouped ≡ true
  pub v_grouped : v.grouped ≡ true
  pub no_having : v.having ≡ []
  pub selected : Each (λ d. has_column v.keys d ≡ true) (flat_map plain_columns v.items)
  pub computable : list_all (λ a. is_some (origin defs (linked q v) v a)) (query_aggs q) ≡ true
  pub kinds : Each (KindsFine (rows_at base)) (query_aggs q)

-- no group is empty, where there are group columns
abbrev pub Nonempty : List ColRef → Grouped Env → Type 0
Nonempty [] g = Unit {0}
Nonempty (c ∷ cs) g = is_empty g.1 ≡ false

pub product_sure : (x y : Value) → not_null x ≡ true → not_null y ≡ true → may_be_number x ≡ true → may_be_number y ≡ true → not_null (product_value x y) ≡ true
product_sure (Num m) (Num n) h k l o = refl
product_sure Null y h k l o = cc
product_sure (Num m) Null h k l o = cc
product_sure x y h k l o = grind arith

module _ (defs : List TableDef) (q v : StarQuery) (base : Base) (steps : List Step) (plan : Plan defs q v base steps) (agg : AggPlan defs q v base) where
  abbrev rows : ℕ → List RowAt
  rows = rows_at base

  abbrev pub first : Grouped Env → List Value
  first = group_row env_value v

  abbrev pub Kept : Grouped Env → Type 0
  Kept = Nonempty v.keys

  abbrev pub S : List ℕ
  S = reached v.tables steps

  start : State defs q v base plan.related.tree_q plan.related.tree_v first Kept v.tables [] (λ r. r) (λ t. t) (groups env_value v.keys (ts defs q v base steps plan)) (view_rows defs q v base steps plan) (ts defs q v base steps plan)
  start = record {
    stands = subst (λ rs. Stands first (groups env_value v.keys (ts defs q v base steps plan)) rs (ts defs q v base steps plan)) (sym (view_rows_are defs q v base steps plan))
        (view_stands env_value v (ts defs q v base steps plan) agg.v_grouped agg.no_having);
    longer = λ r. ([], sym (append-nil r));
    fine = start_layout defs q v base plan.related plan.own_v;
    cells =
        Each-map (λ g. Each (TupleFact defs q v base) g.1 × Each (λ t. key_of env_value v.keys t ≡ g.0) g.1) (λ g. Each (λ t. Fact defs q v base v.tables t t × Cells (layout q v []) (first g) (env_value t)) g.1)
        (λ g h. Each-map (λ t. TupleFact defs q v base t × (key_of env_value v.keys t ≡ g.0)) (λ t. Fact defs q v base v.tables t t × Cells (layout q v []) (first g) (env_value t))
        (λ t k. (start_fact defs q v base plan.related t k.0, group_cells defs q v base plan.related g t k.1 agg.selected)) g.1
        (Each-both (TupleFact defs q v base) (λ t. key_of env_value v.keys t ≡ g.0) g.1 h.0 h.1))
        (groups env_value v.keys (ts defs q v base steps plan))
        (Each-both (λ g. Each (TupleFact defs q v base) g.1) (λ g. Each (λ t. key_of env_value v.keys t ≡ g.0) g.1) (groups env_value v.keys (ts defs q v base steps plan))
        (groups_in (TupleFact defs q v base) env_value v.keys (ts defs q v base steps plan) (tuple_facts defs q v base plan.related)) (of_key env_value v.keys (ts defs q v base steps plan)));
    facts = Each-map (TupleFact defs q v base) (λ t. Fact defs q v base v.tables t t) (start_fact defs q v base plan.related) (ts defs q v base steps plan) (tuple_facts defs q v base plan.related);
    kept = full v.keys;
  }
    where
      full : (keys : List ColRef) → Each (Nonempty keys) (groups env_value keys (ts defs q v base steps plan))
      full [] = (tt, tt)
      full (c ∷ cs) = groups_full (key_of env_value (c ∷ cs)) (ts defs q v base steps plan)

  pub o : Outcome defs q v base plan.related.tree_q plan.related.tree_v first Kept S (backs_of defs steps) (all_rows defs q v base steps plan) (λ r. times (λ t. option_case (with_rows rows (joins_of steps) t) false r) (ts defs q v base steps plan))
  o =
      subst (λ rs. Outcome defs q v base plan.related.tree_q plan.related.tree_v first Kept S (backs_of defs steps) rs (λ r. times (λ t. option_case (with_rows rows (joins_of steps) t) false r) (ts defs q v base steps plan)))
      (sym (all_rows_are defs q v base steps plan))
      (run defs q v base plan.related.tree_q plan.related.tree_v first Kept steps v.tables [] (λ r. r) (λ t. t) (groups env_value v.keys (ts defs q v base steps plan)) (view_rows defs q v base steps plan) (ts defs q v base steps plan) plan.steps_fine start)

  abbrev pub value : Env → ColRef → Value
  value t = env_value (o.fin t)

  abbrev pub row : Grouped Env → List Value
  row g = o.ext (first g)

  abbrev pub value' : List Value → ColRef → Value
  value' = placed (layout q v (backs_of defs steps))

  abbrev pub Fact_t : Env → Type 0
  Fact_t t = Fact defs q v base S (o.fin t) t

  -- columns of the view's tables are as they were
  pub as_before : (t : Env) → Fact_t t → (c : ColRef) → has_number v.tables c.table ≡ true → env_value t c ≡ value t c
  as_before t fact c h = λ i. part_value (sym (fact.same c.table h) i) c.part

  -- ---- the aggregates of a row

  at_row : (g : Grouped Env) → Each Fact_t g.1 → HasAggs value (linked q v) v defs (row g) g
  at_row g facts a n e =
      let within : n < length v.items = (position-Some (item_is_agg (linked q v) a) v.items n (item.Agg CountAll) e).0 in
      let longer : (more : List Value) × (row g ≡ first g ++ more) = o.state.longer (first g) in
      let low : n < length (first g) = subst (λ m. n < m) (sym (length-map v.items (group_item env_value v.keys g))) within in
      ap (λ r. value_at r n) longer.1
      ∙ unwrap_or-slice_get (first g ++ longer.0) n Null
      ∙ get_or_append_left (first g) longer.0 Null n low
      ∙ sym (unwrap_or-slice_get (first g) n Null)
      ∙ position_value (item_is_agg (linked q v) a) (group_item env_value v.keys g) (agg_value value g.1 a) v.items
      (Each-map (λ i. Each (λ c. has_number v.tables c.table ≡ true) (item_columns i)) (λ i. item_is_agg (linked q v) a i ≡ true → group_item env_value v.keys g i ≡ agg_value value g.1 a) each v.items
      (Each-parts (λ c. has_number v.tables c.table ≡ true) item_columns v.items plan.own_v)) n e
    where
      each : (i : Item) → Each (λ c. has_number v.tables c.table ≡ true) (item_columns i) → item_is_agg (linked q v) a i ≡ true → group_item env_value v.keys g i ≡ agg_value value g.1 a
      each (item.Col c) h k = cc
      each (item.Agg b) h k =
          agg_has env_value value (λ t. t) b g.1
          (Each-map Fact_t (λ t. Each (λ c. env_value t c ≡ value t c) (agg_columns b)) (λ t fact. Each-map (λ c. has_number v.tables c.table ≡ true) (λ c. env_value t c ≡ value t c) (as_before t fact) (agg_columns b) h) g.1 facts)
          ∙ ap (λ us. agg_value value us b) (map-id g.1)
          ∙ sym (agg_one value (linked q v) a b k g.1 (Each-map Fact_t (One value (linked q v)) (one defs q v base steps plan first Kept o) g.1 facts))

  -- what COUNT(*) counts for COUNT(e) isn't NULL
  sure_one : (e : Expr) → ProductFine rows e → counts_all defs v e ≡ true → (t : Env) → Fact_t t → not_null (expr_value (value t) e) ≡ true
  sure_one (expr.Col c) kinds h t fact =
      let both : ((has_number v.tables c.table && never_null defs c) ≡ true) × (true ≡ true) = and_parts (has_number v.tables c.table && never_null defs c) true h in
      let own : (has_number v.tables c.table ≡ true) × (never_null defs c ≡ true) = and_parts (has_number v.tables c.table) (never_null defs c) both.0 in
      ap not_null (sym (as_before t fact c own.0)) ∙ fact.tuple.sure c own.0 own.1
  sure_one (expr.Product a b) kinds h t fact =
      let two : ((has_number v.tables a.table && never_null defs a) ≡ true) × (((has_number v.tables b.table && never_null defs b) && true) ≡ true)
      = and_parts (has_number v.tables a.table && never_null defs a) ((has_number v.tables b.table && never_null defs b) && true) h in
      let at_a : (has_number v.tables a.table ≡ true) × (never_null defs a ≡ true) = and_parts (has_number v.tables a.table) (never_null defs a) two.0 in
      let at_b : (has_number v.tables b.table ≡ true) × (never_null defs b ≡ true) = and_parts (has_number v.tables b.table) (never_null defs b) (and_parts (has_number v.tables b.table && never_null defs b) true two.1).0 in
      (λ i. not_null (product_value (sym (as_before t fact a at_a.0) i) (sym (as_before t fact b at_b.0) i)))
      ∙ product_sure (env_value t a) (env_value t b) (fact.tuple.sure a at_a.0 at_a.1) (fact.tuple.sure b at_b.0 at_b.1) (fact.tuple.numbers a at_a.0 kinds.0) (fact.tuple.numbers b at_b.0 kinds.1)
  sure_one (expr.Lit n) kinds h t fact = refl

  sure_agg : (a : Agg) → KindsFine rows a → (g : Grouped Env) → Each Fact_t g.1 → SureAgg value (linked q v) v defs a g.1
  sure_agg CountAll kinds g facts = tt
  sure_agg (Count e) kinds g facts = λ h. Each-map Fact_t (λ t. not_null (expr_value (value t) e) ≡ true) (sure_one e kinds h) g.1 facts
  sure_agg (Sum e) kinds g facts = tt
  sure_agg (Avg e) kinds g facts = tt
  sure_agg (Min e) kinds g facts = tt
  sure_agg (Max e) kinds g facts = tt

  pub facts_of : Each (λ g. Each Fact_t g.1) o.gs
  facts_of =
      Each-map (λ g. Each (λ t. Fact_t t × Cells (layout q v (backs_of defs steps)) (row g) (value t)) g.1) (λ g. Each Fact_t g.1)
      (λ g. Each-map (λ t. Fact_t t × Cells (layout q v (backs_of defs steps)) (row g) (value t)) Fact_t (λ t h. h.0) g.1) o.gs o.state.cells

  kinds_by : (x : Option Origin) (a : Agg) → Kind value (linked q v) v defs x a → Sourced value row value' defs q v x a
  kinds_by None a h = h
  kinds_by (Some x) a h = h

  served_by : (x : Option Origin) (a : Agg) (g : Grouped Env) → ServedBy value (linked q v) v defs (row g) x a g → Served value row value' defs q v x a g
  served_by None a g h = h
  served_by (Some x) a g h = h

  pub sourced_all : Each (λ a. Sourced value row value' defs q v (origin defs (linked q v) v a) a) (query_aggs q)
  sourced_all =
      Each-map (λ a. is_some (origin defs (linked q v) v a) ≡ true) (λ a. Sourced value row value' defs q v (origin defs (linked q v) v a) a)
      (λ a h. kinds_by (origin defs (linked q v) v a) a (kind_of value (linked q v) v defs a h)) (query_aggs q)
      (Each-from_all (λ a. is_some (origin defs (linked q v) v a)) (query_aggs q) agg.computable)

  pub served_all : Each (ServedAll value row value' defs q v) o.gs
  served_all =
      Each-map (λ g. Each Fact_t g.1) (ServedAll value row value' defs q v)
      (λ g facts. Each-map (λ a. (is_some (origin defs (linked q v) v a) ≡ true) × KindsFine rows a) (λ a. Served value row value' defs q v (origin defs (linked q v) v a) a g)
      (λ a h. served_by (origin defs (linked q v) v a) a g (serves_of value (linked q v) v defs g (row g) (at_row g facts) a (sure_agg a h.1 g facts) h.0)) (query_aggs q)
      (Each-both (λ a. is_some (origin defs (linked q v) v a) ≡ true) (KindsFine rows) (query_aggs q)
      (Each-from_all (λ a. is_some (origin defs (linked q v) v a)) (query_aggs q) agg.computable) agg.kinds))
      o.gs facts_of

  -- ---- a view without group columns makes nothing available

  no_place : Each (λ d. has_column [] d ≡ true) (flat_map plain_columns v.items) → Each (λ (p : Place). p.column ≡ None) (view_layout v)
  no_place h = each v.items h
    where
      each : (is : List Item) → Each (λ d. has_column [] d ≡ true) (flat_map plain_columns is) → Each (λ (p : Place). p.column ≡ None) (map (item_place v) is)
      each [] h = tt
      each (item.Col c ∷ is) h = absurd (let e : false ≡ true = h.0 in cc)
      each (item.Agg a ∷ is) h = (refl, each is h)

  no_source : (c s : ColRef) → Each (λ d. has_column [] d ≡ true) (flat_map plain_columns v.items) → source_of q v [] c ≡ Some s → ⊥
  no_source c s none h = by (is_declared c.part) h
    where
      none_some : (x : Place) → x.column ≡ None → x.column ≡ Some s → ⊥
      none_some x h k = absurd (let f : false ≡ true = ap (λ (o : Option ColRef). is_some o) (sym h ∙ k) in cc)

      none_in : (places : List Place) → Each (λ (p : Place). p.column ≡ None) places → found_column (stands_at c) places ≡ Some s → ⊥
      none_in places k e =
          let found : (x : Place) × ((x.column ≡ None) × (stands_at c x ≡ true) × (x.column ≡ Some s)) = source_gives (stands_at c) (λ p. p.column ≡ None) places s k e in
          none_some found.0 found.1.0 found.1.2

      by : (b : Bool) → found_column (stands_at c) (cond b (layout q v []) (view_layout v)) ≡ Some s → ⊥
      by true e = none_in (layout q v []) (subst (Each (λ (p : Place). p.column ≡ None)) (sym (append-nil (view_layout v))) (no_place none)) e
      by false e = none_in (view_layout v) (no_place none) e

  no_stand : (xs : List Step) → StepsFine defs q v base v.tables [] xs → (c : ColRef) → Each (λ d. has_column [] d ≡ true) (flat_map plain_columns v.items) → Stand (layout q v (backs_of defs xs)) c → ⊥
  no_stand [] fine c none h =
      absurd (let e : list_any (stands_at c) (view_layout v) ≡ false = no_columns v c v.items none in let f : list_any (stands_at c) (view_layout v) ≡ true = ap (list_any (stands_at c)) (sym (append-nil (view_layout v))) ∙ h in cc)
  no_stand (Alone d s ∷ xs) fine c none h = no_source d.from s none fine.0.source
  no_stand (Common k s ∷ xs) fine c none h = no_source k s none fine.0.source
  no_stand (ByLevel d l s ∷ xs) fine c none h = no_source l.column s none fine.0.source

  pub full_by : (vkeys qkeys : List ColRef) → Each (λ d. has_column vkeys d ≡ true) (flat_map plain_columns v.items) → Each (Stand (layout q v (backs_of defs steps))) qkeys → Each (Nonempty vkeys) o.gs → Full qkeys o.gs
  full_by vkeys [] h k l = tt
  full_by [] (c ∷ cs) h k l = absurd (no_stand steps plan.steps_fine c h k.0)
  full_by (d ∷ ds) (c ∷ cs) h k l = l

  -- **the theorem**
  pub agg_plan : in_order q.order (general_rows defs q v (layout q v (backs_of defs steps)) (all_rows defs q v base steps plan)) ≡ meaning q base
  agg_plan =
      finish defs q v base steps plan
      (λ p. ap (λ b. times p (cond b (plan_groups defs q v value' (filter (λ r. conditions_true (value' r) (own_conditions q v)) (all_rows defs q v base steps plan)))
      (map (λ r. map (plain_item (value' r)) q.items) (filter (λ r. conditions_true (value' r) (own_conditions q v)) (all_rows defs q v base steps plan))))) agg.q_grouped
      ∙ rows_answer value v row defs q value' o.gs (all_rows defs q v base steps plan) o.us agg.v_grouped sourced_all served_all
      (full_by v.keys q.keys agg.selected plan.keys o.state.kept)
      (reads_all defs q v base steps plan first Kept o q.keys plan.own_keys plan.keys)
      (reads_all defs q v base steps plan first Kept o (map condition_column (own_conditions q v)) (own_columns defs q v base steps plan first Kept o) plan.conditions)
      o.state.stands p
      ∙ ap (λ b. times p (map (λ e. e.row) (cond b (grouped_entries value q (filter own_t o.us)) (plain_entries value q (filter own_t o.us))))) (sym agg.q_grouped)
      ∙ SameCounts-map (λ e. e.row) (entries value q (filter own_t o.us)) (entries env_value q (joined_envs q rows)) (tuples_end defs q v base steps plan first Kept o) p)
    where
      own_t : Env → Bool
      own_t t = conditions_true (value t) (own_conditions q v)
