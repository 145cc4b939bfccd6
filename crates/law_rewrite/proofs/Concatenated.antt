-- **A plan that takes a view's rows outside of what is stale, and the tuples within it, gives the query's meaning.**
use Rattle.std.proofs.Common.{◌≡◌, ◌∙◌, sym, ap, subst, refl, arith, ℕ, ◌+◌, Bool, true, false, cond, not, List, [], ◌∷◌, ◌++◌, map, Option, Some, None}
use Rattle.std.specs.Prelude.{◌&&◌, ◌==◌, is_some}
use Rattle.std.specs.List.{filter, flat_map, list_all, list_any}
use Rattle.wh_base.specs.Columns.{agg_columns}
use Rattle.wh_base.specs.Lists.{has_number, is_empty, option_case}
use Rattle.wh_base.specs.Tables.{Base}
use Rattle.wh_base.proofs.Sorting.{SameCounts, times, sorted_counts}
use Rattle.wh_base.specs.declared.columns.Agg.{Agg}
use Rattle.wh_base.specs.declared.columns.Agg.TheVariants.{Avg, Count, CountAll, Max, Min, Sum}
use Rattle.wh_base.specs.declared.columns.ColRef.{ColRef}
use Rattle.wh_base.specs.declared.columns.Expr.{Expr}
use Rattle.wh_base.specs.declared.queries.Item.{Item}
use Rattle.wh_base.specs.declared.queries.Item.TheVariants as item
use Rattle.wh_base.specs.declared.queries.StarQuery.{StarQuery}
use Rattle.wh_base.specs.declared.tables.RowAt.{RowAt}
use Rattle.wh_base.specs.declared.tables.TableDef.{TableDef}
use Rattle.wh_base.specs.declared.values.Value.{Value}
use Rattle.wh_base.specs.declared.values.Value.TheVariants.{Null}
use Rattle.wh_base.specs.declared.views.ViewEntry.{ViewEntry}
use Rattle.def_meaning.specs.Accumulated.{query_aggs}
use Rattle.def_meaning.specs.Joined.{column_value, conditions_true, empty_row, rows_at}
use Rattle.def_meaning.specs.Meaning.{Grouped, entries, entry_cmp, expr_value, group_item, grouped_entries, groups, in_order, not_null, plain_entries}
use Rattle.def_restrictions.specs.Definition.{condition_column, item_columns}
use Rattle.def_rewriting.specs.Compatible.{linked, own_conditions}
use Rattle.def_rewriting.specs.Reaching.{layout}
use Rattle.def_rewriting.specs.Rollup.{Origin, origin}
use Rattle.law_lists.proofs.Each.{Each-both, Each-from_all, map_alike, Each-filter, Each-map, Each-of, Each-of_map, Each-passes}
use Rattle.law_lists.proofs.Lists.{filter-filter}
use Rattle.law_lists.proofs.Numbers.{differs_turned}
use Rattle.law_lists.proofs.Counts.{one_if, times-append, SameCounts-is, SameCounts-map, SameCounts-trans, times-filter, times-map, times_agree}
use Rattle.law_lists.proofs.Groups.{Agree, Stands-filter, Stands}
use Rattle.law_lists.proofs.Booleans.{and_swap}
use Rattle.law_lists.proofs.Aggregates.{wanted_values}
use Rattle.law_rewrite.specs.Words.{Each}
use Rattle.law_rewrite.proofs.Answering.{Each-parts, Full, Reads, Served, ServedAll, Sourced}
use Rattle.law_rewrite.proofs.Fresh.{conditions_read}
use Rattle.law_rewrite.proofs.Projecting.{agg_has}
use Rattle.law_rewrite.proofs.Sourcing.{Kind, kind_of}
use Rattle.law_rewrite.proofs.Theorem.{same_rows_in_order}
use Rattle.law_rewrite.proofs.Envs.{Env, entries_are, env_true, env_value, envs, joined_envs, put}
use Rattle.law_rewrite.proofs.Joins.{listed_differs}
use Rattle.law_rewrite.proofs.Forgetting.{Free}
use Rattle.law_rewrite.proofs.Finding.{times-filter_map, with_rows}
use Rattle.law_rewrite.proofs.Tuples.{alone, extra_tables, tuples_law}
use Rattle.law_rewrite.proofs.Joining.{Step, backs_of}
use Rattle.law_rewrite.proofs.Whole.{Plan, Stand, all_rows, own_columns, reads_all, ts}
use Rattle.std.proofs.lemmas.List.{map-append}
use Rattle.std.proofs.lemmas.Simd.{map-map}
use Rattle.std.proofs.lemmas.Bool.{and_parts, not-true}
use Rattle.wh_base.specs.Values.{interval_has}
use Rattle.wh_base.specs.declared.columns.ColPart.TheVariants.{Col}
use Rattle.wh_base.specs.declared.values.Interval.{Interval}
use Rattle.def_meaning.specs.Meaning.{group_entry, meaning_over, stored_over, test_true, values_of}
use Rattle.def_meaning.specs.Joined.{joined_over}
use Rattle.law_rewrite.proofs.Pieces.{concat_rows}
use Rattle.law_rewrite.specs.Outside.{is_outside}
use Rattle.law_rewrite.proofs.Rolling.{Serves}
use Rattle.law_rewrite.proofs.Joins.{distinct_tables}
use Rattle.law_rewrite.proofs.Still.{still_counts}
use Rattle.law_rewrite.proofs.Concatenating.{concat_answers}
use Rattle.law_rewrite.proofs.Aggregated.{AggPlan, Fact_t, Kept, as_before, facts_of, first, full_by, o, row, served_all, value, value'}
use Rattle.law_rewrite.proofs.Whole.{kept_rows, kept_same}

flat_mapped : (f : Env → Env) (gs : List (Grouped Env)) → flat_map (λ (g : Grouped Env). g.1) (map (λ (g : Grouped Env). (g.0, map f g.1)) gs) ≡ map f (flat_map (λ (g : Grouped Env). g.1) gs)
flat_mapped f [] = refl
flat_mapped f (g ∷ gs) = ap (λ xs. map f g.1 ++ xs) (flat_mapped f gs) ∙ sym (map-append f g.1 (flat_map (λ x. x.1) gs))

-- the values that an aggregate ranges over, of things that have the same values
wanted_mapped : (f : Env → Env) (a : Agg) (us : List Env) → wanted_values (λ t. env_value (f t)) a us ≡ wanted_values env_value a (map f us)
wanted_mapped f CountAll us = sym (map-map (λ t. Null) f us)
wanted_mapped f (Count e) us = values_mapped e us
  where
    values_mapped : (e : Expr) (us : List Env) → values_of (λ t. env_value (f t)) e us ≡ values_of env_value e (map f us)
    values_mapped e us = ap (filter not_null) (sym (map-map (λ t. expr_value (env_value t) e) f us))
wanted_mapped f (Sum e) us = ap (filter not_null) (sym (map-map (λ t. expr_value (env_value t) e) f us))
wanted_mapped f (Avg e) us = ap (filter not_null) (sym (map-map (λ t. expr_value (env_value t) e) f us))
wanted_mapped f (Min e) us = ap (filter not_null) (sym (map-map (λ t. expr_value (env_value t) e) f us))
wanted_mapped f (Max e) us = ap (filter not_null) (sym (map-map (λ t. expr_value (env_value t) e) f us))

module _ (defs : List TableDef) (q v : StarQuery) (base : Base) (steps : List Step) (plan : Plan defs q v base steps) (agg : AggPlan defs q v base) where
  abbrev rows : ℕ → List RowAt
  rows = rows_at base

  abbrev fin : Env → Env
  fin = (o defs q v base steps plan agg).fin

  abbrev gs0 : List (Grouped Env)
  gs0 = (o defs q v base steps plan agg).gs

  abbrev us0 : List Env
  us0 = (o defs q v base steps plan agg).us

  abbrev row_of_group : Grouped Env → List Value
  row_of_group = row defs q v base steps plan agg

  abbrev read : List Value → ColRef → Value
  read = value' defs q v base steps plan agg

  abbrev moved : Grouped Env → Grouped Env
  moved g = (g.0, map fin g.1)

  -- a group's row is that of the group with what was found
  row_same : (g : Grouped Env) → Each (Fact_t defs q v base steps plan agg) g.1 → row_of_group (moved g) ≡ row_of_group g
  row_same g facts =
      ap ((o defs q v base steps plan agg).ext)
      (map_alike (group_item env_value v.keys (moved g)) (group_item env_value v.keys g) v.items
      (Each-map (λ i. Each (λ c. has_number v.tables c.table ≡ true) (item_columns i)) (λ i. group_item env_value v.keys (moved g) i ≡ group_item env_value v.keys g i) each v.items
      (Each-parts (λ c. has_number v.tables c.table ≡ true) item_columns v.items plan.own_v)))
    where
      each : (i : Item) → Each (λ c. has_number v.tables c.table ≡ true) (item_columns i) → group_item env_value v.keys (moved g) i ≡ group_item env_value v.keys g i
      each (item.Col c) h = refl
      each (item.Agg b) h =
          sym (agg_has env_value env_value fin b g.1
          (Each-map (Fact_t defs q v base steps plan agg) (λ t. Each (λ c. env_value t c ≡ env_value (fin t) c) (agg_columns b))
          (λ t fact. Each-map (λ c. has_number v.tables c.table ≡ true) (λ c. env_value t c ≡ env_value (fin t) c) (as_before defs q v base steps plan agg t fact) (agg_columns b) h) g.1 facts))

  facts : Each (λ g. Each (Fact_t defs q v base steps plan agg) g.1) gs0
  facts = facts_of defs q v base steps plan agg

  rows_same : (gs : List (Grouped Env)) → Each (λ g. Each (Fact_t defs q v base steps plan agg) g.1) gs → map row_of_group (map moved gs) ≡ map row_of_group gs
  rows_same [] h = refl
  rows_same (g ∷ gs) h = λ i. row_same g h.0 i ∷ rows_same gs h.1 i

  stands : Stands row_of_group (map moved gs0) (all_rows defs q v base steps plan) (map fin us0)
  stands = record {
    rows_are = λ p. (o defs q v base steps plan agg).state.stands.rows_are p ∙ ap (times p) (sym (rows_same gs0 facts));
    tuples_are = SameCounts-trans (flat_map (λ g. g.1) (map moved gs0)) (map fin (flat_map (λ g. g.1) gs0)) (map fin us0)
        (SameCounts-is (flat_map (λ g. g.1) (map moved gs0)) (map fin (flat_map (λ g. g.1) gs0)) (flat_mapped fin gs0))
        (SameCounts-map fin (flat_map (λ g. g.1) gs0) us0 (o defs q v base steps plan agg).state.stands.tuples_are);
  }

  -- what is so of the groups with what was found
  sourced : Each (λ a. Sourced env_value row_of_group read defs q v (origin defs (linked q v) v a) a) (query_aggs q)
  sourced =
      Each-map (λ a. is_some (origin defs (linked q v) v a) ≡ true) (λ a. Sourced env_value row_of_group read defs q v (origin defs (linked q v) v a) a)
      (λ a h. by (origin defs (linked q v) v a) a (kind_of env_value (linked q v) v defs a h)) (query_aggs q)
      (Each-from_all (λ a. is_some (origin defs (linked q v) v a)) (query_aggs q) agg.computable)
    where
      by : (x : Option Origin) (a : Agg) → Kind env_value (linked q v) v defs x a → Sourced env_value row_of_group read defs q v x a
      by None a h = h
      by (Some x) a h = h

  served : Each (ServedAll env_value row_of_group read defs q v) (map moved gs0)
  served =
      Each-of_map (ServedAll env_value row_of_group read defs q v) moved gs0
      (Each-map (λ g. ServedAll (value defs q v base steps plan agg) row_of_group read defs q v g × Each (Fact_t defs q v base steps plan agg) g.1) (λ g. ServedAll env_value row_of_group read defs q v (moved g))
      (λ g h. Each-map (λ a. Served (value defs q v base steps plan agg) row_of_group read defs q v (origin defs (linked q v) v a) a g) (λ a. Served env_value row_of_group read defs q v (origin defs (linked q v) v a) a (moved g))
      (λ a k. by (origin defs (linked q v) v a) a g h.1 k) (query_aggs q) h.0) gs0
      (Each-both (ServedAll (value defs q v base steps plan agg) row_of_group read defs q v) (λ g. Each (Fact_t defs q v base steps plan agg) g.1) gs0 (served_all defs q v base steps plan agg) facts))
    where
      by : (x : Option Origin) (a : Agg) (g : Grouped Env) → Each (Fact_t defs q v base steps plan agg) g.1 → Served (value defs q v base steps plan agg) row_of_group read defs q v x a g → Served env_value row_of_group read defs q v x a (moved g)
      by None a g h k = k
      by (Some x) a g h k = subst (λ r. Serves x r (wanted_values env_value a (map fin g.1))) (sym (row_same g h)) (subst (Serves x (row_of_group g)) (wanted_mapped fin a g.1) k)

  reads_moved : (columns : List ColRef) → Each (λ c. has_number q.tables c.table ≡ true) columns → Each (Stand (layout q v (backs_of defs steps))) columns → Reads env_value row_of_group read columns (map moved gs0)
  reads_moved columns h k =
      Each-of_map (λ g. Each (λ t. Each (λ c. env_value t c ≡ read (row_of_group g) c) columns) g.1) moved gs0
      (Each-map (λ g. Each (λ t. Each (λ c. env_value (fin t) c ≡ read (row_of_group g) c) columns) g.1 × Each (Fact_t defs q v base steps plan agg) g.1) (λ g. Each (λ t. Each (λ c. env_value t c ≡ read (row_of_group (moved g)) c) columns) (map fin g.1))
      (λ g l. subst (λ r. Each (λ t. Each (λ c. env_value t c ≡ read r c) columns) (map fin g.1)) (sym (row_same g l.1)) (Each-of_map (λ t. Each (λ c. env_value t c ≡ read (row_of_group g) c) columns) fin g.1 l.0)) gs0
      (Each-both (λ g. Each (λ t. Each (λ c. env_value (fin t) c ≡ read (row_of_group g) c) columns) g.1) (λ g. Each (Fact_t defs q v base steps plan agg) g.1) gs0
      (reads_all defs q v base steps plan (first defs q v base steps plan agg) (Kept defs q v base steps plan agg) (o defs q v base steps plan agg) columns h k) facts))

  full : (keys : List ColRef) → Full keys gs0 → Full keys (map moved gs0)
  full [] h = tt
  full (c ∷ cs) h = Each-of_map (λ g. is_empty g.1 ≡ false) moved gs0 (Each-map (λ g. is_empty g.1 ≡ false) (λ g. is_empty (map fin g.1) ≡ false) (λ g k. by g.1 k) gs0 h)
    where
      by : (us : List Env) → is_empty us ≡ false → is_empty (map fin us) ≡ false
      by [] k = k
      by (t ∷ us) k = refl

  -- ---- the view's rows outside of some intervals, and the tuples within

  module _ (n k : ℕ) (is : List Interval) (later : ℕ → List RowAt) (ours : has_number q.tables n ≡ true) (stand : Stand (layout q v (backs_of defs steps)) (record { table = n; part = Col k }))
      (others : Each (λ m. (m == n) ≡ false → rows m ≡ later m) q.tables) (own_rows : filter (is_outside k is) (rows n) ≡ filter (is_outside k is) (later n)) where
    abbrev out : Env → Bool
    out e = is_outside k is (e n)

    abbrev out_row : List Value → Bool
    out_row r = not (list_any (λ i. interval_has i (read r (record { table = n; part = Col k }))) is)

    abbrev own_e : Env → Bool
    own_e e = conditions_true (env_value e) (own_conditions q v)

    abbrev own_r : List Value → Bool
    own_r r = conditions_true (read r) (own_conditions q v)

    -- the view's rows that are taken, and the tuples that are
    abbrev pub taken_rows : List (List Value)
    taken_rows = filter own_r (filter out_row (all_rows defs q v base steps plan))

    abbrev pub within_tuples : List Env
    within_tuples = filter (λ e. not (out e)) (joined_envs q later)

    abbrev gs1 : List (Grouped Env)
    gs1 = filter (λ g. out_row (row_of_group g)) (map moved gs0)

    abbrev gs2 : List (Grouped Env)
    gs2 = filter (λ g. own_r (row_of_group g)) gs1

    abbrev us2 : List Env
    us2 = filter own_e (filter out (map fin us0))

    out_agree : Each (Agree row_of_group out out_row) (map moved gs0)
    out_agree =
        Each-map (λ g. Each (λ t. Each (λ c. env_value t c ≡ read (row_of_group g) c) (record { table = n; part = Col k } ∷ [])) g.1) (Agree row_of_group out out_row)
        (λ g. Each-map (λ t. Each (λ c. env_value t c ≡ read (row_of_group g) c) (record { table = n; part = Col k } ∷ [])) (λ t. out t ≡ out_row (row_of_group g))
        (λ t h. ap (λ w. not (list_any (λ i. interval_has i w) is)) h.0) g.1) (map moved gs0)
        (reads_moved (record { table = n; part = Col k } ∷ []) (ours, tt) (stand, tt))

    own_agree : Each (Agree row_of_group own_e own_r) gs1
    own_agree =
        Each-filter (Agree row_of_group own_e own_r) (λ g. out_row (row_of_group g)) (map moved gs0)
        (Each-map (λ g. Each (λ t. Each (λ c. env_value t c ≡ read (row_of_group g) c) (map condition_column (own_conditions q v))) g.1) (Agree row_of_group own_e own_r)
        (λ g. Each-map (λ t. Each (λ c. env_value t c ≡ read (row_of_group g) c) (map condition_column (own_conditions q v))) (λ t. own_e t ≡ own_r (row_of_group g))
        (λ t h. conditions_read (env_value t) (read (row_of_group g)) (own_conditions q v) h) g.1) (map moved gs0)
        (reads_moved (map condition_column (own_conditions q v))
        (own_columns defs q v base steps plan (first defs q v base steps plan agg) (Kept defs q v base steps plan agg) (o defs q v base steps plan agg)) plan.conditions))

    stands2 : Stands row_of_group gs2 taken_rows us2
    stands2 =
        Stands-filter row_of_group own_e own_r gs1 (filter out_row (all_rows defs q v base steps plan)) (filter out (map fin us0)) own_agree
        (Stands-filter row_of_group out out_row (map moved gs0) (all_rows defs q v base steps plan) (map fin us0) out_agree stands)

    twice : (P : Grouped Env → Type 0) → Each P (map moved gs0) → Each P gs2
    twice P h = Each-filter P (λ g. own_r (row_of_group g)) gs1 (Each-filter P (λ g. out_row (row_of_group g)) (map moved gs0) h)

    full2 : (keys : List ColRef) → Full keys (map moved gs0) → Full keys gs2
    full2 [] h = tt
    full2 (c ∷ cs) h = twice (λ g. is_empty g.1 ≡ false) h

    -- the tuples of both are the query's
    free : (r : Env → Bool) → Each (Free (λ e. r (kept_rows q e))) (extra_tables defs q v rows plan.related)
    free r =
        Each-map (λ m. not (has_number q.tables m) ≡ true) (Free (λ e. r (kept_rows q e))) (λ m h s e. ap r (λ i j. by m (not-true (has_number q.tables m) h) s e j (has_number q.tables j) refl i)) (extra_tables defs q v rows plan.related)
        (Each-passes (λ m. not (has_number q.tables m)) (map (λ e. e.to.table) v.edges))
      where
        by : (m : ℕ) → has_number q.tables m ≡ false → (s : RowAt) (e : Env) (j : ℕ) (b : Bool) → has_number q.tables j ≡ b → cond b (put m s e j) empty_row ≡ cond b (e j) empty_row
        by m h s e j true l = ap (λ b. cond b s (e j)) (differs_turned j m (listed_differs q.tables j m l h))
        by m h s e j false l = refl

    out_kept : (e : Env) → out (kept_rows q e) ≡ out e
    out_kept e = ap (λ b. is_outside k is (cond b (e n) empty_row)) ours

    two_parts : (r : Env → Bool) (es : List Env) → times (λ e. out e && r e) es + times (λ e. not (out e) && r e) es ≡ times r es
    two_parts r [] = omega arith
    two_parts r (e ∷ es) = omega (arith, two_parts r es, one (out e) (r e))
      where
        one : (a b : Bool) → one_if (a && b) + one_if (not a && b) ≡ one_if b
        one true true = omega arith
        one true false = omega arith
        one false true = omega arith
        one false false = omega arith

    outside_counts : (r : Env → Bool) → times (λ e. r (kept_rows q e)) us2 ≡ times (λ e. out e && r (kept_rows q e)) (joined_envs q later)
    outside_counts r =
        times-filter own_e (λ e. r (kept_rows q e)) (filter out (map fin us0))
        ∙ times-filter out (λ e. own_e e && r (kept_rows q e)) (map fin us0)
        ∙ times-map fin (λ e. out e && (own_e e && r (kept_rows q e))) us0
        ∙ times_agree (λ t. out (fin t) && (own_e (fin t) && r (kept_rows q (fin t)))) (λ t. own_e (fin t) && (out (kept_rows q (fin t)) && r (kept_rows q (fin t))))
        (λ t. and_swap (out (fin t)) (own_e (fin t)) (r (kept_rows q (fin t))) ∙ ap (λ b. own_e (fin t) && (b && r (kept_rows q (fin t)))) (sym (out_kept (fin t)))) us0
        ∙ (o defs q v base steps plan agg).tuples (λ e. own_e e && (out (kept_rows q e) && r (kept_rows q e)))
        ∙ ap (λ ds. times (λ t. option_case (with_rows rows ds t) false (λ e. own_e e && (out (kept_rows q e) && r (kept_rows q e)))) (ts defs q v base steps plan)) plan.joins
        ∙ sym (times-filter_map (λ e. own_e e && (out (kept_rows q e) && r (kept_rows q e))) (with_rows rows (alone defs q v rows plan.related)) (ts defs q v base steps plan))
        ∙ tuples_law defs q v rows plan.related (λ e. out (kept_rows q e) && r (kept_rows q e)) (free (λ e. out e && r e))
        ∙ times_agree (λ e. out (kept_rows q e) && r (kept_rows q e)) (λ e. out e && r (kept_rows q e)) (λ e. ap (λ b. b && r (kept_rows q e)) (out_kept e)) (joined_envs q rows)
        ∙ sym (times-filter out (λ e. r (kept_rows q e)) (joined_envs q rows))
        ∙ ap (times (λ e. r (kept_rows q e))) (filter-filter out (env_true q) (envs rows q.tables))
        ∙ still_counts n (is_outside k is) (λ e. env_true q e && out e) rows later q.tables (distinct_tables defs q plan.related.tree_q) others own_rows (passing rows) (passing later) (λ e. r (kept_rows q e))
        ∙ ap (times (λ e. r (kept_rows q e))) (sym (filter-filter out (env_true q) (envs later q.tables)))
        ∙ times-filter out (λ e. r (kept_rows q e)) (joined_envs q later)
      where
        passing : (rs : ℕ → List RowAt) → Each (λ e. (env_true q e && out e) ≡ true → out e ≡ true) (envs rs q.tables)
        passing rs = Each-of (λ e. (env_true q e && out e) ≡ true → out e ≡ true) (λ e h. (and_parts (env_true q e) (out e) h).1) (envs rs q.tables)

    counts : SameCounts (map (kept_rows q) (us2 ++ within_tuples)) (map (kept_rows q) (joined_envs q later))
    counts r =
        times-map (kept_rows q) r (us2 ++ within_tuples)
        ∙ times-append (λ e. r (kept_rows q e)) us2 within_tuples
        ∙ (λ i. outside_counts r i + times-filter (λ e. not (out e)) (λ e. r (kept_rows q e)) (joined_envs q later) i)
        ∙ two_parts (λ e. r (kept_rows q e)) (joined_envs q later)
        ∙ sym (times-map (kept_rows q) r (joined_envs q later))

    -- **the theorem**: the view's rows outside of the intervals together with the tuples within are the query
    pub concat_plan : in_order q.order (concat_rows defs q v read env_value taken_rows within_tuples) ≡ meaning_over q later
    concat_plan =
        same_rows_in_order q.order (concat_rows defs q v read env_value taken_rows within_tuples) (map (λ e. e.row) (stored_over q later))
        (λ p. concat_answers env_value row_of_group read defs q v agg.v_grouped sourced within_tuples q.keys gs2 taken_rows us2
        (twice (ServedAll env_value row_of_group read defs q v) served)
        (full2 q.keys (full q.keys (full_by defs q v base steps plan agg v.keys q.keys agg.selected plan.keys (o defs q v base steps plan agg).state.kept)))
        (twice (λ g. Each (λ t. Each (λ c. env_value t c ≡ read (row_of_group g) c) q.keys) g.1) (reads_moved q.keys plan.own_keys plan.keys)) stands2 p
        ∙ ap (times p) (sym (map-map (λ e. e.row) (group_entry env_value q) (filter (λ g. list_all (test_true env_value g) q.having) (groups env_value q.keys (us2 ++ within_tuples)))))
        ∙ ap (λ b. times p (map (λ e. e.row) (cond b (grouped_entries env_value q (us2 ++ within_tuples)) (plain_entries env_value q (us2 ++ within_tuples))))) (sym agg.q_grouped)
        ∙ SameCounts-map (λ e. e.row) (entries env_value q (us2 ++ within_tuples)) (entries env_value q (joined_envs q later)) (kept_same q (us2 ++ within_tuples) (joined_envs q later) plan.own_keys plan.own_reads counts) p
        ∙ ap (λ es. times p (map (λ (e : ViewEntry). e.row) es)) (sym (entries_are q q later))
        ∙ sym (SameCounts-map (λ e. e.row) (stored_over q later) (entries (column_value q.tables) q (joined_over q later)) (sorted_counts entry_cmp (entries (column_value q.tables) q (joined_over q later))) p))
