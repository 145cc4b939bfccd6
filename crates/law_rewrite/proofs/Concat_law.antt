-- The plan of a view that is stale in part, in the words of eligibility.
use Rattle.std.proofs.Common.{◌≡◌, ◌∙◌, sym, ap, refl, ℕ, Bool, true, false, cond, not, List, [], ◌∷◌, ◌++◌, map, None}
use Rattle.std.specs.Prelude.{◌&&◌, ◌||◌, ◌==◌, is_some}
use Rattle.std.specs.List.{filter, list_all, list_any}
use Rattle.std.proofs.lemmas.List.{append-nil}
use Rattle.std.proofs.lemmas.Simd.{map-map}
use Rattle.std.proofs.lemmas.Bool.{and_parts}
use Rattle.std.proofs.Math.Bool.{not-not}
use Rattle.wh_base.specs.Columns.{agg_columns}
use Rattle.wh_base.specs.Lists.{has_number, is_empty}
use Rattle.wh_base.specs.Tables.{Base}
use Rattle.wh_base.proofs.Sorting.{SameCounts}
use Rattle.wh_base.specs.declared.columns.Agg.{Agg}
use Rattle.wh_base.specs.declared.columns.ColRef.{ColRef}
use Rattle.wh_base.specs.declared.queries.Item.{Item}
use Rattle.wh_base.specs.declared.queries.Item.TheVariants as item
use Rattle.wh_base.specs.declared.queries.StarQuery.{StarQuery}
use Rattle.wh_base.specs.declared.tables.TableDef.{TableDef}
use Rattle.wh_base.specs.declared.values.Value.{Value}
use Rattle.def_meaning.specs.Accumulated.{query_aggs}
use Rattle.def_meaning.specs.Joined.{column_value, conditions_true, joined, rows_at}
use Rattle.def_meaning.specs.Meaning.{agg_value, in_order, key_of, meaning, stored}
use Rattle.def_rewriting.specs.Compatible.{linked, own_conditions}
use Rattle.def_rewriting.specs.PlanRows.{extended_rows, placed}
use Rattle.def_rewriting.specs.Reaching.{Place, layout, stands_at, view_layout}
use Rattle.def_rewriting.specs.Rollup.{origin}
use Rattle.law_lists.proofs.Each.{map_alike, Each-of}
use Rattle.law_lists.proofs.Lists.{no_elements, filter-map}
use Rattle.law_lists.proofs.Counts.{SameCounts-is, SameCounts-sym}
use Rattle.law_lists.proofs.Groups.{same_made}
use Rattle.law_rewrite.specs.Words.{Each}
use Rattle.law_rewrite.proofs.Projecting.{agg_has}
use Rattle.law_rewrite.proofs.Theorem.{same_rows_in_order}
use Rattle.law_rewrite.proofs.Envs.{env_value, joined_envs}
use Rattle.law_rewrite.proofs.Joining.{Step, backs_of}
use Rattle.law_rewrite.proofs.Staging.{reached}
use Rattle.law_rewrite.proofs.Whole.{KindsFine, Plan, Stand, all_rows, ts}
use Rattle.wh_base.specs.Values.{interval_has}
use Rattle.wh_base.specs.declared.columns.ColPart.TheVariants.{Col}
use Rattle.wh_base.specs.declared.values.Interval.{Interval}
use Rattle.def_rewriting.specs.Concat as plan_rows
use Rattle.def_rewriting.specs.Concat.{both_sides}
use Rattle.law_rewrite.proofs.Pieces.{concat_agg, concat_groups, concat_item, concat_rows, concat_test, pieces_of}
use Rattle.law_rewrite.proofs.Sources.{sources_are, tuples_within}
use Rattle.law_rewrite.specs.Outside.{is_outside}
use Rattle.wh_base.specs.declared.statements.Level.{Level}
use Rattle.wh_base.specs.Values.{is_true_that, same_values}
use Rattle.wh_base.specs.Lists.{distinct}
use Rattle.def_dimensions.specs.Dimensions.{Dimension}
use Rattle.def_dimensions.specs.Relations.{dimension_holds}
use Rattle.def_restrictions.specs.Definition.{selects_column}
use Rattle.def_rewriting.specs.Compatible.{compatible, may_rely}
use Rattle.def_rewriting.specs.Reaching.{reach}
use Rattle.def_rewriting.specs.Rollup.{computable}
use Rattle.def_rewriting.specs.PlanRows.{plan_agg}
use Rattle.def_meaning.specs.Joined.{row_of}
use Rattle.law_rewrite.specs.Fine.{RowsFine, StarFine}
use Rattle.law_rewrite.proofs.Answering.{all_alike}
use Rattle.law_rewrite.proofs.Envs.{joined_are}
use Rattle.law_rewrite.proofs.Reached.{selected_stands}
use Rattle.law_rewrite.proofs.Assembled.{all_steps, plan}
use Rattle.law_rewrite.proofs.Concatenated.{concat_plan}
use Rattle.law_rewrite.proofs.Aggregated.{AggPlan}

-- ---- things that have the same values give the same rows

module _ {T U : Type 0} (value : T → ColRef → Value) (value_u : U → ColRef → Value) (f : T → U) (same : (t : T) (c : ColRef) → value_u (f t) c ≡ value t c) (defs : List TableDef) (q v : StarQuery) (read : List Value → ColRef → Value) (rows : List (List Value)) where
  key_same : (keys : List ColRef) (t : T) → key_of value_u keys (f t) ≡ key_of value keys t
  key_same keys t = map_alike (value_u (f t)) (value t) keys (Each-of (λ c. value_u (f t) c ≡ value t c) (same t) keys)

  agg_same_of : (a : Agg) (ts : List T) → agg_value value_u (map f ts) a ≡ agg_value value ts a
  agg_same_of a ts = sym (agg_has value value_u f a ts (Each-of (λ t. Each (λ c. value t c ≡ value_u (f t) c) (agg_columns a)) (λ t. Each-of (λ c. value t c ≡ value_u (f t) c) (λ c. sym (same t c)) (agg_columns a)) ts))

  abbrev AggSame : List Value → List (List Value) → List T → Agg → Type 0
  AggSame k rs ts a = concat_agg defs q v read value_u (k, (rs, map f ts)) a ≡ concat_agg defs q v read value (k, (rs, ts)) a

  aggs_same : (k : List Value) (rs : List (List Value)) (ts : List T) (a : Agg) → AggSame k rs ts a
  aggs_same k rs ts a = ap (λ x. both_sides a (plan_agg defs q v read rs a) x) (agg_same_of a ts)

  tests_same : (k : List Value) (rs : List (List Value)) (ts : List T) → list_all (concat_test defs q v read value_u (k, (rs, map f ts))) q.having ≡ list_all (concat_test defs q v read value (k, (rs, ts))) q.having
  tests_same k rs ts =
      all_alike (concat_test defs q v read value_u (k, (rs, map f ts))) (concat_test defs q v read value (k, (rs, ts))) q.having
      (Each-of (λ t. concat_test defs q v read value_u (k, (rs, map f ts)) t ≡ concat_test defs q v read value (k, (rs, ts)) t) (λ t. ap (λ x. is_true_that x t.op t.value) (aggs_same k rs ts t.agg)) q.having)

  items_same : (k : List Value) (rs : List (List Value)) (ts : List T) → map (concat_item defs q v read value_u (k, (rs, map f ts))) q.items ≡ map (concat_item defs q v read value (k, (rs, ts))) q.items
  items_same k rs ts =
      map_alike (concat_item defs q v read value_u (k, (rs, map f ts))) (concat_item defs q v read value (k, (rs, ts))) q.items
      (Each-of (λ i. concat_item defs q v read value_u (k, (rs, map f ts)) i ≡ concat_item defs q v read value (k, (rs, ts)) i) one q.items)
    where
      one : (i : Item) → concat_item defs q v read value_u (k, (rs, map f ts)) i ≡ concat_item defs q v read value (k, (rs, ts)) i
      one (item.Col c) = refl
      one (item.Agg a) = aggs_same k rs ts a

  part_same : (keys : List ColRef) (ts : List T) (k : List Value) → filter (λ u. same_values (key_of value_u keys u) k) (map f ts) ≡ map f (filter (λ t. same_values (key_of value keys t) k) ts)
  part_same keys ts k = filter-map (λ u. same_values (key_of value_u keys u) k) f ts ∙ ap (map f) (λ i. filter (λ t. same_values (key_same keys t i) k) ts)

  groups_same : (keys : List ColRef) (ts : List T)
      → SameCounts (map (λ g. map (concat_item defs q v read value_u g) q.items) (filter (λ g. list_all (concat_test defs q v read value_u g) q.having) (concat_groups read value_u keys rows (map f ts))))
      (map (λ g. map (concat_item defs q v read value g) q.items) (filter (λ g. list_all (concat_test defs q v read value g) q.having) (concat_groups read value keys rows ts)))
  groups_same [] ts =
      SameCounts-is (map (λ g. map (concat_item defs q v read value_u g) q.items) (filter (λ g. list_all (concat_test defs q v read value_u g) q.having) (([], (rows, map f ts)) ∷ [])))
      (map (λ g. map (concat_item defs q v read value g) q.items) (filter (λ g. list_all (concat_test defs q v read value g) q.having) (([], (rows, ts)) ∷ [])))
      ((λ i. map (λ g. map (concat_item defs q v read value_u g) q.items) (cond (tests_same [] rows ts i) (([], (rows, map f ts)) ∷ []) [])) ∙ by (list_all (concat_test defs q v read value ([], (rows, ts))) q.having))
    where
      by : (b : Bool) → map (λ g. map (concat_item defs q v read value_u g) q.items) (cond b (([], (rows, map f ts)) ∷ []) []) ≡ map (λ g. map (concat_item defs q v read value g) q.items) (cond b (([], (rows, ts)) ∷ []) [])
      by true = λ i. items_same [] rows ts i ∷ []
      by false = refl
  groups_same (c ∷ cs) ts =
      same_made (pieces_of read value_u (c ∷ cs) rows (map f ts)) (pieces_of read value (c ∷ cs) rows ts)
      (λ g. list_all (concat_test defs q v read value_u g) q.having) (λ g. list_all (concat_test defs q v read value g) q.having)
      (λ g. map (concat_item defs q v read value_u g) q.items) (λ g. map (concat_item defs q v read value g) q.items)
      (λ k. ap (λ us. list_all (concat_test defs q v read value_u (k, (part k, us))) q.having) (part_same (c ∷ cs) ts k) ∙ tests_same k (part k) (filter (λ t. same_values (key_of value (c ∷ cs) t) k) ts))
      (λ k. ap (λ us. map (concat_item defs q v read value_u (k, (part k, us))) q.items) (part_same (c ∷ cs) ts k) ∙ items_same k (part k) (filter (λ t. same_values (key_of value (c ∷ cs) t) k) ts))
      (distinct same_values (map (key_of read (c ∷ cs)) rows ++ map (key_of value_u (c ∷ cs)) (map f ts))) (distinct same_values (map (key_of read (c ∷ cs)) rows ++ map (key_of value (c ∷ cs)) ts))
      (SameCounts-is (distinct same_values (map (key_of read (c ∷ cs)) rows ++ map (key_of value_u (c ∷ cs)) (map f ts))) (distinct same_values (map (key_of read (c ∷ cs)) rows ++ map (key_of value (c ∷ cs)) ts))
      (ap (λ ks. distinct same_values (map (key_of read (c ∷ cs)) rows ++ ks)) (map-map (key_of value_u (c ∷ cs)) f ts ∙ (λ i. map (λ t. key_same (c ∷ cs) t i) ts))))
    where
      part : List Value → List (List Value)
      part k = filter (λ r. same_values (key_of read (c ∷ cs) r) k) rows

-- ---- the law

module _ (defs : List TableDef) (q v : StarQuery) (then now : Base) (n k : ℕ) (is : List Interval) (steps : List Step) (plan : Plan defs q v then steps) (agg : AggPlan defs q v then) (none : backs_of defs steps ≡ [])
    (selected : selects_column v (record { table = n; part = Col k }) ≡ true) (ours : has_number q.tables n ≡ true)
    (others : Each (λ m. (m == n) ≡ false → rows_at then m ≡ rows_at now m) q.tables) (own : filter (is_outside k is) (rows_at then n) ≡ filter (is_outside k is) (rows_at now n)) where
  abbrev key : ColRef
  key = record { table = n; part = Col k }

  places_are : layout q v (backs_of defs steps) ≡ view_layout v
  places_are = ap (layout q v) none ∙ append-nil (view_layout v)

  stand : Stand (layout q v (backs_of defs steps)) (record { table = n; part = Col k })
  stand = ap (list_any (stands_at key)) places_are ∙ selected_stands v key v.items selected

  rows_are : all_rows defs q v then steps plan ≡ map (λ e. e.row) (stored v then)
  rows_are = ap (λ bs. extended_rows then v bs (stored v then)) none

  abbrev taken : List Place → List (List Value) → List (List Value)
  taken ps rs = filter (λ r. conditions_true (placed ps r) (own_conditions q v)) (filter (λ r. not (list_any (λ i. interval_has i (placed ps r key)) is)) rs)

  tuples_are : map (row_of q.tables) (tuples_within q (record { table = n; part = Col k }) is now) ≡ filter (λ e. not (is_outside k is (e n))) (joined_envs q (rows_at now))
  tuples_are =
      ap (map (row_of q.tables)) (λ i. filter (λ t. sym (not-not (list_any (λ j. interval_has j (column_value q.tables t key)) is)) i) (joined q now))
      ∙ sym (filter-map (λ e. not (is_outside k is (e n))) (row_of q.tables) (joined q now))
      ∙ ap (filter (λ e. not (is_outside k is (e n)))) (joined_are q (rows_at now))

  read_mean : in_order q.order (concat_rows defs q v (placed (layout q v (backs_of defs steps))) (column_value q.tables) (taken (layout q v (backs_of defs steps)) (all_rows defs q v then steps plan)) (tuples_within q key is now)) ≡ meaning q now
  read_mean =
      same_rows_in_order q.order (concat_rows defs q v read (column_value q.tables) (taken (layout q v (backs_of defs steps)) (all_rows defs q v then steps plan)) (tuples_within q key is now))
      (concat_rows defs q v read env_value (taken (layout q v (backs_of defs steps)) (all_rows defs q v then steps plan)) (map (row_of q.tables) (tuples_within q key is now)))
      (SameCounts-sym (concat_rows defs q v read env_value (taken (layout q v (backs_of defs steps)) (all_rows defs q v then steps plan)) (map (row_of q.tables) (tuples_within q key is now)))
      (concat_rows defs q v read (column_value q.tables) (taken (layout q v (backs_of defs steps)) (all_rows defs q v then steps plan)) (tuples_within q key is now))
      (groups_same (column_value q.tables) env_value (row_of q.tables) (λ t c. refl) defs q v read (taken (layout q v (backs_of defs steps)) (all_rows defs q v then steps plan)) q.keys (tuples_within q key is now)))
      ∙ ap (λ us. in_order q.order (concat_rows defs q v read env_value (taken (layout q v (backs_of defs steps)) (all_rows defs q v then steps plan)) us)) tuples_are
      ∙ concat_plan defs q v then steps plan agg n k is (rows_at now) ours stand others own
    where
      read : List Value → ColRef → Value
      read = placed (layout q v (backs_of defs steps))

  pub plan_means : in_order q.order (plan_rows.concat_rows defs now q v (record { table = n; part = Col k }) is (stored v then)) ≡ meaning q now
  plan_means =
      ap (in_order q.order) (sources_are defs q v agg.v_grouped now (record { table = n; part = Col k }) is (stored v then))
      ∙ (λ i. in_order q.order (concat_rows defs q v (placed (sym places_are i)) (column_value q.tables) (taken (sym places_are i) (sym rows_are i)) (tuples_within q key is now)))
      ∙ read_mean

no_steps : (defs : List TableDef) (steps : List Step) → backs_of defs steps ≡ [] → steps ≡ []
no_steps defs [] h = refl
no_steps defs (s ∷ steps) h = cc

-- where nothing is joined back the query's tables are the view's
pub tables_within : (defs : List TableDef) (dims : List Dimension) (level : Level) (q v : StarQuery) (base : Base)
    → StarFine defs q → StarFine defs v → RowsFine defs v.tables (may_rely level) (rows_at base) → (may_rely level ≡ true → Each (λ d. dimension_holds base d ≡ true) dims)
    → compatible defs level q v ≡ None → (reach defs dims level q v).failed ≡ None → (reach defs dims level q v).back ≡ []
    → (m : ℕ) → has_number q.tables m ≡ true → has_number v.tables m ≡ true
tables_within defs dims level q v base fine_q fine_v rows_fine relies passes reaches nothing m h =
    sym (ap (λ ss. has_number (reached v.tables ss) m)
    (no_steps defs (all_steps defs dims q v base fine_q fine_v level rows_fine relies passes reaches).steps (sym ((all_steps defs dims q v base fine_q fine_v level rows_fine relies passes reaches).backs_of_steps) ∙ nothing)))
    ∙ (plan defs dims q v base fine_q fine_v level rows_fine relies passes reaches).all m h

pub concat_means : (defs : List TableDef) (dims : List Dimension) (level : Level) (q v : StarQuery) (then now : Base) (n k : ℕ) (is : List Interval)
    → StarFine defs q → StarFine defs v → RowsFine defs v.tables (may_rely level) (rows_at then) → (may_rely level ≡ true → Each (λ d. dimension_holds then d ≡ true) dims)
    → Each (KindsFine (rows_at then)) (query_aggs q)
    → compatible defs level q v ≡ None → (reach defs dims level q v).failed ≡ None → (reach defs dims level q v).back ≡ [] → computable defs q v ≡ true
    → v.grouped ≡ true → selects_column v (record { table = n; part = Col k }) ≡ true → has_number q.tables n ≡ true
    → Each (λ m. (m == n) ≡ false → rows_at then m ≡ rows_at now m) q.tables → filter (is_outside k is) (rows_at then n) ≡ filter (is_outside k is) (rows_at now n)
    → in_order q.order (plan_rows.concat_rows defs now q v (record { table = n; part = Col k }) is (stored v then)) ≡ meaning q now
concat_means defs dims level q v then now n k is fine_q fine_v rows_fine relies kinds passes reaches nothing seven grouped selected ours others own =
    plan_means defs q v then now n k is (all_steps defs dims q v then fine_q fine_v level rows_fine relies passes reaches).steps (plan defs dims q v then fine_q fine_v level rows_fine relies passes reaches)
    (agg (and_parts (is_empty v.having) (not v.grouped || (q.grouped && list_all (λ a. is_some (origin defs (linked q v) v a)) (query_aggs q))) seven))
    (sym ((all_steps defs dims q v then fine_q fine_v level rows_fine relies passes reaches).backs_of_steps) ∙ nothing) selected ours others own
  where
    agg : (is_empty v.having ≡ true) × ((not v.grouped || (q.grouped && list_all (λ a. is_some (origin defs (linked q v) v a)) (query_aggs q))) ≡ true) → AggPlan defs q v then
    agg h =
        let both : (q.grouped ≡ true) × (list_all (λ a. is_some (origin defs (linked q v) v a)) (query_aggs q) ≡ true)
        = and_parts q.grouped (list_all (λ a. is_some (origin defs (linked q v) v a)) (query_aggs q)) (sym (ap (λ b. not b || (q.grouped && list_all (λ a. is_some (origin defs (linked q v) v a)) (query_aggs q))) grouped) ∙ h.1) in
        record { q_grouped = both.0; v_grouped = grouped; no_having = no_elements v.having h.0; selected = fine_v.selected grouped; computable = both.1; kinds = kinds }
