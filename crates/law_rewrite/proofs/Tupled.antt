-- A plan over a join view.
use Rattle.std.proofs.Common.{◌≡◌, ◌∙◌, sym, ap, subst, refl, ℕ, Bool, true, false, cond, List, [], ◌∷◌, ◌++◌, map}
use Rattle.std.specs.List.{filter, flat_map}
use Rattle.std.proofs.lemmas.List.{append-nil}
use Rattle.std.proofs.lemmas.Simd.{map-map}
use Rattle.wh_base.specs.Lists.{has_number, option_case, sorted_by}
use Rattle.wh_base.specs.Tables.{Base}
use Rattle.wh_base.proofs.Sorting.{SameCounts, times, sorted_counts}
use Rattle.wh_base.specs.declared.columns.ColRef.{ColRef}
use Rattle.wh_base.specs.declared.queries.StarQuery.{StarQuery}
use Rattle.wh_base.specs.declared.tables.RowAt.{RowAt}
use Rattle.wh_base.specs.declared.tables.TableDef.{TableDef}
use Rattle.wh_base.specs.declared.values.Value.{Value}
use Rattle.def_meaning.specs.Joined.{conditions_true, empty_row, rows_at}
use Rattle.def_meaning.specs.Meaning.{Grouped, entries, entry_cmp, grouped_entries, in_order, meaning, plain_entries, plain_item}
use Rattle.def_restrictions.specs.Definition.{condition_column}
use Rattle.def_rewriting.specs.Compatible.{own_conditions}
use Rattle.def_rewriting.specs.PlanRows.{general_rows, placed}
use Rattle.def_rewriting.specs.Reaching.{layout}
use Rattle.law_lists.proofs.Each.{Each-both, filter_same, Each-filter, Each-map, Each-of, Each-of_map}
use Rattle.law_lists.proofs.Counts.{SameCounts-filter, SameCounts-is, SameCounts-map, SameCounts-trans}
use Rattle.law_lists.proofs.Lists.{filter-map}
use Rattle.law_rewrite.specs.Words.{Each}
use Rattle.law_rewrite.proofs.Fresh.{conditions_read}
use Rattle.law_rewrite.proofs.Projecting.{entries_has}
use Rattle.law_rewrite.proofs.Entries.{entries_same}
use Rattle.law_rewrite.proofs.Envs.{Env, env_value, joined_envs}
use Rattle.law_rewrite.proofs.Finding.{with_rows}
use Rattle.law_rewrite.proofs.Cells.{Cells}
use Rattle.law_rewrite.proofs.Joining.{Fact, Step, TupleFact, backs_of, joins_of}
use Rattle.law_rewrite.proofs.Staging.{Outcome, State, reached, run}
use Rattle.law_rewrite.proofs.Starting.{start_fact, start_layout, tuple_cells, tuple_facts}
use Rattle.law_rewrite.proofs.Whole.{Plan, Stand, all_rows, all_rows_are, finish, own_columns, reads_all, reads_of, tuples_end, ts, view_rows, view_rows_are}
use Rattle.law_rewrite.proofs.JoinView.{rows_plain}

-- a group for each tuple
abbrev one_group : Env → Grouped Env
one_group t = ([], t ∷ [])

abbrev head_row : StarQuery → List Env → List Value
head_row v [] = []
head_row v (t ∷ us) = map (plain_item (env_value t)) v.items

abbrev head_env : List Env → Env
head_env [] = λ n. empty_row
head_env (t ∷ us) = t

abbrev IsOne : Grouped Env → Type 0
IsOne g = (t : Env) × (g ≡ one_group t)

module _ (defs : List TableDef) (q v : StarQuery) (base : Base) (steps : List Step) (plan : Plan defs q v base steps) (plain : v.grouped ≡ false)
    (read : Each (Stand (layout q v (backs_of defs steps))) (reads_of q)) where
  abbrev rows : ℕ → List RowAt
  rows = rows_at base

  abbrev first : Grouped Env → List Value
  first g = head_row v g.1

  abbrev S : List ℕ
  S = reached v.tables steps

  abbrev us0 : List Env
  us0 = ts defs q v base steps plan

  flat_ones : (us : List Env) → flat_map (λ g. g.1) (map one_group us) ≡ us
  flat_ones [] = refl
  flat_ones (t ∷ us) = ap (λ xs. t ∷ xs) (flat_ones us)

  start : State defs q v base plan.related.tree_q plan.related.tree_v first IsOne v.tables [] (λ r. r) (λ t. t) (map one_group us0) (view_rows defs q v base steps plan) us0
  start = record {
    stands = record {
      rows_are = λ p. ap (times p) (view_rows_are defs q v base steps plan)
          ∙ SameCounts-map (λ e. e.row) (sorted_by entry_cmp (entries env_value v us0)) (entries env_value v us0) (sorted_counts entry_cmp (entries env_value v us0)) p
          ∙ ap (λ b. times p (map (λ e. e.row) (cond b (grouped_entries env_value v us0) (plain_entries env_value v us0)))) plain
          ∙ ap (times p) (map-map (λ e. e.row) (λ t. record { key = []; row = map (plain_item (env_value t)) v.items }) us0)
          ∙ ap (times p) (sym (map-map first one_group us0));
      tuples_are = SameCounts-is (flat_map (λ g. g.1) (map one_group us0)) us0 (flat_ones us0);
    };
    longer = λ r. ([], sym (append-nil r));
    fine = start_layout defs q v base plan.related plan.own_v;
    cells = Each-of_map (λ g. Each (λ t. Fact defs q v base v.tables t t × Cells (layout q v []) (first g) (env_value t)) g.1) one_group us0
        (Each-map (TupleFact defs q v base) (λ t. Each (λ u. Fact defs q v base v.tables u u × Cells (layout q v []) (first (one_group t)) (env_value u)) (t ∷ []))
        (λ t h. ((start_fact defs q v base plan.related t h, tuple_cells defs q v base plan.related t), tt)) us0 (tuple_facts defs q v base plan.related));
    facts = Each-map (TupleFact defs q v base) (λ t. Fact defs q v base v.tables t t) (start_fact defs q v base plan.related) us0 (tuple_facts defs q v base plan.related);
    kept = Each-of_map IsOne one_group us0 (Each-of (λ t. IsOne (one_group t)) (λ t. (t, refl)) us0);
  }

  o : Outcome defs q v base plan.related.tree_q plan.related.tree_v first IsOne S (backs_of defs steps) (all_rows defs q v base steps plan) (λ r. times (λ t. option_case (with_rows rows (joins_of steps) t) false r) us0)
  o =
      subst (λ rs. Outcome defs q v base plan.related.tree_q plan.related.tree_v first IsOne S (backs_of defs steps) rs (λ r. times (λ t. option_case (with_rows rows (joins_of steps) t) false r) us0))
      (sym (all_rows_are defs q v base steps plan))
      (run defs q v base plan.related.tree_q plan.related.tree_v first IsOne steps v.tables [] (λ r. r) (λ t. t) (map one_group us0) (view_rows defs q v base steps plan) us0 plan.steps_fine start)

  abbrev value : Env → ColRef → Value
  value t = env_value (o.fin t)

  abbrev row : Grouped Env → List Value
  row g = o.ext (first g)

  abbrev value' : List Value → ColRef → Value
  value' = placed (layout q v (backs_of defs steps))

  abbrev value_g : Grouped Env → ColRef → Value
  value_g g = value (head_env g.1)

  abbrev own_t : Env → Bool
  own_t t = conditions_true (value t) (own_conditions q v)

  abbrev own_r : List Value → Bool
  own_r r = conditions_true (value' r) (own_conditions q v)

  -- a group's row is read as its one tuple
  heads_read : (columns : List ColRef) → Each (λ c. has_number q.tables c.table ≡ true) columns → Each (Stand (layout q v (backs_of defs steps))) columns
      → Each (λ g. Each (λ c. value_g g c ≡ value' (row g) c) columns) o.gs
  heads_read columns h k =
      Each-map (λ g. IsOne g × Each (λ t. Each (λ c. value t c ≡ value' (row g) c) columns) g.1) (λ g. Each (λ c. value_g g c ≡ value' (row g) c) columns)
      (λ g l. subst (λ x. Each (λ t. Each (λ c. value t c ≡ value' (row x) c) columns) x.1 → Each (λ c. value_g x c ≡ value' (row x) c) columns) (sym l.0.1) (λ m. m.0) l.1) o.gs
      (Each-both IsOne (λ g. Each (λ t. Each (λ c. value t c ≡ value' (row g) c) columns) g.1) o.gs o.state.kept (reads_all defs q v base steps plan first IsOne o columns h k))

  heads_are : (gs : List (Grouped Env)) → Each IsOne gs → map (λ g. head_env g.1) gs ≡ flat_map (λ g. g.1) gs
  heads_are [] h = refl
  heads_are (g ∷ gs) h = subst (λ x. head_env x.1 ∷ map (λ y. head_env y.1) gs ≡ x.1 ++ flat_map (λ y. y.1) gs) (sym h.0.1) (ap (λ xs. h.0.0 ∷ xs) (heads_are gs h.1))

  own_same : filter (λ g. own_r (row g)) o.gs ≡ filter (λ g. own_t (head_env g.1)) o.gs
  own_same =
      sym (filter_same (λ g. own_t (head_env g.1)) (λ g. own_r (row g)) o.gs
      (Each-map (λ g. Each (λ c. value_g g c ≡ value' (row g) c) (map condition_column (own_conditions q v))) (λ g. own_t (head_env g.1) ≡ own_r (row g))
      (λ g h. conditions_read (value_g g) (value' (row g)) (own_conditions q v) h) o.gs
      (heads_read (map condition_column (own_conditions q v)) (own_columns defs q v base steps plan first IsOne o) plan.conditions)))

  entries_end : SameCounts (entries value' q (filter own_r (all_rows defs q v base steps plan))) (entries value q (filter own_t o.us))
  entries_end =
      SameCounts-trans (entries value' q (filter own_r (all_rows defs q v base steps plan))) (entries value' q (filter own_r (map row o.gs))) (entries value q (filter own_t o.us))
      (entries_same value' q (filter own_r (all_rows defs q v base steps plan)) (filter own_r (map row o.gs)) (SameCounts-filter own_r (all_rows defs q v base steps plan) (map row o.gs) o.state.stands.rows_are))
      (SameCounts-trans (entries value' q (filter own_r (map row o.gs))) (entries value q (filter own_t (map (λ g. head_env g.1) o.gs))) (entries value q (filter own_t o.us))
      (SameCounts-is (entries value' q (filter own_r (map row o.gs))) (entries value q (filter own_t (map (λ g. head_env g.1) o.gs))) same)
      (entries_same value q (filter own_t (map (λ g. head_env g.1) o.gs)) (filter own_t o.us)
      (SameCounts-filter own_t (map (λ g. head_env g.1) o.gs) o.us
      (SameCounts-trans (map (λ g. head_env g.1) o.gs) (flat_map (λ g. g.1) o.gs) o.us (SameCounts-is (map (λ g. head_env g.1) o.gs) (flat_map (λ g. g.1) o.gs) (heads_are o.gs o.state.kept)) o.state.stands.tuples_are))))
    where
      same : entries value' q (filter own_r (map row o.gs)) ≡ entries value q (filter own_t (map (λ g. head_env g.1) o.gs))
      same =
          ap (entries value' q) (filter-map own_r row o.gs)
          ∙ sym (entries_has value_g value' row q (filter (λ g. own_r (row g)) o.gs)
          (Each-filter (λ g. Each (λ c. value_g g c ≡ value' (row g) c) q.keys) (λ g. own_r (row g)) o.gs (heads_read q.keys plan.own_keys plan.keys))
          (Each-filter (λ g. Each (λ c. value_g g c ≡ value' (row g) c) (reads_of q)) (λ g. own_r (row g)) o.gs (heads_read (reads_of q) plan.own_reads read)))
          ∙ entries_has value_g value (λ g. head_env g.1) q (filter (λ g. own_r (row g)) o.gs)
          (Each-of (λ g. Each (λ c. value_g g c ≡ value (head_env g.1) c) q.keys) (λ g. Each-of (λ c. value_g g c ≡ value (head_env g.1) c) (λ c. refl) q.keys) (filter (λ g. own_r (row g)) o.gs))
          (Each-of (λ g. Each (λ c. value_g g c ≡ value (head_env g.1) c) (reads_of q)) (λ g. Each-of (λ c. value_g g c ≡ value (head_env g.1) c) (λ c. refl) (reads_of q)) (filter (λ g. own_r (row g)) o.gs))
          ∙ ap (λ gs. entries value q (map (λ g. head_env g.1) gs)) own_same
          ∙ ap (entries value q) (sym (filter-map own_t (λ g. head_env g.1) o.gs))

  -- **the theorem**
  pub join_plan : in_order q.order (general_rows defs q v (layout q v (backs_of defs steps)) (all_rows defs q v base steps plan)) ≡ meaning q base
  join_plan =
      finish defs q v base steps plan
      (λ p. ap (times p) (rows_plain defs q v value' plain (filter own_r (all_rows defs q v base steps plan)))
      ∙ SameCounts-map (λ e. e.row) (entries value' q (filter own_r (all_rows defs q v base steps plan))) (entries value q (filter own_t o.us)) entries_end p
      ∙ SameCounts-map (λ e. e.row) (entries value q (filter own_t o.us)) (entries env_value q (joined_envs q rows)) (tuples_end defs q v base steps plan first IsOne o) p)
