-- **A plan over a view, with what is joined back by keys, gives the query's rows.**
use Rattle.std.proofs.Common.{◌≡◌, ◌∙◌, sym, ap, refl, ℕ, Bool, true, false, cond, not, List, [], ◌++◌, map}
use Rattle.std.specs.Prelude.{◌&&◌}
use Rattle.std.specs.List.{filter, flat_map, list_any}
use Rattle.std.proofs.lemmas.List.{append-nil}
use Rattle.std.proofs.lemmas.Bool.{not-true}
use Rattle.wh_base.specs.Columns.{agg_columns}
use Rattle.wh_base.specs.Lists.{has_number, option_case, sorted_by}
use Rattle.wh_base.specs.Tables.{Base}
use Rattle.wh_base.proofs.Sorting.{SameCounts, times, sorted_counts}
use Rattle.wh_base.specs.declared.columns.ColRef.{ColRef}
use Rattle.wh_base.specs.declared.queries.StarQuery.{StarQuery}
use Rattle.wh_base.specs.declared.tables.RowAt.{RowAt}
use Rattle.wh_base.specs.declared.tables.TableDef.{TableDef}
use Rattle.wh_base.specs.declared.values.Value.{Value}
use Rattle.wh_base.specs.declared.views.ViewEntry.{ViewEntry}
use Rattle.def_meaning.specs.Joined.{column_value, conditions_true, empty_row, joined, part_value, rows_at}
use Rattle.def_meaning.specs.Meaning.{Grouped, entries, entry_cmp, in_order, meaning, stored}
use Rattle.def_restrictions.specs.Definition.{condition_column, item_columns}
use Rattle.def_rewriting.specs.Compatible.{linked, own_conditions}
use Rattle.def_rewriting.specs.PlanRows.{extend_all, extended_rows, general_rows, placed}
use Rattle.def_rewriting.specs.Reaching.{Place, layout, stands_at, view_layout}
use Rattle.law_lists.proofs.Each.{Each-both, Each-append, Each-filter, Each-map, Each-of, Each-of_map, Each-passes}
use Rattle.law_lists.proofs.Numbers.{differs_turned}
use Rattle.law_lists.proofs.Counts.{SameCounts-is, SameCounts-map, SameCounts-trans, times-filter, times-map}
use Rattle.law_rewrite.specs.Words.{Each}
use Rattle.law_rewrite.proofs.Answering.{Reads}
use Rattle.law_rewrite.proofs.Projecting.{entries_has}
use Rattle.law_rewrite.proofs.Entries.{entries_same}
use Rattle.law_rewrite.proofs.Sourcing.{One}
use Rattle.law_rewrite.proofs.Theorem.{same_rows_in_order}
use Rattle.law_rewrite.proofs.Envs.{Env, entries_are, env_value, joined_envs, put}
use Rattle.law_rewrite.proofs.Joins.{listed_differs}
use Rattle.law_rewrite.proofs.Forgetting.{Free}
use Rattle.law_rewrite.proofs.Finding.{times-filter_map, with_rows}
use Rattle.law_rewrite.proofs.Tuples.{EndsIn, Related, alone, ends_in, extra_tables, tuples_law}
use Rattle.law_rewrite.proofs.Linking.{Level, Sound, linked_by}
use Rattle.law_rewrite.proofs.Cells.{Cells, placed_right, view_columns}
use Rattle.law_rewrite.proofs.Joining.{Fact, Step, StepsFine, backs_of, joins_of, links, still_level}
use Rattle.law_rewrite.proofs.Staging.{Outcome, reached}
pub use Rattle.law_rewrite.specs.Fine.{KindsFine, ProductFine}

abbrev pub Stand : List Place → ColRef → Type 0
Stand places c = list_any (stands_at c) places ≡ true

-- the columns that items and HAVING read
abbrev pub reads_of : StarQuery → List ColRef
reads_of q = flat_map item_columns q.items ++ flat_map (λ t. agg_columns t.agg) q.having

-- what a plan over a view rests on, with these tables joined back
pub record Plan (defs : List TableDef) (q v : StarQuery) (base : Base) (steps : List Step) : Type 0 where
  pub related : Related defs q v (rows_at base)
  pub steps_fine : StepsFine defs q v base v.tables [] steps
  -- all tables of the query alone are joined back
  pub joins : joins_of steps ≡ alone defs q v (rows_at base) related
  pub all : (m : ℕ) → has_number q.tables m ≡ true → has_number (reached v.tables steps) m ≡ true
  -- columns are of own tables
  pub own_v : Each (λ c. has_number v.tables c.table ≡ true) (flat_map item_columns v.items)
  pub own_keys : Each (λ c. has_number q.tables c.table ≡ true) q.keys
  pub own_reads : Each (λ c. has_number q.tables c.table ≡ true) (reads_of q)
  -- what the plan reads is available
  pub keys : Each (Stand (layout q v (backs_of defs steps))) q.keys
  pub conditions : Each (Stand (layout q v (backs_of defs steps))) (map condition_column (own_conditions q v))

-- ---- what both kinds of view have in common

-- the rows of the query's tables alone
abbrev pub kept_rows : StarQuery → Env → Env
kept_rows q e n = cond (has_number q.tables n) (e n) empty_row

pub kept_same : (q : StarQuery) (us ws : List Env) → Each (λ c. has_number q.tables c.table ≡ true) q.keys → Each (λ c. has_number q.tables c.table ≡ true) (reads_of q)
    → SameCounts (map (kept_rows q) us) (map (kept_rows q) ws) → SameCounts (entries env_value q us) (entries env_value q ws)
kept_same q us ws keys reads h =
    SameCounts-trans (entries env_value q us) (entries env_value q (map (kept_rows q) us)) (entries env_value q ws) (SameCounts-is (entries env_value q us) (entries env_value q (map (kept_rows q) us)) (project us))
    (SameCounts-trans (entries env_value q (map (kept_rows q) us)) (entries env_value q (map (kept_rows q) ws)) (entries env_value q ws)
    (entries_same env_value q (map (kept_rows q) us) (map (kept_rows q) ws) h) (SameCounts-is (entries env_value q (map (kept_rows q) ws)) (entries env_value q ws) (sym (project ws))))
  where
    one : (e : Env) (c : ColRef) → has_number q.tables c.table ≡ true → env_value e c ≡ env_value (kept_rows q e) c
    one e c h = ap (λ b. part_value (cond b (e c.table) empty_row) c.part) (sym h)

    project : (us : List Env) → entries env_value q us ≡ entries env_value q (map (kept_rows q) us)
    project us =
        entries_has env_value env_value (kept_rows q) q us
        (Each-of (λ e. Each (λ c. env_value e c ≡ env_value (kept_rows q e) c) q.keys) (λ e. Each-map (λ c. has_number q.tables c.table ≡ true) (λ c. env_value e c ≡ env_value (kept_rows q e) c) (one e) q.keys keys) us)
        (Each-of (λ e. Each (λ c. env_value e c ≡ env_value (kept_rows q e) c) (reads_of q)) (λ e. Each-map (λ c. has_number q.tables c.table ≡ true) (λ c. env_value e c ≡ env_value (kept_rows q e) c) (one e) (reads_of q) reads) us)

module _ (defs : List TableDef) (q v : StarQuery) (base : Base) (steps : List Step) (plan : Plan defs q v base steps) where
  abbrev rows : ℕ → List RowAt
  rows = rows_at base

  abbrev places : List Place
  places = layout q v (backs_of defs steps)

  abbrev there : ℕ → Bool
  there n = has_number (reached v.tables steps) n

  abbrev pub ts : List Env
  ts = joined_envs v rows

  -- the entries of the view, and the rows that they are extended to
  abbrev pub view_rows : List (List Value)
  view_rows = map (λ e. e.row) (stored v base)

  abbrev pub all_rows : List (List Value)
  all_rows = extended_rows base v (backs_of defs steps) (stored v base)

  pub all_rows_are : all_rows ≡ extend_all base (map (λ p. p.column) (layout q v [])) (backs_of defs steps) view_rows
  all_rows_are = ap (λ cs. extend_all base cs (backs_of defs steps) view_rows) (view_columns v ∙ ap (map (λ (p : Place). p.column)) (sym (append-nil (view_layout v))))

  pub view_rows_are : view_rows ≡ map (λ e. e.row) (sorted_by entry_cmp (entries env_value v ts))
  view_rows_are = ap (λ es. map (λ (e : ViewEntry). e.row) (sorted_by entry_cmp es)) (entries_are v v rows)

  module _ (first : Grouped Env → List Value) (Kept : Grouped Env → Type 0)
      (o : Outcome defs q v base plan.related.tree_q plan.related.tree_v first Kept (reached v.tables steps) (backs_of defs steps) all_rows (λ r. times (λ t. option_case (with_rows rows (joins_of steps) t) false r) ts)) where
    abbrev value : Env → ColRef → Value
    value t = env_value (o.fin t)

    abbrev row : Grouped Env → List Value
    row g = o.ext (first g)

    abbrev own : Env → Bool
    own t = conditions_true (value t) (own_conditions q v)

    -- what stands in the layout is read as it is
    pub reads_one : (g : Grouped Env) (t : Env) → Fact defs q v base (reached v.tables steps) (o.fin t) t × Cells places (row g) (value t) → (c : ColRef) → there c.table ≡ true → Stand places c
        → value t c ≡ placed places (row g) c
    reads_one g t h c k l =
        sym (placed_right there places (row g) (value t) h.1 (links defs q v base plan.related.tree_q plan.related.tree_v (reached v.tables steps) (backs_of defs steps) (o.fin t) t o.state.fine h.0) c k l)

    pub reads_all : (columns : List ColRef) → Each (λ c. has_number q.tables c.table ≡ true) columns → Each (Stand places) columns → Reads value row (placed places) columns o.gs
    reads_all columns h k =
        Each-map (λ g. Each (λ t. Fact defs q v base (reached v.tables steps) (o.fin t) t × Cells places (row g) (value t)) g.1) (λ g. Each (λ t. Each (λ c. value t c ≡ placed places (row g) c) columns) g.1)
        (λ g. Each-map (λ t. Fact defs q v base (reached v.tables steps) (o.fin t) t × Cells places (row g) (value t)) (λ t. Each (λ c. value t c ≡ placed places (row g) c) columns)
        (λ t f. Each-map (λ c. (has_number q.tables c.table ≡ true) × Stand places c) (λ c. value t c ≡ placed places (row g) c) (λ c l. reads_one g t f c (plan.all c.table l.0) l.1) columns
        (Each-both (λ c. has_number q.tables c.table ≡ true) (Stand places) columns h k)) g.1)
        o.gs o.state.cells

    pub own_columns : Each (λ c. has_number q.tables c.table ≡ true) (map condition_column (own_conditions q v))
    own_columns =
        Each-of_map (λ c. has_number q.tables c.table ≡ true) condition_column (own_conditions q v)
        (Each-filter (λ c. has_number q.tables (condition_column c).table ≡ true) _ q.conditions plan.related.own_q)

    -- columns linked by all joins have one value
    pub one : (t : Env) → Fact defs q v base (reached v.tables steps) (o.fin t) t → One value (linked q v) t
    one t fact c d h =
        sym (linked_by (value t) (q.edges ++ v.edges)
        (Each-append (Level (value t)) q.edges v.edges
        (Each-map (λ e. EndsIn q.tables e × Sound defs there (value t) e) (Level (value t)) (λ e k. (k.1 (plan.all e.to.table k.0.1)).1) q.edges
        (Each-both (EndsIn q.tables) (Sound defs there (value t)) q.edges (ends_in defs q plan.related.tree_q) fact.sound))
        (still_level defs q v base plan.related.tree_q plan.related.tree_v (reached v.tables steps) (o.fin t) t fact)) c d h)

    -- **the tuples at the end are the query's**
    pub tuples_end : SameCounts (entries value q (filter own o.us)) (entries env_value q (joined_envs q rows))
    tuples_end =
        SameCounts-trans (entries value q (filter own o.us)) (entries env_value q (map o.fin (filter own o.us))) (entries env_value q (joined_envs q rows))
        (SameCounts-is (entries value q (filter own o.us)) (entries env_value q (map o.fin (filter own o.us)))
        (entries_has value env_value o.fin q (filter own o.us)
        (Each-of (λ t. Each (λ c. value t c ≡ env_value (o.fin t) c) q.keys) (λ t. Each-of (λ c. value t c ≡ env_value (o.fin t) c) (λ c. refl) q.keys) (filter own o.us))
        (Each-of (λ t. Each (λ c. value t c ≡ env_value (o.fin t) c) (reads_of q)) (λ t. Each-of (λ c. value t c ≡ env_value (o.fin t) c) (λ c. refl) (reads_of q)) (filter own o.us))))
        (kept_same q (map o.fin (filter own o.us)) (joined_envs q rows) plan.own_keys plan.own_reads counts)
      where
        free : (r : Env → Bool) → Each (Free (λ e. r (kept_rows q e))) (extra_tables defs q v rows plan.related)
        free r =
            Each-map (λ n. has_number q.tables n ≡ false) (Free (λ e. r (kept_rows q e))) (λ n h s e. ap r (λ i m. by n h s e m (has_number q.tables m) refl i)) (extra_tables defs q v rows plan.related)
            (Each-map (λ n. not (has_number q.tables n) ≡ true) (λ n. has_number q.tables n ≡ false) (λ n. not-true (has_number q.tables n)) (extra_tables defs q v rows plan.related)
            (Each-passes (λ n. not (has_number q.tables n)) (map (λ e. e.to.table) v.edges)))
          where
            by : (n : ℕ) → has_number q.tables n ≡ false → (s : RowAt) (e : Env) (m : ℕ) (b : Bool) → has_number q.tables m ≡ b → cond b (put n s e m) empty_row ≡ cond b (e m) empty_row
            by n h s e m true k = ap (λ b. cond b s (e m)) (differs_turned m n (listed_differs q.tables m n k h))
            by n h s e m false k = refl

        counts : SameCounts (map (kept_rows q) (map o.fin (filter own o.us))) (map (kept_rows q) (joined_envs q rows))
        counts r =
            times-map (kept_rows q) r (map o.fin (filter own o.us))
            ∙ times-map o.fin (λ e. r (kept_rows q e)) (filter own o.us)
            ∙ times-filter own (λ t. r (kept_rows q (o.fin t))) o.us
            ∙ o.tuples (λ e. conditions_true (env_value e) (own_conditions q v) && r (kept_rows q e))
            ∙ ap (λ ds. times (λ t. option_case (with_rows rows ds t) false (λ e. conditions_true (env_value e) (own_conditions q v) && r (kept_rows q e))) ts) plan.joins
            ∙ sym (times-filter_map (λ e. conditions_true (env_value e) (own_conditions q v) && r (kept_rows q e)) (with_rows rows (alone defs q v rows plan.related)) ts)
            ∙ tuples_law defs q v rows plan.related (λ e. r (kept_rows q e)) (free r)
            ∙ sym (times-map (kept_rows q) r (joined_envs q rows))

  -- the plan's rows, once they are those of the tuples at the end, are the query's meaning
  pub finish : SameCounts (general_rows defs q v places all_rows) (map (λ e. e.row) (entries env_value q (joined_envs q rows)))
      → in_order q.order (general_rows defs q v places all_rows) ≡ meaning q base
  finish h =
      same_rows_in_order q.order (general_rows defs q v places all_rows) (map (λ e. e.row) (stored q base))
      (λ p. h p
      ∙ ap (λ es. times p (map (λ (e : ViewEntry). e.row) es)) (sym (entries_are q q rows))
      ∙ sym (SameCounts-map (λ e. e.row) (sorted_by entry_cmp (entries (column_value q.tables) q (joined q base))) (entries (column_value q.tables) q (joined q base))
      (sorted_counts entry_cmp (entries (column_value q.tables) q (joined q base))) p))
