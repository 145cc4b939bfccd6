-- **The tuples of a query are those of the view, with the rows of the tables of the query alone, that meet the query's own conditions.**
use Rattle.std.proofs.Common.{◌≡◌, ◌∙◌, sym, ap, subst, refl, arith, ℕ, zero, suc, ◌+◌, Bool, true, false, cond, not, List, [], ◌∷◌, ◌++◌, map, length, Option, Some, None}
use Rattle.std.specs.Prelude.{◌&&◌, ◌||◌, ◌==◌, filter_map}
use Rattle.std.specs.List.{filter, flat_map, list_all}
use Rattle.std.proofs.lemmas.Bool.{eqb-true, and_parts, not-true}
use Rattle.std.proofs.Math.Bool.{or-true}
use Rattle.std.proofs.lemmas.List.Folds.{list_all-append}
use Rattle.wh_base.specs.Columns.{has_column, same_column}
use Rattle.wh_base.specs.Lists.{has_number, option_case}
use Rattle.wh_base.specs.Tables.{never_null}
use Rattle.wh_base.proofs.Sorting.{SameCounts, times}
use Rattle.wh_base.specs.declared.columns.ColPart.{ColPart}
use Rattle.wh_base.specs.declared.columns.ColPart.TheVariants.{Col, Mark, RowId}
use Rattle.wh_base.specs.declared.columns.ColRef.{ColRef}
use Rattle.wh_base.specs.declared.queries.Condition.{Condition}
use Rattle.wh_base.specs.declared.queries.Edge.{Edge}
use Rattle.wh_base.specs.declared.queries.StarQuery.{StarQuery}
use Rattle.wh_base.specs.declared.tables.RowAt.{RowAt}
use Rattle.wh_base.specs.declared.tables.TableDef.{TableDef}
use Rattle.wh_base.specs.declared.values.Value.{Value}
use Rattle.def_meaning.specs.Joined.{conditions_true, edge_true, empty_row, part_value}
use Rattle.def_meaning.specs.Meaning.{not_null}
use Rattle.def_meaning.specs.Ranges.{equal_columns, other_end, spread, spread_times}
use Rattle.def_resolve.specs.Star.{IsTreeFrom, leads_outwards}
use Rattle.def_restrictions.specs.Definition.{condition_column}
use Rattle.def_rewriting.specs.Compatible.{conditions_implied, join_into, own_conditions, same_edge, same_joins}
use Rattle.law_lists.proofs.Each.{Each-both, Each-from_all, Each-append, Each-filter, Each-map, Each-of, Each-of_map, Each-passes}
use Rattle.law_lists.proofs.Numbers.{differs_turned}
use Rattle.law_lists.proofs.Counts.{is_positive, positive_sum, times-append, times-filter, times_agree}
use Rattle.law_lists.proofs.Lists.{filter-map}
use Rattle.wh_base.proofs.SameItems.{same_column_is}
use Rattle.law_lists.proofs.Booleans.{and_swap}
use Rattle.law_rewrite.specs.Words.{Promised, Each}
use Rattle.law_rewrite.proofs.Answering.{all_alike}
use Rattle.law_rewrite.proofs.Fresh.{conditions_read}
use Rattle.law_rewrite.proofs.Implying.{PlainIn, is_plain}
use Rattle.law_rewrite.proofs.Filtering.{conditions_are}
use Rattle.law_rewrite.proofs.Envs.{Env, env_true, env_value, envs, joined_envs, put, same_tables}
use Rattle.law_rewrite.proofs.Joins.{common_same, distinct_tables, first_leads, has_first, has_itself, has_second, into, joins_are, listed_differs, own_joins, parts_same}
use Rattle.law_rewrite.proofs.Forgetting.{Free, Once, edge_free, extras, forget, hang, value_free}
use Rattle.law_rewrite.proofs.Finding.{AtMost, chain_filter, chain_of, find_all, rows_free, times-filter_map, with_rows}

-- ---- lists

pub times_each : {A : Type 0} (p q : A → Bool) (xs : List A) → Each (λ x. p x ≡ q x) xs → times p xs ≡ times q xs
times_each p q [] h = refl
times_each p q (x ∷ xs) h = λ i. cond (h.0 i) 1 0 + times_each p q xs h.1 i

all_times : {A : Type 0} (p : A → Bool) (xs : List A) → list_all p xs ≡ not (is_positive (times (λ x. not (p x)) xs))
unfolding is_positive
all_times p [] = refl
all_times p (x ∷ xs) = ap (λ b. p x && b) (all_times p xs) ∙ by (p x) (is_positive (times (λ y. not (p y)) xs)) ∙ ap not (sym (positive_sum (not (p x)) (times (λ y. not (p y)) xs)))
  where
    by : (a b : Bool) → (a && not b) ≡ not (not a || b)
    by true b = refl
    by false b = refl

all_same : {A : Type 0} (p : A → Bool) (xs ys : List A) → SameCounts xs ys → list_all p xs ≡ list_all p ys
all_same p xs ys h = all_times p xs ∙ ap (λ n. not (is_positive n)) (h (λ x. not (p x))) ∙ sym (all_times p ys)

-- ---- rows of tuples

-- what holds of the rows of each table, and of one that isn't there, holds of all rows of a tuple
pub env_all : (P : RowAt → Type 0) (rows : ℕ → List RowAt) (ns : List ℕ) → P empty_row → ((m : ℕ) → Each P (rows m)) → Each (λ e. (m : ℕ) → P (e m)) (envs rows ns)
env_all P rows [] none h = ((λ m. none), tt)
env_all P rows (n ∷ ns) none h = each (rows n) (h n) (env_all P rows ns none h)
  where
    one : (r : RowAt) → P r → (e : Env) → ((m : ℕ) → P (e m)) → (m : ℕ) → P (put n r e m)
    one r k e l m = by (n == m)
      where
        by : (b : Bool) → P (cond b r (e m))
        by true = k
        by false = l m

    each : (rs : List RowAt) → Each P rs → Each (λ e. (m : ℕ) → P (e m)) (envs rows ns) → Each (λ e. (m : ℕ) → P (e m)) (flat_map (λ r. map (put n r) (envs rows ns)) rs)
    each [] k l = tt
    each (r ∷ rs) k l =
        Each-append (λ e. (m : ℕ) → P (e m)) (map (put n r) (envs rows ns)) (flat_map (λ s. map (put n s) (envs rows ns)) rs)
        (Each-of_map (λ e. (m : ℕ) → P (e m)) (put n r) (envs rows ns) (Each-map (λ e. (m : ℕ) → P (e m)) (λ e. (m : ℕ) → P (put n r e m)) (one r k.0) (envs rows ns) l))
        (each rs k.1 l)

-- and what holds of the rows of each table holds of the rows of a tuple's tables
pub env_rows : (Q : ℕ → RowAt → Type 0) (rows : ℕ → List RowAt) (ns : List ℕ) → ((m : ℕ) → Each (Q m) (rows m)) → Each (λ e. (m : ℕ) → has_number ns m ≡ true → Q m (e m)) (envs rows ns)
env_rows Q rows [] h = ((λ m k. absurd (let e : false ≡ true = k in cc)), tt)
env_rows Q rows (n ∷ ns) h = each (rows n) (h n) (env_rows Q rows ns h)
  where
    one : (r : RowAt) → Q n r → (e : Env) → ((m : ℕ) → has_number ns m ≡ true → Q m (e m)) → (m : ℕ) → has_number (n ∷ ns) m ≡ true → Q m (put n r e m)
    one r k e l m there = by (n == m) refl there
      where
        by : (b : Bool) → (n == m) ≡ b → (b || has_number ns m) ≡ true → Q m (cond b r (e m))
        by true f g = subst (λ j. Q j r) (eqb-true n m f) k
        by false f g = l m g

    each : (rs : List RowAt) → Each (Q n) rs → Each (λ e. (m : ℕ) → has_number ns m ≡ true → Q m (e m)) (envs rows ns)
        → Each (λ e. (m : ℕ) → has_number (n ∷ ns) m ≡ true → Q m (e m)) (flat_map (λ r. map (put n r) (envs rows ns)) rs)
    each [] k l = tt
    each (r ∷ rs) k l =
        Each-append (λ e. (m : ℕ) → has_number (n ∷ ns) m ≡ true → Q m (e m)) (map (put n r) (envs rows ns)) (flat_map (λ s. map (put n s) (envs rows ns)) rs)
        (Each-of_map (λ e. (m : ℕ) → has_number (n ∷ ns) m ≡ true → Q m (e m)) (put n r) (envs rows ns)
        (Each-map (λ e. (m : ℕ) → has_number ns m ≡ true → Q m (e m)) (λ e. (m : ℕ) → has_number (n ∷ ns) m ≡ true → Q m (put n r e m)) (one r k.0) (envs rows ns) l))
        (each rs k.1 l)

-- ---- columns of a star

-- what is equal to a column by joins over certain tables is of such a table
module _ (P : ColRef → Type 0) where
  other_within : (columns : List ColRef) (e : Edge) → P e.from → P e.to → Each P (other_end columns e)
  other_within columns e h k = by (has_column columns e.from && not (has_column columns e.to)) (has_column columns e.to && not (has_column columns e.from))
    where
      by : (a b : Bool) → Each P (cond a (e.to ∷ []) (cond b (e.from ∷ []) []))
      by true b = (k, tt)
      by false true = (h, tt)
      by false false = tt

  spread_within : (edges : List Edge) (columns : List ColRef) → Each (λ e. P e.from × P e.to) edges → Each P columns → Each P (spread edges columns)
  spread_within [] columns h k = k
  spread_within (e ∷ edges) columns h k = spread_within edges (columns ++ other_end columns e) h.1 (Each-append P columns (other_end columns e) k (other_within columns e h.0.0 h.0.1))

  times_within : (n : ℕ) (edges : List Edge) (columns : List ColRef) → Each (λ e. P e.from × P e.to) edges → Each P columns → Each P (spread_times n edges columns)
  times_within zero edges columns h k = k
  times_within (suc n) edges columns h k = times_within n edges (spread edges columns) h (spread_within edges columns h k)

  pub equal_within : (edges : List Edge) (c : ColRef) → Each (λ e. P e.from × P e.to) edges → P c → Each P (equal_columns edges c)
  equal_within edges c h k = times_within (length edges) edges (c ∷ []) h (k, tt)

-- the ends of the joins are of tables of the star
abbrev pub EndsIn : List ℕ → Edge → Type 0
EndsIn ns e = (has_number ns e.from.table ≡ true) × (has_number ns e.to.table ≡ true)

pub ends_in : (defs : List TableDef) (q : StarQuery) → IsTreeFrom defs q.root q.tables q.edges → Each (EndsIn q.tables) q.edges
ends_in defs q tree = subst (λ ns. Each (EndsIn ns) q.edges) (sym tree.0) (by (q.root ∷ []) q.edges tree.1)
  where
    by : (listed : List ℕ) (es : List Edge) → leads_outwards defs listed es ≡ true → Each (EndsIn (listed ++ map (λ e. e.to.table) es)) es
    by listed [] h = tt
    by listed (e ∷ es) h =
        let first : (has_number listed e.from.table ≡ true) × (has_number listed e.to.table ≡ false) × (leads_outwards defs (listed ++ e.to.table ∷ []) es ≡ true) = first_leads defs listed e es h in (
          (
            has_first listed (e.to.table ∷ map (λ x. x.to.table) es) e.from.table first.0,
            has_second listed (e.to.table ∷ map (λ x. x.to.table) es) e.to.table (has_itself e.to.table (map (λ x. x.to.table) es)),
          ),
          subst (λ ns. Each (EndsIn ns) es) (assoc listed (e.to.table ∷ []) (map (λ x. x.to.table) es)) (by (listed ++ e.to.table ∷ []) es first.2),
        )
      where
        assoc : (xs ys zs : List ℕ) → (xs ++ ys) ++ zs ≡ xs ++ (ys ++ zs)
        assoc [] ys zs = refl
        assoc (x ∷ xs) ys zs = ap (λ ws. x ∷ ws) (assoc xs ys zs)

pub root_in : (defs : List TableDef) (q : StarQuery) → IsTreeFrom defs q.root q.tables q.edges → has_number q.tables q.root ≡ true
root_in defs q tree = ap (λ ns. has_number ns q.root) tree.0 ∙ has_itself q.root (map (λ e. e.to.table) q.edges)

-- a star doesn't read other tables
pub star_free : (q : StarQuery) (n : ℕ) → Each (EndsIn q.tables) q.edges → Each (λ c. has_number q.tables (condition_column c).table ≡ true) q.conditions → has_number q.tables n ≡ false
    → Free (env_true q) n
star_free q n ends own out r e = λ i. joins q.edges ends i && conditions_read (env_value (put n r e)) (env_value e) q.conditions (reads q.conditions own) i
  where
    apart : (m : ℕ) → has_number q.tables m ≡ true → (n == m) ≡ false
    apart m h = differs_turned m n (listed_differs q.tables m n h out)

    joins : (es : List Edge) → Each (EndsIn q.tables) es → list_all (edge_true (env_value (put n r e))) es ≡ list_all (edge_true (env_value e)) es
    joins [] h = refl
    joins (d ∷ ds) h = λ i. edge_free d n (apart d.from.table h.0.0) (apart d.to.table h.0.1) r e i && joins ds h.1 i

    reads : (cs : List Condition) → Each (λ c. has_number q.tables (condition_column c).table ≡ true) cs → Each (λ c. env_value (put n r e) c ≡ env_value e c) (map condition_column cs)
    reads [] h = tt
    reads (c ∷ cs) h = (value_free (condition_column c) n (apart (condition_column c).table h.0) r e, reads cs h.1)

-- ---- a query and a view

pub record Related (defs : List TableDef) (q v : StarQuery) (rows : ℕ → List RowAt) : Type 0 where
  pub tree_q : IsTreeFrom defs q.root q.tables q.edges
  pub tree_v : IsTreeFrom defs v.root v.tables v.edges
  -- conditions are of own tables, and their literals aren't pairs
  pub own_q : Each (λ c. has_number q.tables (condition_column c).table ≡ true) q.conditions
  pub own_v : Each (λ c. has_number v.tables (condition_column c).table ≡ true) v.conditions
  pub plain_q : Each PlainIn q.conditions
  pub plain_v : Each PlainIn v.conditions
  -- one root, the same joins, and conditions that are implied
  pub same_root : q.root ≡ v.root
  pub same_joins : same_joins q v ≡ true
  pub implied : conditions_implied defs q v ≡ true
  -- a join to a table of the view alone has exactly one partner
  pub once : Each (λ e. has_number q.tables e.to.table ≡ false → Once rows e) v.edges
  -- keys are unique
  pub keyed : Each (λ e. has_number v.tables e.to.table ≡ false → AtMost rows e.to) q.edges
  -- no value is a pair, and NOT NULL columns aren't NULL
  pub plain : (n : ℕ) → Each (λ r. (p : ColPart) → is_plain (part_value r p) ≡ true) (rows n)
  pub sure : (n : ℕ) → Each (λ r. (p : ColPart) → never_null defs (record { table = n; part = p }) ≡ true → not_null (part_value r p) ≡ true) (rows n)

module _ (defs : List TableDef) (q v : StarQuery) (rows : ℕ → List RowAt) (x : Related defs q v rows) where
  abbrev pub ours : ℕ → Bool
  ours n = has_number q.tables n

  abbrev pub theirs : ℕ → Bool
  theirs n = has_number v.tables n

  -- the joins to tables of the query alone
  abbrev pub alone : List Edge
  alone = filter (λ e. not (theirs e.to.table)) q.edges

  abbrev pub alone_tables : List ℕ
  alone_tables = map (λ e. e.to.table) alone

  abbrev pub extra_tables : List ℕ
  extra_tables = extras defs v rows ours v.edges

  q_root_in_v : theirs q.root ≡ true
  q_root_in_v = ap theirs x.same_root ∙ root_in defs v x.tree_v

  v_root_in_q : ours v.root ≡ true
  v_root_in_q = ap ours (sym x.same_root) ∙ root_in defs q x.tree_q

  alone_are : alone_tables ≡ filter (λ n. not (theirs n)) q.tables
  alone_are =
      sym (filter-map (λ n. not (theirs n)) (λ e. e.to.table) q.edges)
      ∙ ap (λ b. cond (not b) (q.root ∷ filter (λ n. not (theirs n)) (map (λ e. e.to.table) q.edges)) (filter (λ n. not (theirs n)) (map (λ e. e.to.table) q.edges))) (sym q_root_in_v)
      ∙ ap (filter (λ n. not (theirs n))) (sym x.tree_q.0)

  extras_are : extra_tables ≡ filter (λ n. not (ours n)) v.tables
  extras_are =
      ap (λ b. cond (not b) (v.root ∷ filter (λ n. not (ours n)) (map (λ e. e.to.table) v.edges)) (filter (λ n. not (ours n)) (map (λ e. e.to.table) v.edges))) (sym v_root_in_q)
      ∙ ap (filter (λ n. not (ours n))) (sym x.tree_v.0)

  commons : SameCounts (filter ours v.tables) (filter theirs q.tables)
  commons = common_same q.tables v.tables (distinct_tables defs q x.tree_q) (distinct_tables defs v x.tree_v)

  all_tables : SameCounts (alone_tables ++ v.tables) (extra_tables ++ q.tables)
  all_tables p =
      omega (
        arith,
        times-append p alone_tables v.tables,
        times-append p extra_tables q.tables,
        ap (times p) alone_are,
        ap (times p) extras_are,
        parts_same ours v.tables p,
        parts_same theirs q.tables p,
        commons p,
        times-append p (filter (λ n. not (ours n)) v.tables) (filter ours v.tables),
        times-append p (filter (λ n. not (theirs n)) q.tables) (filter theirs q.tables),
      )

  -- ---- the joins

  same_into : (f : ColRef → Value) → Each (λ n. theirs n ≡ true → into q f n ≡ into v f n) q.tables
  same_into f =
      Each-map (λ n. (not (theirs n) || same_edge (join_into q n) (join_into v n)) ≡ true) (λ n. theirs n ≡ true → into q f n ≡ into v f n)
      (λ n h k. by (join_into q n) (join_into v n) (sym (ap (λ b. not b || same_edge (join_into q n) (join_into v n)) k) ∙ h)) q.tables
      (Each-from_all (λ n. not (theirs n) || same_edge (join_into q n) (join_into v n)) q.tables x.same_joins)
    where
      by : (a b : Option Edge) → same_edge a b ≡ true → option_case a true (edge_true f) ≡ option_case b true (edge_true f)
      by None None h = refl
      by None (Some e) h = cc
      by (Some d) None h = cc
      by (Some d) (Some e) h =
          let both : (same_column d.from e.from ≡ true) × (same_column d.to e.to ≡ true) = and_parts (same_column d.from e.from) (same_column d.to e.to) h in
          λ i. edge_true f (record { from = same_column_is d.from e.from both.0 i; to = same_column_is d.to e.to both.1 i })

  common_into : (f : ColRef → Value) → list_all (into v f) (filter ours v.tables) ≡ list_all (into q f) (filter theirs q.tables)
  common_into f =
      all_same (into v f) (filter ours v.tables) (filter theirs q.tables) commons
      ∙ sym (all_alike (into q f) (into v f) (filter theirs q.tables)
      (Each-map (λ n. (theirs n ≡ true → into q f n ≡ into v f n) × (theirs n ≡ true)) (λ n. into q f n ≡ into v f n) (λ n h. h.0 h.1) (filter theirs q.tables)
      (Each-both (λ n. theirs n ≡ true → into q f n ≡ into v f n) (λ n. theirs n ≡ true) (filter theirs q.tables)
      (Each-filter (λ n. theirs n ≡ true → into q f n ≡ into v f n) theirs q.tables (same_into f)) (Each-passes theirs q.tables))))

  edges_into : (f : ColRef → Value) (es : List Edge) → Each (λ e. join_into q e.to.table ≡ Some e) es → list_all (edge_true f) es ≡ list_all (into q f) (map (λ e. e.to.table) es)
  edges_into f [] h = refl
  edges_into f (e ∷ es) h = λ i. option_case (sym h.0 i) true (edge_true f) && edges_into f es h.1 i

  alone_into : (f : ColRef → Value) → list_all (edge_true f) alone ≡ list_all (into q f) (filter (λ n. not (theirs n)) q.tables)
  alone_into f =
      edges_into f alone (Each-filter (λ e. join_into q e.to.table ≡ Some e) (λ e. not (theirs e.to.table)) q.edges (own_joins defs q x.tree_q))
      ∙ ap (list_all (into q f)) alone_are

  split : (p t : ℕ → Bool) (ns : List ℕ) → list_all p ns ≡ (list_all p (filter (λ n. not (t n)) ns) && list_all p (filter t ns))
  split p t ns =
      sym (all_same p (filter (λ n. not (t n)) ns ++ filter t ns) ns (parts_same t ns)) ∙ list_all-append p (filter (λ n. not (t n)) ns) (filter t ns)

  -- the joins to tables of the query alone and those of the view are those to tables of the view alone and those of the query
  pub all_joins : (f : ColRef → Value) → (list_all (edge_true f) alone && list_all (edge_true f) v.edges) ≡ (list_all (into v f) extra_tables && list_all (edge_true f) q.edges)
  all_joins f =
      (λ i. alone_into f i && (joins_are defs v x.tree_v f ∙ split (into v f) ours v.tables ∙ (λ j. list_all (into v f) (sym extras_are j) && common_into f j)) i)
      ∙ and_swap (list_all (into q f) (filter (λ n. not (theirs n)) q.tables)) (list_all (into v f) extra_tables) (list_all (into q f) (filter theirs q.tables))
      ∙ ap (λ b. list_all (into v f) extra_tables && b) (sym (joins_are defs q x.tree_q f ∙ split (into q f) theirs q.tables))

  -- ---- one tuple

  abbrev tables : List ℕ
  tables = alone_tables ++ v.tables

  abbrev pub own_true : Env → Bool
  own_true e = conditions_true (env_value e) (own_conditions q v)

  q_in_all : (m : ℕ) → ours m ≡ true → has_number tables m ≡ true
  q_in_all m h = by (theirs m) refl
    where
      in_filter : (ns : List ℕ) → has_number ns m ≡ true → theirs m ≡ false → has_number (filter (λ n. not (theirs n)) ns) m ≡ true
      in_filter [] k l = cc
      in_filter (n ∷ ns) k l = by (n == m) (theirs n) refl refl k (λ h. in_filter ns h l)
        where
          by : (b c : Bool) → (n == m) ≡ b → theirs n ≡ c → (b || has_number ns m) ≡ true → (has_number ns m ≡ true → has_number (filter (λ n. not (theirs n)) ns) m ≡ true)
              → has_number (cond (not c) (n ∷ filter (λ n. not (theirs n)) ns) (filter (λ n. not (theirs n)) ns)) m ≡ true
          by true true e f k rest = absurd (let g : true ≡ false = sym f ∙ ap theirs (eqb-true n m e) ∙ l in cc)
          by true false e f k rest = ap (λ b. b || has_number (filter (λ n. not (theirs n)) ns) m) e
          by false true e f k rest = rest k
          by false false e f k rest = ap (λ b. (n == m) || b) (rest k) ∙ or-true (n == m)

      by : (b : Bool) → theirs m ≡ b → has_number tables m ≡ true
      by true e = has_second alone_tables v.tables m e
      by false e = has_first alone_tables v.tables m (ap (λ ns. has_number ns m) alone_are ∙ in_filter q.tables h e)

  v_in_all : (m : ℕ) → theirs m ≡ true → has_number tables m ≡ true
  v_in_all m h = has_second alone_tables v.tables m h

  both_ends : Each (λ e. (has_number tables e.from.table ≡ true) × (has_number tables e.to.table ≡ true)) (q.edges ++ v.edges)
  both_ends =
      Each-append (λ e. (has_number tables e.from.table ≡ true) × (has_number tables e.to.table ≡ true)) q.edges v.edges
      (Each-map (EndsIn q.tables) (λ e. (has_number tables e.from.table ≡ true) × (has_number tables e.to.table ≡ true)) (λ e h. (q_in_all e.from.table h.0, q_in_all e.to.table h.1)) q.edges (ends_in defs q x.tree_q))
      (Each-map (EndsIn v.tables) (λ e. (has_number tables e.from.table ≡ true) × (has_number tables e.to.table ≡ true)) (λ e h. (v_in_all e.from.table h.0, v_in_all e.to.table h.1)) v.edges (ends_in defs v x.tree_v))

  -- what is promised of each way to take rows
  promised : Each (λ e. Promised defs q v (env_value e)) (envs rows tables)
  promised =
      Each-map (λ e. ((m : ℕ) → (p : ColPart) → is_plain (part_value (e m) p) ≡ true)
      × ((m : ℕ) → has_number tables m ≡ true → (p : ColPart) → never_null defs (record { table = m; part = p }) ≡ true → not_null (part_value (e m) p) ≡ true))
      (λ e. Promised defs q v (env_value e))
      (λ e h. record {
        plain = λ c. h.0 c.table c.part;
        sure =
            Each-map (λ d. has_number v.tables (condition_column d).table ≡ true) (λ d. Each (λ c. never_null defs c ≡ true → not_null (env_value e c) ≡ true) (equal_columns (q.edges ++ v.edges) (condition_column d)))
            (λ d k. Each-map (λ c. has_number tables c.table ≡ true) (λ c. never_null defs c ≡ true → not_null (env_value e c) ≡ true) (λ c l. h.1 c.table l c.part)
            (equal_columns (q.edges ++ v.edges) (condition_column d))
            (equal_within (λ c. has_number tables c.table ≡ true) (q.edges ++ v.edges) (condition_column d) both_ends (v_in_all (condition_column d).table k)))
            v.conditions x.own_v;
      })
      (envs rows tables)
      (Each-both (λ e. (m : ℕ) → (p : ColPart) → is_plain (part_value (e m) p) ≡ true)
      (λ e. (m : ℕ) → has_number tables m ≡ true → (p : ColPart) → never_null defs (record { table = m; part = p }) ≡ true → not_null (part_value (e m) p) ≡ true)
      (envs rows tables)
      (env_all (λ r. (p : ColPart) → is_plain (part_value r p) ≡ true) rows tables nothing x.plain)
      (env_rows (λ m r. (p : ColPart) → never_null defs (record { table = m; part = p }) ≡ true → not_null (part_value r p) ≡ true) rows tables x.sure))
    where
      nothing : (p : ColPart) → is_plain (part_value empty_row p) ≡ true
      nothing (Col n) = refl
      nothing RowId = refl
      nothing Mark = refl

  one_tuple : (r : Env → Bool) (e : Env) → Promised defs q v (env_value e)
      → (list_all (edge_true (env_value e)) alone && (env_true v e && (own_true e && r e))) ≡ (list_all (into v (env_value e)) extra_tables && (env_true q e && r e))
  one_tuple r e promise =
      regroup (list_all (edge_true (env_value e)) alone) (list_all (edge_true (env_value e)) v.edges) (conditions_true (env_value e) v.conditions) (own_true e) (r e)
      ∙ by (list_all (edge_true (env_value e)) alone && list_all (edge_true (env_value e)) v.edges) refl
      ∙ ap (λ b. b && (conditions_true (env_value e) q.conditions && r e)) (all_joins (env_value e))
      ∙ regroup_back (list_all (into v (env_value e)) extra_tables) (list_all (edge_true (env_value e)) q.edges) (conditions_true (env_value e) q.conditions) (r e)
    where
      regroup : (a b c d s : Bool) → (a && ((b && c) && (d && s))) ≡ ((a && b) && ((c && d) && s))
      regroup true true true d s = refl
      regroup true true false d s = refl
      regroup true false c d s = refl
      regroup false b c d s = refl

      regroup_back : (a b c s : Bool) → ((a && b) && (c && s)) ≡ (a && ((b && c) && s))
      regroup_back true true c s = refl
      regroup_back true false c s = refl
      regroup_back false b c s = refl

      all_true : (list_all (edge_true (env_value e)) alone && list_all (edge_true (env_value e)) v.edges) ≡ true → list_all (edge_true (env_value e)) (q.edges ++ v.edges) ≡ true
      all_true h =
          let ve : list_all (edge_true (env_value e)) v.edges ≡ true = (and_parts (list_all (edge_true (env_value e)) alone) (list_all (edge_true (env_value e)) v.edges) h).1 in
          let qe : list_all (edge_true (env_value e)) q.edges ≡ true
          = (and_parts (list_all (into v (env_value e)) extra_tables) (list_all (edge_true (env_value e)) q.edges) (sym (all_joins (env_value e)) ∙ h)).1 in
          list_all-append (edge_true (env_value e)) q.edges v.edges ∙ (λ i. qe i && ve i)

      by : (b : Bool) → (list_all (edge_true (env_value e)) alone && list_all (edge_true (env_value e)) v.edges) ≡ b
          → (b && ((conditions_true (env_value e) v.conditions && own_true e) && r e)) ≡ (b && (conditions_true (env_value e) q.conditions && r e))
      by true h = ap (λ c. c && r e) (sym (conditions_are defs q v x.plain_q x.plain_v x.implied (env_value e) promise (all_true h)))
      by false h = refl

  -- **the law**
  pub tuples_law : (r : Env → Bool) → Each (Free r) extra_tables
      → times (λ e. own_true e && r e) (filter_map (with_rows rows alone) (joined_envs v rows)) ≡ times r (joined_envs q rows)
  tuples_law r free =
      times-filter_map (λ e. own_true e && r e) (with_rows rows alone) (joined_envs v rows)
      ∙ times-filter (env_true v) (λ e. option_case (with_rows rows alone e) false (λ y. own_true y && r y)) (envs rows v.tables)
      ∙ times_agree (λ e. env_true v e && option_case (with_rows rows alone e) false (λ y. own_true y && r y)) (λ e. option_case (with_rows rows alone e) false (λ y. env_true v y && (own_true y && r y)))
      (λ e. sym (rows_free rows alone (env_true v) (λ y. own_true y && r y) alone_free e)) (envs rows v.tables)
      ∙ sym (times-filter_map (λ y. env_true v y && (own_true y && r y)) (with_rows rows alone) (envs rows v.tables))
      ∙ sym (find_all rows alone v.tables (λ y. env_true v y && (own_true y && r y)) (chain_filter (λ e. not (theirs e.to.table)) q.edges (chain_of defs (q.root ∷ []) q.edges x.tree_q.1)) alone_keyed)
      ∙ times_each (λ e. list_all (edge_true (env_value e)) alone && (env_true v e && (own_true e && r e))) (λ e. list_all (into v (env_value e)) extra_tables && (env_true q e && r e)) (envs rows tables)
      (Each-map (λ e. Promised defs q v (env_value e))
      (λ e. (list_all (edge_true (env_value e)) alone && (env_true v e && (own_true e && r e))) ≡ (list_all (into v (env_value e)) extra_tables && (env_true q e && r e)))
      (one_tuple r) (envs rows tables) promised)
      ∙ same_tables rows tables (extra_tables ++ q.tables) all_tables (λ e. hang defs v rows ours extra_tables e && (env_true q e && r e))
      ∙ forget defs v rows ours (v.root ∷ []) v.edges q.tables (λ e. env_true q e && r e) x.tree_v.1 (own_joins defs v x.tree_v) x.once
      (λ m h. root_only m (v.root == m) refl h) (Each-of (λ e. ours e.to.table ≡ true → has_number q.tables e.to.table ≡ true) (λ e h. h) v.edges)
      (Each-map (λ n. (ours n ≡ false) × Free r n) (Free (λ e. env_true q e && r e))
      (λ n h s e i. star_free q n (ends_in defs q x.tree_q) x.own_q h.0 s e i && h.1 s e i) extra_tables
      (Each-both (λ n. ours n ≡ false) (Free r) extra_tables not_ours free))
      ∙ sym (times-filter (env_true q) r (envs rows q.tables))
    where
      not_ours : Each (λ n. ours n ≡ false) extra_tables
      not_ours = Each-map (λ n. not (ours n) ≡ true) (λ n. ours n ≡ false) (λ n. not-true (ours n)) extra_tables (Each-passes (λ n. not (ours n)) (map (λ e. e.to.table) v.edges))

      not_theirs : Each (λ e. theirs e.to.table ≡ false) alone
      not_theirs = Each-map (λ e. not (theirs e.to.table) ≡ true) (λ e. theirs e.to.table ≡ false) (λ e. not-true (theirs e.to.table)) alone (Each-passes (λ e. not (theirs e.to.table)) q.edges)

      alone_free : Each (λ d. Free (env_true v) d.to.table) alone
      alone_free = Each-map (λ e. theirs e.to.table ≡ false) (λ e. Free (env_true v) e.to.table) (λ e h. star_free v e.to.table (ends_in defs v x.tree_v) x.own_v h) alone not_theirs

      alone_keyed : Each (λ d. AtMost rows d.to) alone
      alone_keyed =
          Each-map (λ e. (theirs e.to.table ≡ false → AtMost rows e.to) × (theirs e.to.table ≡ false)) (λ e. AtMost rows e.to) (λ e h. h.0 h.1) alone
          (Each-both (λ e. theirs e.to.table ≡ false → AtMost rows e.to) (λ e. theirs e.to.table ≡ false) alone
          (Each-filter (λ e. theirs e.to.table ≡ false → AtMost rows e.to) (λ e. not (theirs e.to.table)) q.edges x.keyed) not_theirs)

      root_only : (m : ℕ) (b : Bool) → (v.root == m) ≡ b → (b || false) ≡ true → has_number q.tables m ≡ true
      root_only m true e h = ap ours (sym (eqb-true v.root m e)) ∙ v_root_in_q
      root_only m false e h = cc
