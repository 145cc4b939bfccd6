-- **The plan of a text match, one row for each entry of the view, gives the query's meaning.**
use Rattle.std.proofs.Common.{◌≡◌, ◌∙◌, sym, ap, refl, ℕ, Bool, true, false, cond, List, [], ◌∷◌, ◌++◌, map, Option, Some, None}
use Rattle.std.specs.Prelude.{◌&&◌, ◌||◌}
use Rattle.std.specs.List.{filter, flat_map, list_all, list_any}
use Rattle.std.proofs.lemmas.List.{append-nil}
use Rattle.std.proofs.lemmas.Simd.{map-map}
use Rattle.std.proofs.lemmas.Bool.{and_parts}
use Rattle.wh_base.specs.Columns.{has_column, same_column, same_item}
use Rattle.wh_base.specs.Lists.{has_number, is_empty, option_case}
use Rattle.wh_base.specs.Tables.{Base, never_null}
use Rattle.wh_base.proofs.Sorting.{SameCounts, times, sorted_counts}
use Rattle.wh_base.specs.declared.columns.Agg.{Agg}
use Rattle.wh_base.specs.declared.columns.Agg.TheVariants.{Avg, Count, CountAll, Max, Min, Sum}
use Rattle.wh_base.specs.declared.columns.ColPart.{ColPart}
use Rattle.wh_base.specs.declared.columns.ColRef.{ColRef}
use Rattle.wh_base.specs.declared.columns.Expr.{Expr}
use Rattle.wh_base.specs.declared.columns.Expr.TheVariants as expr
use Rattle.wh_base.specs.declared.queries.Item.{Item}
use Rattle.wh_base.specs.declared.queries.Item.TheVariants as item
use Rattle.wh_base.specs.declared.queries.StarQuery.{StarQuery}
use Rattle.wh_base.specs.declared.tables.RowAt.{RowAt}
use Rattle.wh_base.specs.declared.tables.TableDef.{TableDef}
use Rattle.wh_base.specs.declared.values.Value.{Value}
use Rattle.wh_base.specs.declared.values.Value.TheVariants.{Null}
use Rattle.wh_base.specs.declared.views.ViewEntry.{ViewEntry}
use Rattle.def_meaning.specs.Accumulated.{item_aggs, query_aggs, selected_aggs}
use Rattle.def_meaning.specs.Joined.{column_value, conditions_true, edge_true, joined, part_value, rows_at}
use Rattle.def_meaning.specs.Meaning.{Grouped, agg_value, entries, entry_cmp, expr_value, group_entry, group_item, grouped_entries, groups, in_order, key_of, key_value, meaning, not_null, plain_entries, plain_item, stored, test_true}
use Rattle.def_rewriting.specs.Compatible.{linked}
use Rattle.def_rewriting.specs.PlanRows.{entry_item, placed, text_rows}
use Rattle.def_rewriting.specs.Reaching.{plain_columns, view_layout}
use Rattle.def_rewriting.specs.Rollup.{Origin, counts_all, origin, rolled}
use Rattle.law_lists.proofs.Each.{Each-both, map_alike, Each-filter, Each-map, Each-passes}
use Rattle.law_lists.proofs.Counts.{SameCounts-map, SameCounts-trans}
use Rattle.law_lists.proofs.Groups.{groups_full}
use Rattle.law_lists.proofs.Columns.{key_value_is}
use Rattle.wh_base.proofs.SameItems.{same_column_is}
use Rattle.law_lists.proofs.Aggregates.{wanted_values}
use Rattle.law_rewrite.specs.Words.{Each}
use Rattle.law_rewrite.specs.Fine.{KindsFine, Numbers, ProductFine, RowsFine, may_be_number}
use Rattle.law_rewrite.specs.Texts.{ItemGiven, SameFrom}
use Rattle.law_rewrite.proofs.Answering.{Each-parts, Each-split}
use Rattle.law_rewrite.proofs.Rolling.{rolled_parts, whole}
use Rattle.law_rewrite.proofs.Fresh.{group_row}
use Rattle.law_rewrite.proofs.Placing.{linked_equal, placed_is}
use Rattle.law_rewrite.proofs.JoinView.{placed_plain, tuple_row}
use Rattle.law_rewrite.proofs.Reached.{selected_stands}
use Rattle.law_rewrite.proofs.Sourcing.{Kind, One, ServedBy, SureAgg, at_place, kind_of, serves_of}
use Rattle.law_rewrite.proofs.SameTables.{all-append}
use Rattle.law_rewrite.proofs.Theorem.{groups_in, of_key, same_rows_in_order}
use Rattle.law_rewrite.proofs.Envs.{Env, entries_are, env_true, env_value, envs, joined_envs}
use Rattle.law_rewrite.proofs.Tuples.{env_rows}
use Rattle.law_rewrite.proofs.Aggregated.{product_sure}

-- what is so of the values of a tuple
record Sure_values (defs : List TableDef) (v : StarQuery) (rows : ℕ → List RowAt) (f : ColRef → Value) : Type 0 where
  there : (c : ColRef) → has_number v.tables c.table ≡ true → never_null defs c ≡ true → not_null (f c) ≡ true
  numbers : (c : ColRef) → has_number v.tables c.table ≡ true → Numbers rows c → may_be_number (f c) ≡ true

sure_expr : (defs : List TableDef) (v : StarQuery) (rows : ℕ → List RowAt) (f : ColRef → Value) → Sure_values defs v rows f → (e : Expr) → ProductFine rows e → counts_all defs v e ≡ true → not_null (expr_value f e) ≡ true
sure_expr defs v rows f s (expr.Col c) kinds h =
    let own : (has_number v.tables c.table ≡ true) × (never_null defs c ≡ true)
    = and_parts (has_number v.tables c.table) (never_null defs c) (and_parts (has_number v.tables c.table && never_null defs c) true h).0 in
    s.there c own.0 own.1
sure_expr defs v rows f s (expr.Product a b) kinds h =
    let two : ((has_number v.tables a.table && never_null defs a) ≡ true) × (((has_number v.tables b.table && never_null defs b) && true) ≡ true)
    = and_parts (has_number v.tables a.table && never_null defs a) ((has_number v.tables b.table && never_null defs b) && true) h in
    let at_a : (has_number v.tables a.table ≡ true) × (never_null defs a ≡ true) = and_parts (has_number v.tables a.table) (never_null defs a) two.0 in
    let at_b : (has_number v.tables b.table ≡ true) × (never_null defs b ≡ true)
    = and_parts (has_number v.tables b.table) (never_null defs b) (and_parts (has_number v.tables b.table && never_null defs b) true two.1).0 in
    product_sure (f a) (f b) (s.there a at_a.0 at_a.1) (s.there b at_b.0 at_b.1) (s.numbers a at_a.0 kinds.0) (s.numbers b at_b.0 kinds.1)
sure_expr defs v rows f s (expr.Lit n) kinds h = refl

module _ (defs : List TableDef) (q v : StarQuery) (base : Base) (same : SameFrom q v) (given : Each (ItemGiven defs q v) q.items)
    (selected : v.grouped ≡ true → Each (λ d. has_column v.keys d ≡ true) (flat_map plain_columns v.items))
    (rely : Bool) (rows_fine : RowsFine defs v.tables rely (rows_at base)) (kinds : Each (KindsFine (rows_at base)) (query_aggs q)) where
  abbrev rows : ℕ → List RowAt
  rows = rows_at base

  abbrev ts : List Env
  ts = joined_envs v rows

  -- the tuples are the same
  tuples_are : joined_envs q rows ≡ ts
  tuples_are = λ i. filter (λ e. list_all (edge_true (env_value e)) (same.edges i) && conditions_true (env_value e) (same.conditions i)) (envs rows (same.tables i))

  abbrev TupleOk : Env → Type 0
  TupleOk t = (list_all (edge_true (env_value t)) v.edges ≡ true) × Sure_values defs v rows (env_value t)

  under : {A : Type 0} {X : Type 0} (H : X → Type 0) (Q : X → A → Type 0) (xs : List A) → ((y : X) → H y → Each (Q y) xs) → Each (λ a. (y : X) → H y → Q y a) xs
  under H Q [] f = tt
  under H Q (a ∷ xs) f = ((λ y h. (f y h).0), under H Q xs (λ y h. (f y h).1))

  abbrev RowOk : ℕ → RowAt → Type 0
  RowOk m r = ((p : ColPart) → never_null defs (record { table = m; part = p }) ≡ true → not_null (part_value r p) ≡ true) × ((p : ColPart) → Numbers rows (record { table = m; part = p }) → may_be_number (part_value r p) ≡ true)

  tuples_ok : Each TupleOk ts
  tuples_ok =
      Each-map (λ t. (env_true v t ≡ true) × ((m : ℕ) → has_number v.tables m ≡ true → RowOk m (t m))) TupleOk
      (λ t h. (
        (and_parts (list_all (edge_true (env_value t)) v.edges) (conditions_true (env_value t) v.conditions) h.0).0,
        record { there = λ c k. (h.1 c.table k).0 c.part; numbers = λ c k. (h.1 c.table k).1 c.part },
      )) ts
      (Each-both (λ t. env_true v t ≡ true) (λ t. (m : ℕ) → has_number v.tables m ≡ true → RowOk m (t m)) ts (Each-passes (env_true v) (envs rows v.tables))
      (Each-filter (λ t. (m : ℕ) → has_number v.tables m ≡ true → RowOk m (t m)) (env_true v) (envs rows v.tables)
      (env_rows RowOk rows v.tables (λ m. Each-both (λ r. (p : ColPart) → never_null defs (record { table = m; part = p }) ≡ true → not_null (part_value r p) ≡ true)
      (λ r. (p : ColPart) → Numbers rows (record { table = m; part = p }) → may_be_number (part_value r p) ≡ true) (rows m) (rows_fine.sure m)
      (under (λ p. Numbers rows (record { table = m; part = p })) (λ p r. may_be_number (part_value r p) ≡ true) (rows m) (λ p h. h))))))

  -- columns that the joins of both link have one value
  one_of : (t : Env) → TupleOk t → One env_value (linked q v) t
  one_of t h c d k =
      sym (linked_equal (env_value t) (q.edges ++ v.edges) (all-append (edge_true (env_value t)) q.edges v.edges (ap (list_all (edge_true (env_value t))) same.edges ∙ h.0) h.0) c d k)

  sure_of : (a : Agg) → KindsFine rows a → (us : List Env) → Each TupleOk us → SureAgg env_value (linked q v) v defs a us
  sure_of CountAll k us h = tt
  sure_of (Count e) k us h = λ l. Each-map TupleOk (λ t. not_null (expr_value (env_value t) e) ≡ true) (λ t m. sure_expr defs v rows (env_value t) m.1 e k l) us h
  sure_of (Sum e) k us h = tt
  sure_of (Avg e) k us h = tt
  sure_of (Min e) k us h = tt
  sure_of (Max e) k us h = tt

  item_kinds : Each (λ i. Each (KindsFine rows) (item_aggs i)) q.items
  item_kinds = Each-parts (KindsFine rows) item_aggs q.items (Each-split (KindsFine rows) (selected_aggs q) (map (λ t. t.agg) q.having) kinds).0

  -- ---- a group's entry

  rolled_one : (o : Option Origin) (a : Agg) (g : Grouped Env) → Kind env_value (linked q v) v defs o a → ServedBy env_value (linked q v) v defs (group_row env_value v g) o a g
      → option_case o Null (rolled (group_row env_value v g ∷ [])) ≡ agg_value env_value g.1 a
  rolled_one None a g kind served = absurd kind
  rolled_one (Some o) a g kind served =
      rolled_parts (group_row env_value v) (λ x. wanted_values env_value a x.1) o (g ∷ []) (served, tt)
      ∙ ap (whole o) (append-nil (wanted_values env_value a g.1)) ∙ sym (kind g.1)

  -- what is so of each group
  abbrev GroupOk : Grouped Env → Type 0
  GroupOk g = (is_empty v.keys ≡ false → is_empty g.1 ≡ false) × (Each TupleOk g.1 × Each (λ t. key_of env_value v.keys t ≡ g.0) g.1)

  groups_ok : Each GroupOk (groups env_value v.keys ts)
  groups_ok =
      Each-both (λ g. is_empty v.keys ≡ false → is_empty g.1 ≡ false) (λ g. Each TupleOk g.1 × Each (λ t. key_of env_value v.keys t ≡ g.0) g.1) (groups env_value v.keys ts) (full v.keys)
      (Each-both (λ g. Each TupleOk g.1) (λ g. Each (λ t. key_of env_value v.keys t ≡ g.0) g.1) (groups env_value v.keys ts) (groups_in TupleOk env_value v.keys ts tuples_ok) (of_key env_value v.keys ts))
    where
      full : (keys : List ColRef) → Each (λ g. is_empty keys ≡ false → is_empty g.1 ≡ false) (groups env_value keys ts)
      full [] = ((λ h. absurd (let e : true ≡ false = h in cc)), tt)
      full (c ∷ cs) = Each-map (λ g. is_empty g.1 ≡ false) (λ g. false ≡ false → is_empty g.1 ≡ false) (λ g h k. h) (groups env_value (c ∷ cs) ts) (groups_full (key_of env_value (c ∷ cs)) ts)

  selected_key : (c : ColRef) (is : List Item) → Each (λ d. has_column v.keys d ≡ true) (flat_map plain_columns is) → list_any (λ i. same_item (item.Col c) i) is ≡ true → has_column v.keys c ≡ true
  selected_key c [] h k = cc
  selected_key c (item.Col d ∷ is) h k = by (same_column c d) refl k (selected_key c is h.1)
    where
      by : (b : Bool) → same_column c d ≡ b → (b || list_any (λ i. same_item (item.Col c) i) is) ≡ true → (list_any (λ i. same_item (item.Col c) i) is ≡ true → has_column v.keys c ≡ true) → has_column v.keys c ≡ true
      by true e k rest = ap (has_column v.keys) (same_column_is c d e) ∙ h.0
      by false e k rest = rest k
  selected_key c (item.Agg a ∷ is) h k = selected_key c is h k

  group_item_given : v.grouped ≡ true → (g : Grouped Env) → GroupOk g → (i : Item) → ItemGiven defs q v i → Each (KindsFine rows) (item_aggs i)
      → entry_item defs q v (group_row env_value v g) i ≡ group_item env_value v.keys g i
  group_item_given grouped g ok (item.Agg a) h k =
      rolled_one (origin defs (linked q v) v a) a g (kind_of env_value (linked q v) v defs a h.1)
      (serves_of env_value (linked q v) v defs g (group_row env_value v g) (at_place env_value (linked q v) v g (Each-map TupleOk (One env_value (linked q v)) one_of g.1 ok.1.0)) a
      (sure_of a k.0 g.1 ok.1.0) h.1)
  group_item_given grouped g ok (item.Col c) h k =
      let key : has_column v.keys c ≡ true = selected_key c v.items (selected grouped) h in
      by g.1 refl (ok.0 (some_keys v.keys key)) ok.1.0 ok.1.1 key
    where
      some_keys : (ks : List ColRef) → has_column ks c ≡ true → is_empty ks ≡ false
      some_keys [] e = cc
      some_keys (d ∷ ds) e = refl

      by : (us : List Env) → g.1 ≡ us → is_empty us ≡ false → Each TupleOk us → Each (λ t. key_of env_value v.keys t ≡ g.0) us → has_column v.keys c ≡ true → placed (view_layout v) (group_row env_value v g) c ≡ key_value v.keys g.0 c
      by [] e full oks keys key = absurd (let f : true ≡ false = full in cc)
      by (t ∷ us) e full oks keys key =
          ap (λ x. placed (view_layout v) (map (group_item env_value v.keys (x, g.1)) v.items) c) (sym keys.0)
          ∙ placed_is env_value v t g.1 c oks.0.0 (selected grouped) (selected_stands v c v.items h)
          ∙ sym (key_value_is (env_value t) v.keys c key)
          ∙ ap (λ x. key_value v.keys x c) keys.0

  group_rows : v.grouped ≡ true → SameCounts (map (λ e. map (entry_item defs q v e.row) q.items) (grouped_entries env_value v ts)) (map (λ e. e.row) (grouped_entries env_value q ts))
  group_rows grouped p =
      ap (times p)
      (map-map (λ e. map (entry_item defs q v e.row) q.items) (group_entry env_value v) (filter (λ g. list_all (test_true env_value g) v.having) (groups env_value v.keys ts))
      ∙ map_alike (λ g. map (entry_item defs q v (group_row env_value v g)) q.items) (λ g. map (group_item env_value q.keys g) q.items) (filter (λ g. list_all (test_true env_value g) v.having) (groups env_value v.keys ts))
      (Each-map GroupOk (λ g. map (entry_item defs q v (group_row env_value v g)) q.items ≡ map (group_item env_value q.keys g) q.items)
      (λ g ok. map_alike (entry_item defs q v (group_row env_value v g)) (group_item env_value v.keys g) q.items
      (Each-map (λ i. ItemGiven defs q v i × Each (KindsFine rows) (item_aggs i)) (λ i. entry_item defs q v (group_row env_value v g) i ≡ group_item env_value v.keys g i)
      (λ i h. group_item_given grouped g ok i h.0 h.1) q.items (Each-both (ItemGiven defs q v) (λ i. Each (KindsFine rows) (item_aggs i)) q.items given item_kinds))
      ∙ ap (λ ks. map (group_item env_value ks g) q.items) (sym same.keys))
      (filter (λ g. list_all (test_true env_value g) v.having) (groups env_value v.keys ts))
      (Each-filter GroupOk (λ g. list_all (test_true env_value g) v.having) (groups env_value v.keys ts) groups_ok))
      ∙ (λ i. map (λ g. map (group_item env_value q.keys g) q.items) (filter (λ g. list_all (test_true env_value g) (sym same.having i)) (groups env_value (sym same.keys i) ts)))
      ∙ sym (map-map (λ e. e.row) (group_entry env_value q) (filter (λ g. list_all (test_true env_value g) q.having) (groups env_value q.keys ts))))

  -- ---- a tuple's entry

  plain_given : q.grouped ≡ false → (t : Env) → TupleOk t → (i : Item) → ItemGiven defs q v i → entry_item defs q v (tuple_row env_value v t) i ≡ plain_item (env_value t) i
  plain_given plain t ok (item.Col c) h = sym (placed_plain env_value v t c ok.0 (selected_stands v c v.items h))
  plain_given plain t ok (item.Agg a) h = absurd (let e : true ≡ false = sym h.0 ∙ plain in cc)

  plain_rows : q.grouped ≡ false → SameCounts (map (λ e. map (entry_item defs q v e.row) q.items) (plain_entries env_value v ts)) (map (λ e. e.row) (plain_entries env_value q ts))
  plain_rows plain p =
      ap (times p)
      (map-map (λ e. map (entry_item defs q v e.row) q.items) (λ t. record { key = []; row = tuple_row env_value v t }) ts
      ∙ map_alike (λ t. map (entry_item defs q v (tuple_row env_value v t)) q.items) (λ t. map (plain_item (env_value t)) q.items) ts
      (Each-map TupleOk (λ t. map (entry_item defs q v (tuple_row env_value v t)) q.items ≡ map (plain_item (env_value t)) q.items)
      (λ t ok. map_alike (entry_item defs q v (tuple_row env_value v t)) (plain_item (env_value t)) q.items
      (Each-map (ItemGiven defs q v) (λ i. entry_item defs q v (tuple_row env_value v t) i ≡ plain_item (env_value t) i) (plain_given plain t ok) q.items given)) ts tuples_ok)
      ∙ sym (map-map (λ e. e.row) (λ t. record { key = []; row = map (plain_item (env_value t)) q.items }) ts))

  -- **the theorem**
  pub text_means : in_order q.order (text_rows defs q v (stored v base)) ≡ meaning q base
  text_means =
      same_rows_in_order q.order (text_rows defs q v (stored v base)) (map (λ e. e.row) (stored q base))
      (SameCounts-trans (text_rows defs q v (stored v base)) (map (λ e. e.row) (entries env_value q (joined_envs q rows))) (map (λ e. e.row) (stored q base))
      (λ p. SameCounts-map (λ e. map (entry_item defs q v e.row) q.items) (stored v base) (entries (column_value v.tables) v (joined v base)) (sorted_counts entry_cmp (entries (column_value v.tables) v (joined v base))) p
      ∙ ap (λ es. times p (map (λ (e : ViewEntry). map (entry_item defs q v e.row) q.items) es)) (entries_are v v rows)
      ∙ by v.grouped refl p
      ∙ ap (λ us. times p (map (λ e. e.row) (entries env_value q us))) (sym tuples_are))
      (λ p. ap (λ es. times p (map (λ (e : ViewEntry). e.row) es)) (sym (entries_are q q rows))
      ∙ sym (SameCounts-map (λ e. e.row) (stored q base) (entries (column_value q.tables) q (joined q base)) (sorted_counts entry_cmp (entries (column_value q.tables) q (joined q base))) p)))
    where
      by : (b : Bool) → v.grouped ≡ b → SameCounts (map (λ e. map (entry_item defs q v e.row) q.items) (cond v.grouped (grouped_entries env_value v ts) (plain_entries env_value v ts)))
          (map (λ e. e.row) (cond q.grouped (grouped_entries env_value q ts) (plain_entries env_value q ts)))
      by true e p =
          ap (λ b. times p (map (λ (x : ViewEntry). map (entry_item defs q v x.row) q.items) (cond b (grouped_entries env_value v ts) (plain_entries env_value v ts)))) e
          ∙ group_rows e p
          ∙ ap (λ b. times p (map (λ (x : ViewEntry). x.row) (cond b (grouped_entries env_value q ts) (plain_entries env_value q ts)))) (sym (same.grouped ∙ e))
      by false e p =
          ap (λ b. times p (map (λ (x : ViewEntry). map (entry_item defs q v x.row) q.items) (cond b (grouped_entries env_value v ts) (plain_entries env_value v ts)))) e
          ∙ plain_rows (same.grouped ∙ e) p
          ∙ ap (λ b. times p (map (λ (x : ViewEntry). x.row) (cond b (grouped_entries env_value q ts) (plain_entries env_value q ts)))) (sym (same.grouped ∙ e))
