-- A fast refresh of an aggregate view reads no column of the changed rows but those that the query uses.
use Rattle.std.proofs.Common.{◌≡◌, ◌∙◌, sym, ap, refl, ℕ, suc, Bool, true, false, cond, not, List, [], ◌∷◌, ◌++◌, length, map, Some, None}
use Rattle.std.specs.Prelude.{filter, ◌==◌, ◌&&◌}
use Rattle.std.specs.List.{list_all, list_any}
use Rattle.std.proofs.lemmas.List.{map-append}
use Rattle.std.proofs.lemmas.Simd.{map-map}
use Rattle.wh_base.specs.Lists.{has_number}
use Rattle.wh_base.specs.Values.{equal_not_null, is_null, is_true_that, product_value, same_values}
use Rattle.wh_base.specs.declared.columns.Agg.{Agg}
use Rattle.wh_base.specs.declared.columns.Agg.TheVariants.{Avg, Count, CountAll, Max, Min, Sum}
use Rattle.wh_base.specs.declared.columns.ColRef.{ColRef}
use Rattle.wh_base.specs.declared.columns.Expr.{Expr}
use Rattle.wh_base.specs.declared.queries.Condition.{Condition}
use Rattle.wh_base.specs.declared.queries.Condition.TheVariants.{Compare, IsNull, NotNull, OneOf}
use Rattle.wh_base.specs.declared.queries.Edge.{Edge}
use Rattle.wh_base.specs.declared.queries.Item.{Item}
use Rattle.wh_base.specs.declared.queries.StarQuery.{StarQuery}
use Rattle.wh_base.specs.declared.tables.RowAt.{RowAt}
use Rattle.wh_base.specs.declared.values.Op.TheVariants.{Eq}
use Rattle.wh_base.specs.declared.values.Value.{Value}
use Rattle.wh_base.specs.declared.views.ViewEntry.{ViewEntry}
use Rattle.def_meaning.specs.Accumulated.{acc_by, acc_of, agg_values}
use Rattle.def_meaning.specs.Joined.{column_value, condition_true, conditions_true, edge_true, part_value, product, row_of, tuple_true}
use Rattle.def_meaning.specs.Meaning.{expr_value, key_of, not_null, values_of}
use Rattle.wh_base.specs.declared.columns.Expr.TheVariants as expr
use Rattle.wh_base.specs.declared.queries.Item.TheVariants as item
use Rattle.law_lists.proofs.Lists.{filter-map}
use Rattle.law_delta.specs.Deltas.{front_by}
use Rattle.law_delta.specs.Masked.{AggUsed, ConditionUsed, Each, EdgeUsed, ExprUsed, ItemUsed, UsesOnly, at_first}
use Rattle.law_delta.specs.Moved.{count_in, found_row, moved_agg, moved_item, moved_row, row_after, row_says, side_tuples, with_key, with_rows, counting, known_acc, moved_acc}
use Rattle.law_delta.proofs.Star.{root_rows}
use Rattle.def_meaning.specs.Accumulated.{acc_value}

map-pointwise : {A B : Type 0} (f g : A → B) (xs : List A) → ((x : A) → f x ≡ g x) → map f xs ≡ map g xs
map-pointwise f g xs h = λ i. map (λ x. h x i) xs

module _ {T : Type 0} (value : T → ColRef → Value) (used : ColRef → Bool) (g : T → T) (agree : (t : T) (c : ColRef) → used c ≡ true → value (g t) c ≡ value t c) where
  expr_agree : (e : Expr) → ExprUsed used e → (t : T) → expr_value (value (g t)) e ≡ expr_value (value t) e
  expr_agree (expr.Col c) h t = agree t c h
  expr_agree (expr.Product a b) h t = λ i. product_value (agree t a h.0 i) (agree t b h.1 i)
  expr_agree (expr.Lit n) h t = refl

  values_agree : (e : Expr) → ExprUsed used e → (ts : List T) → values_of value e (map g ts) ≡ values_of value e ts
  values_agree e h ts = ap (filter not_null) (map-map (λ t. expr_value (value t) e) g ts ∙ map-pointwise (λ t. expr_value (value (g t)) e) (λ t. expr_value (value t) e) ts (expr_agree e h))

  agg_agree : (a : Agg) → AggUsed used a → (ts : List T) → agg_values value (map g ts) a ≡ agg_values value ts a
  agg_agree CountAll h ts = refl
  agg_agree (Count e) h ts = values_agree e h ts
  agg_agree (Sum e) h ts = values_agree e h ts
  agg_agree (Avg e) h ts = values_agree e h ts
  agg_agree (Min e) h ts = values_agree e h ts
  agg_agree (Max e) h ts = values_agree e h ts

  pub acc_agree : (a : Agg) → AggUsed used a → (ts : List T) → acc_of value (map g ts) a ≡ acc_of value ts a
  acc_agree a h ts = let e : length (map g ts) ≡ length ts = same_length ts in λ i. acc_by (e i) (agg_agree a h ts i)
    where
      same_length : (us : List T) → length (map g us) ≡ length us
      same_length [] = refl
      same_length (u ∷ us) = ap suc (same_length us)

  key_agree : (keys : List ColRef) → Each (λ c. used c ≡ true) keys → (t : T) → key_of value keys (g t) ≡ key_of value keys t
  key_agree [] h t = refl
  key_agree (c ∷ cs) h t = λ i. agree t c h.0 i ∷ key_agree cs h.1 t i

  pub with_key_agree : (keys : List ColRef) → Each (λ c. used c ≡ true) keys → (k : List Value) (ts : List T) → with_key (key_of value keys) k (map g ts) ≡ map g (with_key (key_of value keys) k ts)
  with_key_agree keys h k ts =
      filter-map (λ t. same_values (key_of value keys t) k) g ts
      ∙ (λ i. map g (filter (λ t. same_values (key_agree keys h t i) k) ts))

  pub items_agree : (keys : List ColRef) (k : List Value) (said : Agg → Value) (news olds : List T) (is : List Item) → Each (ItemUsed used) is
      → map (moved_item keys k said (acc_of value (map g news)) (acc_of value (map g olds))) is ≡ map (moved_item keys k said (acc_of value news) (acc_of value olds)) is
  items_agree keys k said news olds [] h = refl
  items_agree keys k said news olds (item.Col c ∷ is) h = ap (λ rest. moved_item keys k said (acc_of value news) (acc_of value olds) (item.Col c) ∷ rest) (items_agree keys k said news olds is h.1)
  items_agree keys k said news olds (item.Agg a ∷ is) h =
      let before = known_acc (count_in (said CountAll)) (count_in (said (counting a))) (said a) in
      λ i. acc_value a (moved_acc before (acc_agree a h.0 news i) (acc_agree a h.0 olds i)) ∷ items_agree keys k said news olds is h.1 i

  -- the row of a key after changes, where the changed tuples are known by the used columns alone
  pub row_agree : (q : StarQuery) → Each (λ c. used c ≡ true) q.keys → Each (ItemUsed used) q.items → (before : List ViewEntry) (olds news : List T) (k : List Value)
      → row_after value q before (map g olds) (map g news) k ≡ row_after value q before olds news k
  row_agree q keys items before olds news k =
      let at : List T → List T = with_key (key_of value q.keys) k in
      let said : Agg → Value = row_says q.items (found_row k before) in
      let rows : count_in (moved_agg said (acc_of value (map g (at news))) (acc_of value (map g (at olds))) CountAll) ≡ count_in (moved_agg said (acc_of value (at news)) (acc_of value (at olds)) CountAll) =
      λ i. count_in (acc_value CountAll (moved_acc (known_acc (count_in (said CountAll)) (count_in (said CountAll)) (said CountAll)) (acc_agree CountAll tt (at news) i) (acc_agree CountAll tt (at olds) i))) in
      (λ i. moved_row q k said (acc_of value (with_key_agree q.keys keys k news i)) (acc_of value (with_key_agree q.keys keys k olds i)))
      ∙ (λ i. cond (rows i == 0) None (Some (items_agree q.keys k said (at news) (at olds) q.items items i)))

-- ---- tuples

module _ (v w : ColRef → Value) (used : ColRef → Bool) (agree : (c : ColRef) → used c ≡ true → v c ≡ w c) where
  condition_agree : (c : Condition) → ConditionUsed used c → condition_true v c ≡ condition_true w c
  condition_agree (Compare c op x) h = ap (λ y. is_true_that y op x) (agree c h)
  condition_agree (OneOf c xs) h = ap (λ y. list_any (is_true_that y Eq) xs) (agree c h)
  condition_agree (IsNull c) h = ap is_null (agree c h)
  condition_agree (NotNull c) h = ap (λ y. not (is_null y)) (agree c h)

  conditions_agree : (cs : List Condition) → Each (ConditionUsed used) cs → conditions_true v cs ≡ conditions_true w cs
  conditions_agree [] h = refl
  conditions_agree (c ∷ cs) h = λ i. condition_agree c h.0 i && conditions_agree cs h.1 i

  edges_agree : (es : List Edge) → Each (EdgeUsed used) es → list_all (edge_true v) es ≡ list_all (edge_true w) es
  edges_agree [] h = refl
  edges_agree (e ∷ es) h = λ i. equal_not_null (agree e.from h.0.0 i) (agree e.to h.0.1 i) && edges_agree es h.1 i

module _ (q : StarQuery) (root : ℕ) (others : List ℕ) (rows : ℕ → List RowAt) (tables : q.tables ≡ root ∷ others) (apart : has_number others root ≡ false)
    (used : ColRef → Bool) (uses : UsesOnly used q) (mask : RowAt → RowAt) (keeps : (r : RowAt) (c : ColRef) → (root == c.table) ≡ true → used c ≡ true → part_value (mask r) c.part ≡ part_value r c.part) where
  pub first_agree : (t : List RowAt) (c : ColRef) → used c ≡ true → column_value q.tables (at_first mask t) c ≡ column_value q.tables t c
  first_agree [] c h = refl
  first_agree (r ∷ rs) c h =
      ap (λ ts. column_value ts (mask r ∷ rs) c) tables ∙ by (root == c.table) (λ e. keeps r c e h) ∙ sym (ap (λ ts. column_value ts (r ∷ rs) c) tables)
    where
      by : (b : Bool) → (b ≡ true → part_value (mask r) c.part ≡ part_value r c.part) → part_value (cond b (mask r) (row_of others rs c.table)) c.part ≡ part_value (cond b r (row_of others rs c.table)) c.part
      by true k = k refl
      by false k = refl

  tuple_agree : (t : List RowAt) → tuple_true q (at_first mask t) ≡ tuple_true q t
  tuple_agree t =
      let same : (c : ColRef) → used c ≡ true → column_value q.tables (at_first mask t) c ≡ column_value q.tables t c = first_agree t in
      λ i. edges_agree (column_value q.tables (at_first mask t)) (column_value q.tables t) used same q.edges uses.edges i
      && conditions_agree (column_value q.tables (at_first mask t)) (column_value q.tables t) used same q.conditions uses.conditions i

  front_masked : (sides : List RowAt) (ts : List (List RowAt)) → front_by (map mask sides) ts ≡ map (at_first mask) (front_by sides ts)
  front_masked [] ts = refl
  front_masked (r ∷ rs) ts =
      (λ i. sym (map-map (at_first mask) (λ rest. r ∷ rest) ts) i ++ front_masked rs ts i)
      ∙ sym (map-append (at_first mask) (map (λ rest. r ∷ rest) ts) (front_by rs ts))

  -- the tuples of masked sides are the masked tuples
  pub tuples_masked : (sides : List RowAt) → side_tuples q root (map mask sides) rows ≡ map (at_first mask) (side_tuples q root sides rows)
  tuples_masked sides =
      let are : (sides : List RowAt) → side_tuples q root sides rows ≡ filter (tuple_true q) (front_by sides (product (map rows others))) = λ sides.
      ap (λ ts. filter (tuple_true q) (product (map (with_rows root sides rows) ts))) tables ∙ ap (λ ls. filter (tuple_true q) (product ls)) (root_rows root sides rows others apart) in
      are (map mask sides)
      ∙ ap (filter (tuple_true q)) (front_masked sides (product (map rows others)))
      ∙ filter-map (tuple_true q) (at_first mask) (front_by sides (product (map rows others)))
      ∙ (λ i. map (at_first mask) (filter (λ t. tuple_agree t i) (front_by sides (product (map rows others)))))
      ∙ ap (map (at_first mask)) (sym (are sides))

  -- so a delta may take the changed rows from the log
  pub row_from_log : (before : List ViewEntry) (olds news : List RowAt) (k : List Value)
      → row_after (column_value q.tables) q before (side_tuples q root (map mask olds) rows) (side_tuples q root (map mask news) rows) k
      ≡ row_after (column_value q.tables) q before (side_tuples q root olds rows) (side_tuples q root news rows) k
  row_from_log before olds news k =
      (λ i. row_after (column_value q.tables) q before (tuples_masked olds i) (tuples_masked news i) k)
      ∙ row_agree (column_value q.tables) used (at_first mask) first_agree q uses.keys uses.items before (side_tuples q root olds rows) (side_tuples q root news rows) k
