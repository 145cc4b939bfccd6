-- What is so of the tuples of a view before a table is joined back, and where a table of the query starts.
use Rattle.std.proofs.Common.{◌≡◌, ◌∙◌, sym, ap, subst, refl, arith, ℕ, ◌+◌, ◌≤◌, Bool, true, false, cond, not, List, [], ◌∷◌, map, Option, Some, None}
use Rattle.std.specs.Prelude.{◌&&◌, ◌||◌, ◌==◌, find}
use Rattle.std.specs.List.{flat_map, list_all}
use Rattle.std.proofs.lemmas.Bool.{eqb-true, and_parts}
use Rattle.std.proofs.lemmas.List.{append-nil}
use Rattle.wh_base.specs.Columns.{has_column, same_column}
use Rattle.wh_base.specs.Lists.{has_number}
use Rattle.wh_base.specs.Tables.{Base, never_null}
use Rattle.wh_base.specs.Values.{equal_not_null}
use Rattle.wh_base.proofs.Same.{same_value-Decides}
use Rattle.wh_base.proofs.Sorting.{times}
use Rattle.wh_base.specs.declared.columns.ColPart.{ColPart}
use Rattle.wh_base.specs.declared.queries.Edge.{Edge}
use Rattle.wh_base.specs.declared.queries.Item.{Item}
use Rattle.wh_base.specs.declared.queries.Item.TheVariants as item
use Rattle.wh_base.specs.declared.queries.StarQuery.{StarQuery}
use Rattle.wh_base.specs.declared.tables.RowAt.{RowAt}
use Rattle.wh_base.specs.declared.tables.TableDef.{TableDef}
use Rattle.wh_base.specs.declared.values.Value.{Value}
use Rattle.def_meaning.specs.Joined.{conditions_true, edge_true, part_value, rows_at}
use Rattle.def_meaning.specs.Meaning.{Grouped, group_item, key_of, key_value, not_null, plain_item}
use Rattle.def_restrictions.specs.Definition.{item_columns}
use Rattle.def_rewriting.specs.Compatible.{join_into, same_edge}
use Rattle.def_rewriting.specs.Reaching.{Place, item_place, layout, plain_columns, view_layout}
use Rattle.law_lists.proofs.Each.{Each-both, Each-from_all, Each-filter, Each-map, Each-passes}
use Rattle.law_lists.proofs.Counts.{one_if}
use Rattle.law_lists.proofs.Columns.{key_value_is}
use Rattle.wh_base.proofs.SameItems.{same_column_is}
use Rattle.law_rewrite.specs.Words.{Each}
use Rattle.law_rewrite.proofs.Answering.{Each-split}
use Rattle.law_rewrite.proofs.Fresh.{group_row}
use Rattle.law_rewrite.proofs.Envs.{Env, env_true, env_value, envs, joined_envs}
use Rattle.law_rewrite.proofs.Joins.{own_joins}
use Rattle.law_rewrite.proofs.Finding.{AtMost}
use Rattle.law_rewrite.proofs.Tuples.{EndsIn, Related, ends_in, env_rows}
use Rattle.law_rewrite.proofs.Linking.{Sound, true_level}
use Rattle.law_rewrite.proofs.Cells.{Cells, ColumnIn, PlaceFor, RightFor, find_gives, view_places}
use Rattle.law_rewrite.proofs.Joining.{Fact, LayoutFine, Numbers, TupleFact, may_be_number}

-- the row itself is found by a key that is that of one row at most
own_found : (p : ColPart) (rs : List RowAt) → ((w : Value) → times (λ r. equal_not_null w (part_value r p)) rs ≤ 1)
    → Each (λ s. not_null (part_value s p) ≡ true → find (λ r. equal_not_null (part_value s p) (part_value r p)) rs ≡ Some s) rs
own_found p [] few = tt
own_found p (x ∷ xs) few = (λ h. ap (λ b. cond b (Some x) (find (λ r. equal_not_null (part_value x p) (part_value r p)) xs)) (meets x h), later xs few_later (own_found p xs fewer))
  where
    meets : (s : RowAt) → not_null (part_value s p) ≡ true → equal_not_null (part_value s p) (part_value s p) ≡ true
    meets s h = λ i. h i && (same_value-Decides (part_value s p) (part_value s p)).1 refl i

    fewer : (w : Value) → times (λ r. equal_not_null w (part_value r p)) xs ≤ 1
    fewer w = omega (arith, few w)

    -- no later row has the value of the first
    few_later : (w : Value) → equal_not_null w (part_value x p) ≡ true → times (λ r. equal_not_null w (part_value r p)) xs ≡ 0
    few_later w h = let one : one_if (equal_not_null w (part_value x p)) ≡ 1 = ap one_if h in omega (arith, few w, one)

    later : (ys : List RowAt) → ((w : Value) → equal_not_null w (part_value x p) ≡ true → times (λ r. equal_not_null w (part_value r p)) ys ≡ 0)
        → Each (λ s. not_null (part_value s p) ≡ true → find (λ r. equal_not_null (part_value s p) (part_value r p)) xs ≡ Some s) ys
        → Each (λ s. not_null (part_value s p) ≡ true → find (λ r. equal_not_null (part_value s p) (part_value r p)) (x ∷ xs) ≡ Some s) ys
    later [] none h = tt
    later (s ∷ ys) none h = (
      λ k. by k (equal_not_null (part_value s p) (part_value x p)) refl,
      later ys (λ w m. zero (one_if (equal_not_null w (part_value s p))) (times (λ r. equal_not_null w (part_value r p)) ys) (none w m)) h.1,
    )
      where
        zero : (a b : ℕ) → a + b ≡ 0 → b ≡ 0
        zero a b e = omega (arith, e)

        by : not_null (part_value s p) ≡ true → (b : Bool) → equal_not_null (part_value s p) (part_value x p) ≡ b
            → cond b (Some x) (find (λ r. equal_not_null (part_value s p) (part_value r p)) xs) ≡ Some s
        by k true e =
            absurd (let one : one_if (equal_not_null (part_value s p) (part_value s p)) ≡ 1 = ap one_if (meets s k) in omega (arith, none (part_value s p) e, one))
        by k false e = h.0 k

module _ (defs : List TableDef) (q v : StarQuery) (base : Base) (x : Related defs q v (rows_at base)) where
  abbrev rows : ℕ → List RowAt
  rows = rows_at base

  abbrev theirs : ℕ → Bool
  theirs n = has_number v.tables n

  -- what is so of each row of a table
  record RowFact (m : ℕ) (r : RowAt) : Type 0 where
    own : (p : ColPart) → AtMost rows (record { table = m; part = p }) → not_null (part_value r p) ≡ true → find (λ s. equal_not_null (part_value r p) (part_value s p)) (rows m) ≡ Some r
    sure : (p : ColPart) → never_null defs (record { table = m; part = p }) ≡ true → not_null (part_value r p) ≡ true
    numbers : (p : ColPart) → Numbers rows (record { table = m; part = p }) → may_be_number (part_value r p) ≡ true
    among : (p : RowAt → Bool) → list_all p (rows m) ≡ true → p r ≡ true

  under : {A : Type 0} {X : Type 0} (H : X → Type 0) (Q : X → A → Type 0) (xs : List A) → ((y : X) → H y → Each (Q y) xs) → Each (λ a. (y : X) → H y → Q y a) xs
  under H Q [] f = tt
  under H Q (a ∷ xs) f = ((λ y h. (f y h).0), under H Q xs (λ y h. (f y h).1))

  abbrev Owns : ℕ → RowAt → Type 0
  Owns m r = (p : ColPart) → AtMost rows (record { table = m; part = p }) → not_null (part_value r p) ≡ true → find (λ s. equal_not_null (part_value r p) (part_value s p)) (rows m) ≡ Some r

  abbrev IsSure : ℕ → RowAt → Type 0
  IsSure m r = (p : ColPart) → never_null defs (record { table = m; part = p }) ≡ true → not_null (part_value r p) ≡ true

  abbrev HasNumbers : ℕ → RowAt → Type 0
  HasNumbers m r = (p : ColPart) → Numbers rows (record { table = m; part = p }) → may_be_number (part_value r p) ≡ true

  abbrev IsAmong : ℕ → RowAt → Type 0
  IsAmong m r = (p : RowAt → Bool) → list_all p (rows m) ≡ true → p r ≡ true

  row_facts : (m : ℕ) → Each (RowFact m) (rows m)
  row_facts m =
      Each-map (λ r. IsAmong m r × (Owns m r × (IsSure m r × HasNumbers m r))) (RowFact m) (λ r h. record { own = h.1.0; sure = h.1.1.0; numbers = h.1.1.1; among = h.0 }) (rows m)
      (Each-both (IsAmong m) (λ r. Owns m r × (IsSure m r × HasNumbers m r)) (rows m) (under (λ p. list_all p (rows m) ≡ true) (λ p r. p r ≡ true) (rows m) (λ p h. Each-from_all p (rows m) h))
      (Each-both (Owns m) (λ r. IsSure m r × HasNumbers m r) (rows m)
      (under (λ p. AtMost rows (record { table = m; part = p })) (λ p r. not_null (part_value r p) ≡ true → find (λ s. equal_not_null (part_value r p) (part_value s p)) (rows m) ≡ Some r) (rows m) (λ p few. own_found p (rows m) few))
      (Each-both (IsSure m) (HasNumbers m) (rows m) (x.sure m)
      (under (λ p. Numbers rows (record { table = m; part = p })) (λ p r. may_be_number (part_value r p) ≡ true) (rows m) (λ p h. h)))))

  pub tuple_facts : Each (TupleFact defs q v base) (joined_envs v rows)
  tuple_facts =
      Each-map (λ t. (env_true v t ≡ true) × ((m : ℕ) → theirs m ≡ true → RowFact m (t m))) (TupleFact defs q v base)
      (λ t h. record {
        joins = (and_parts (list_all (edge_true (env_value t)) v.edges) (conditions_true (env_value t) v.conditions) h.0).0;
        own = λ c k few n. (h.1 c.table k).own c.part few n;
        sure = λ c k n. (h.1 c.table k).sure c.part n;
        numbers = λ c k n. (h.1 c.table k).numbers c.part n;
        among = λ m k r n. (h.1 m k).among r n;
      }) (joined_envs v rows)
      (Each-both (λ t. env_true v t ≡ true) (λ t. (m : ℕ) → theirs m ≡ true → RowFact m (t m)) (joined_envs v rows) (Each-passes (env_true v) (envs rows v.tables))
      (Each-filter (λ t. (m : ℕ) → theirs m ≡ true → RowFact m (t m)) (env_true v) (envs rows v.tables) (env_rows RowFact rows v.tables row_facts)))

  -- a join of the query to a table of both is the view's
  at_table : (n : ℕ) (ns : List ℕ) → has_number ns n ≡ true → list_all (λ m. not (theirs m) || same_edge (join_into q m) (join_into v m)) ns ≡ true → (not (theirs n) || same_edge (join_into q n) (join_into v n)) ≡ true
  at_table n [] h k = cc
  at_table n (m ∷ ns) h k =
      let both : ((not (theirs m) || same_edge (join_into q m) (join_into v m)) ≡ true) × (list_all (λ m. not (theirs m) || same_edge (join_into q m) (join_into v m)) ns ≡ true)
      = and_parts (not (theirs m) || same_edge (join_into q m) (join_into v m)) (list_all (λ m. not (theirs m) || same_edge (join_into q m) (join_into v m)) ns) k in
      by (m == n) refl h both.0 (λ g. at_table n ns g both.1)
    where
      by : (b : Bool) → (m == n) ≡ b → (b || has_number ns n) ≡ true → (not (theirs m) || same_edge (join_into q m) (join_into v m)) ≡ true
          → (has_number ns n ≡ true → (not (theirs n) || same_edge (join_into q n) (join_into v n)) ≡ true) → (not (theirs n) || same_edge (join_into q n) (join_into v n)) ≡ true
      by true e g here rest = subst (λ j. (not (theirs j) || same_edge (join_into q j) (join_into v j)) ≡ true) (eqb-true m n e) here
      by false e g here rest = rest g

  -- a join of the query to a table of both holds in each tuple of the view
  pub common_true : (t : Env) → TupleFact defs q v base t → (e : Edge) → EndsIn q.tables e → join_into q e.to.table ≡ Some e → theirs e.to.table ≡ true
      → (theirs e.from.table ≡ true) × (edge_true (env_value t) e ≡ true)
  common_true t fact e ends own k =
      by (join_into v e.to.table) refl
      (ap (λ o. same_edge o (join_into v e.to.table)) (sym own) ∙ (sym (ap (λ b. not b || same_edge (join_into q e.to.table) (join_into v e.to.table)) k) ∙ at_table e.to.table q.tables ends.1 x.same_joins))
    where
      by : (o : Option Edge) → join_into v e.to.table ≡ o → same_edge (Some e) o ≡ true → (theirs e.from.table ≡ true) × (edge_true (env_value t) e ≡ true)
      by None f g = cc
      by (Some d) f g =
          let both : (same_column e.from d.from ≡ true) × (same_column e.to d.to ≡ true) = and_parts (same_column e.from d.from) (same_column e.to d.to) g in
          let is : d ≡ e = λ i. record { from = sym (same_column_is e.from d.from both.0) i; to = sym (same_column_is e.to d.to both.1) i } in
          subst (λ y. (theirs y.from.table ≡ true) × (edge_true (env_value t) y ≡ true)) is
          (find_gives (λ y. y.to.table == e.to.table) (λ y. (theirs y.from.table ≡ true) × (edge_true (env_value t) y ≡ true)) v.edges d
          (Each-both (λ y. theirs y.from.table ≡ true) (λ y. edge_true (env_value t) y ≡ true) v.edges
          (Each-map (EndsIn v.tables) (λ y. theirs y.from.table ≡ true) (λ y k. k.0) v.edges (ends_in defs v x.tree_v)) (Each-from_all (edge_true (env_value t)) v.edges fact.joins)) f).0

  -- and is level
  common_sound : (t : Env) → TupleFact defs q v base t → Each (Sound defs theirs (env_value t)) q.edges
  common_sound t fact =
      Each-map (λ e. (EndsIn q.tables e) × (join_into q e.to.table ≡ Some e)) (Sound defs theirs (env_value t))
      (λ e h k. let both : (theirs e.from.table ≡ true) × (edge_true (env_value t) e ≡ true) = common_true t fact e h.0 h.1 k in (both.0, true_level (env_value t) e both.1)) q.edges
      (Each-both (EndsIn q.tables) (λ e. join_into q e.to.table ≡ Some e) q.edges (ends_in defs q x.tree_q) (own_joins defs q x.tree_q))

  pub start_fact : (t : Env) → TupleFact defs q v base t → Fact defs q v base v.tables t t
  start_fact t fact = record { tuple = fact; same = λ m h. refl; sound = common_sound t fact }

  pub start_layout : Each (λ c. theirs c.table ≡ true) (flat_map item_columns v.items) → LayoutFine defs q v base v.tables []
  start_layout own = record {
    theirs = λ m h. h;
    within = subst (Each (λ p. ColumnIn theirs p.column)) (sym (append-nil (view_layout v))) (each v.items own);
    places = subst (Each (λ p. PlaceFor q v p.column p.equals)) (sym (append-nil (view_layout v))) (view_places q v);
  }
    where
      each : (is : List Item) → Each (λ c. theirs c.table ≡ true) (flat_map item_columns is) → Each (λ (p : Place). ColumnIn theirs p.column) (map (item_place v) is)
      each [] h = tt
      each (item.Col c ∷ is) h = (h.0, each is h.1)
      each (item.Agg a ∷ is) h = (tt, each is (Each-split (λ c. theirs c.table ≡ true) (item_columns (item.Agg a)) (flat_map item_columns is) h).1)

  -- the row of a group has the values of the group's tuples
  pub group_cells : (g : Grouped Env) (t : Env) → key_of env_value v.keys t ≡ g.0 → Each (λ d. has_column v.keys d ≡ true) (flat_map plain_columns v.items)
      → Cells (layout q v []) (group_row env_value v g) (env_value t)
  group_cells g t key selected =
      subst (λ ps. Cells ps (group_row env_value v g) (env_value t)) (sym (append-nil (view_layout v)))
      (record { cells = map cell v.items; places_are = places v.items; row_is = values v.items; right = each v.items selected })
    where
      cell : Item → Place × Value
      cell i = (item_place v i, group_item env_value v.keys g i)

      places : (is : List Item) → map (λ p. p.0) (map cell is) ≡ map (item_place v) is
      places [] = refl
      places (i ∷ is) = ap (λ ps. item_place v i ∷ ps) (places is)

      values : (is : List Item) → map (λ p. p.1) (map cell is) ≡ map (group_item env_value v.keys g) is
      values [] = refl
      values (i ∷ is) = ap (λ ws. group_item env_value v.keys g i ∷ ws) (values is)

      each : (is : List Item) → Each (λ d. has_column v.keys d ≡ true) (flat_map plain_columns is) → Each (λ p. RightFor (env_value t) p.0.column p.1) (map cell is)
      each [] h = tt
      each (item.Col c ∷ is) h = (ap (λ k. key_value v.keys k c) (sym key) ∙ key_value_is (env_value t) v.keys c h.0, each is h.1)
      each (item.Agg a ∷ is) h = (tt, each is h)

  -- the row of a tuple has its values
  pub tuple_cells : (t : Env) → Cells (layout q v []) (map (plain_item (env_value t)) v.items) (env_value t)
  tuple_cells t =
      subst (λ ps. Cells ps (map (plain_item (env_value t)) v.items) (env_value t)) (sym (append-nil (view_layout v)))
      (record { cells = map cell v.items; places_are = places v.items; row_is = values v.items; right = each v.items })
    where
      cell : Item → Place × Value
      cell i = (item_place v i, plain_item (env_value t) i)

      places : (is : List Item) → map (λ p. p.0) (map cell is) ≡ map (item_place v) is
      places [] = refl
      places (i ∷ is) = ap (λ ps. item_place v i ∷ ps) (places is)

      values : (is : List Item) → map (λ p. p.1) (map cell is) ≡ map (plain_item (env_value t)) is
      values [] = refl
      values (i ∷ is) = ap (λ ws. plain_item (env_value t) i ∷ ws) (values is)

      each : (is : List Item) → Each (λ p. RightFor (env_value t) p.0.column p.1) (map cell is)
      each [] = tt
      each (item.Col c ∷ is) = (refl, each is)
      each (item.Agg a ∷ is) = (tt, each is)
