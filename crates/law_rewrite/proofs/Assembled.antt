-- **A plan over an eligible view, without a text match, gives the query's meaning.**
use Rattle.std.proofs.Common.{◌≡◌, ◌∙◌, sym, ap, subst, refl, arith, ℕ, ◌+◌, ◌≤◌, Bool, true, false, cond, not, List, [], ◌∷◌, ◌++◌, map, length, Option, Some, None}
use Rattle.std.specs.Prelude.{◌&&◌, ◌||◌, ◌==◌, fold, is_some}
use Rattle.std.specs.List.{filter, flat_map, list_all, list_any}
use Rattle.std.proofs.lemmas.Bool.Decides.{Decides-eqb}
use Rattle.std.proofs.lemmas.Bool.{eqb-true, and_parts}
use Rattle.wh_base.specs.Columns.{agg_columns, same_part}
use Rattle.wh_base.specs.Lists.{first_some, has_number, is_empty, option_case, where_true}
use Rattle.wh_base.specs.Tables.{Base, def_at, never_null}
use Rattle.wh_base.specs.Values.{equal_not_null}
use Rattle.wh_base.proofs.Sorting.{times}
use Rattle.wh_base.specs.declared.columns.Agg.{Agg}
use Rattle.wh_base.specs.declared.columns.ColPart.{ColPart}
use Rattle.wh_base.specs.declared.columns.ColPart.TheVariants.{Col}
use Rattle.wh_base.specs.declared.columns.ColRef.{ColRef}
use Rattle.wh_base.specs.declared.queries.Edge.{Edge}
use Rattle.wh_base.specs.declared.queries.Item.{Item}
use Rattle.wh_base.specs.declared.queries.Item.TheVariants as item
use Rattle.wh_base.specs.declared.queries.StarQuery.{StarQuery}
use Rattle.wh_base.specs.declared.queries.Test.{Test}
use Rattle.wh_base.specs.declared.statements.Level.{Level}
use Rattle.wh_base.specs.declared.tables.ForeignDef.{ForeignDef}
use Rattle.wh_base.specs.declared.tables.RowAt.{RowAt}
use Rattle.wh_base.specs.declared.tables.TableDef.{TableDef}
use Rattle.wh_base.specs.declared.views.Back.{Back}
use Rattle.def_dimensions.specs.Dimensions.{Dimension}
use Rattle.def_dimensions.specs.Relations.{dimension_holds}
use Rattle.def_meaning.specs.Accumulated.{item_aggs, query_aggs, selected_aggs}
use Rattle.def_meaning.specs.Joined.{part_value, rows_at}
use Rattle.def_meaning.specs.Meaning.{in_order, meaning, not_null, stored}
use Rattle.def_resolve.specs.Star.{is_key_column, leads_outwards}
use Rattle.def_restrictions.specs.Definition.{condition_column, item_columns}
use Rattle.def_rewriting.specs.Compatible.{compatible, conditions_implied, extra_tables_hold, failing, foreign_leads, is_table_of, join_into, linked, loses_nothing, may_rely, own_conditions, same_joins, same_root}
use Rattle.def_rewriting.specs.PlanRows.{extended_rows, general_rows}
use Rattle.def_rewriting.specs.Reaching.{Walk, join_key, layout, mark_missing, plain_columns, reach, walk_table, wanted, wanted_by_aggs, wanted_by_joins}
use Rattle.def_rewriting.specs.Rollup.{computable, origin}
use Rattle.law_lists.proofs.Each.{Each-both, Each-append, Each-of_mapped, Each-filter, Each-map, Each-of_map, Each-turn}
use Rattle.law_lists.proofs.Lists.{no_elements}
use Rattle.wh_base.proofs.SameItems.{same_part-Decides}
use Rattle.law_rewrite.specs.Words.{Each}
use Rattle.law_rewrite.specs.Fine.{Declared, HasParent, KindsFine, OwnColumn, RowsFine, StarFine, with_value}
use Rattle.law_rewrite.proofs.Answering.{Each-split}
use Rattle.law_rewrite.proofs.Envs.{Env, env_value}
use Rattle.law_rewrite.proofs.Joins.{no_join, own_joins}
use Rattle.law_rewrite.proofs.Forgetting.{Once}
use Rattle.law_rewrite.proofs.Finding.{AtMost}
use Rattle.law_rewrite.proofs.Tuples.{EndsIn, Related, ends_in, root_in}
use Rattle.law_rewrite.proofs.Reached.{at_own, failed_by}
use Rattle.law_rewrite.proofs.Joining.{TupleFact, Step, StepsFine, back_of, backs_of, joins_of}
use Rattle.law_rewrite.proofs.Staging.{reached}
use Rattle.law_rewrite.proofs.Whole.{Plan, Stand, reads_of}
use Rattle.law_rewrite.proofs.Aggregated.{agg_plan}
use Rattle.law_rewrite.proofs.Tupled.{join_plan}
use Rattle.law_rewrite.proofs.Walking.{JoinedBack, Known, Settled, Walked, turn, no_fail, walked, Nothing, Gained, Found, Turn, common_back, settled_more, settled_nothing}
use Rattle.wh_base.specs.declared.views.Requirement.{Requirement}
use Rattle.wh_base.specs.declared.views.Requirement.TheVariants as requirement

-- ---- counting

times_length : {A : Type 0} (p : A → Bool) (xs : List A) → times p xs ≡ length (filter p xs)
times_length p [] = refl
times_length {A} p (x ∷ xs) = by (p x) (times_length p xs)
  where
    by : (b : Bool) → times p xs ≡ length (filter p xs) → cond b 1 0 + times p xs ≡ length (cond b (x ∷ filter p xs) (filter p xs))
    by true h = omega (arith, h)
    by false h = omega (arith, h)

-- ---- the columns of a star

module _ (defs : List TableDef) (q : StarQuery) (fine : StarFine defs q) where
  of_items : Each (OwnColumn defs q) (flat_map item_columns q.items)
  of_items = (Each-split (OwnColumn defs q) (flat_map item_columns q.items) _ fine.columns).0

  after_items : Each (OwnColumn defs q) (map condition_column q.conditions ++ (flat_map (λ e. e.from ∷ e.to ∷ []) q.edges ++ (q.keys ++ flat_map (λ t. agg_columns t.agg) q.having)))
  after_items = (Each-split (OwnColumn defs q) (flat_map item_columns q.items) (map condition_column q.conditions ++ (flat_map (λ e. e.from ∷ e.to ∷ []) q.edges ++ (q.keys ++ flat_map (λ t. agg_columns t.agg) q.having))) fine.columns).1

  of_conditions : Each (λ c. OwnColumn defs q (condition_column c)) q.conditions
  of_conditions = Each-of_mapped (OwnColumn defs q) condition_column q.conditions (Each-split (OwnColumn defs q) (map condition_column q.conditions) _ after_items).0

  after_conditions : Each (OwnColumn defs q) (flat_map (λ e. e.from ∷ e.to ∷ []) q.edges ++ (q.keys ++ flat_map (λ t. agg_columns t.agg) q.having))
  after_conditions = (Each-split (OwnColumn defs q) (map condition_column q.conditions) (flat_map (λ e. e.from ∷ e.to ∷ []) q.edges ++ (q.keys ++ flat_map (λ t. agg_columns t.agg) q.having)) after_items).1

  of_edges : Each (OwnColumn defs q) (flat_map (λ e. e.from ∷ e.to ∷ []) q.edges)
  of_edges = (Each-split (OwnColumn defs q) (flat_map (λ e. e.from ∷ e.to ∷ []) q.edges) (q.keys ++ flat_map (λ t. agg_columns t.agg) q.having) after_conditions).0

  last : Each (OwnColumn defs q) (q.keys ++ flat_map (λ t. agg_columns t.agg) q.having)
  last = (Each-split (OwnColumn defs q) (flat_map (λ e. e.from ∷ e.to ∷ []) q.edges) (q.keys ++ flat_map (λ t. agg_columns t.agg) q.having) after_conditions).1

  of_keys : Each (OwnColumn defs q) q.keys
  of_keys = (Each-split (OwnColumn defs q) q.keys (flat_map (λ t. agg_columns t.agg) q.having) last).0

  of_having : Each (OwnColumn defs q) (flat_map (λ t. agg_columns t.agg) q.having)
  of_having = (Each-split (OwnColumn defs q) q.keys (flat_map (λ t. agg_columns t.agg) q.having) last).1

  tables_in : (cs : List ColRef) → Each (OwnColumn defs q) cs → Each (λ c. has_number q.tables c.table ≡ true) cs
  tables_in cs h = Each-map (OwnColumn defs q) (λ c. has_number q.tables c.table ≡ true) (λ c k. k.0) cs h

  plain_items : (is : List Item) → Each (OwnColumn defs q) (flat_map item_columns is) → Each (OwnColumn defs q) (flat_map plain_columns is)
  plain_items [] h = tt
  plain_items (item.Col c ∷ is) h = (h.0, plain_items is h.1)
  plain_items (item.Agg a ∷ is) h = plain_items is (Each-split (OwnColumn defs q) (agg_columns a) (flat_map item_columns is) h).1

  agg_items : (is : List Item) → Each (OwnColumn defs q) (flat_map item_columns is) → Each (OwnColumn defs q) (flat_map agg_columns (flat_map item_aggs is))
  agg_items [] h = tt
  agg_items (item.Col c ∷ is) h = agg_items is h.1
  agg_items (item.Agg a ∷ is) h =
      let both : Each (OwnColumn defs q) (agg_columns a) × Each (OwnColumn defs q) (flat_map item_columns is) = Each-split (OwnColumn defs q) (agg_columns a) (flat_map item_columns is) h in
      Each-append (OwnColumn defs q) (agg_columns a) (flat_map agg_columns (flat_map item_aggs is)) both.0 (agg_items is both.1)

  flat_append : (ys bs : List Agg) → Each (OwnColumn defs q) (flat_map agg_columns ys) → Each (OwnColumn defs q) (flat_map agg_columns bs) → Each (OwnColumn defs q) (flat_map agg_columns (ys ++ bs))
  flat_append [] bs h k = k
  flat_append (a ∷ ys) bs h k =
      let both : Each (OwnColumn defs q) (agg_columns a) × Each (OwnColumn defs q) (flat_map agg_columns ys) = Each-split (OwnColumn defs q) (agg_columns a) (flat_map agg_columns ys) h in
      Each-append (OwnColumn defs q) (agg_columns a) (flat_map agg_columns (ys ++ bs)) both.0 (flat_append ys bs both.1 k)

  having_aggs : (ts : List Test) → Each (OwnColumn defs q) (flat_map (λ t. agg_columns t.agg) ts) → Each (OwnColumn defs q) (flat_map agg_columns (map (λ t. t.agg) ts))
  having_aggs [] h = tt
  having_aggs (t ∷ ts) h =
      let both : Each (OwnColumn defs q) (agg_columns t.agg) × Each (OwnColumn defs q) (flat_map (λ t. agg_columns t.agg) ts) = Each-split (OwnColumn defs q) (agg_columns t.agg) (flat_map (λ t. agg_columns t.agg) ts) h in
      Each-append (OwnColumn defs q) (agg_columns t.agg) (flat_map agg_columns (map (λ t. t.agg) ts)) both.0 (having_aggs ts both.1)

  of_aggs : Each (OwnColumn defs q) (flat_map agg_columns (query_aggs q))
  of_aggs = flat_append (selected_aggs q) (map (λ t. t.agg) q.having) (agg_items q.items of_items) (having_aggs q.having of_having)

  -- all that is wanted is of the query
  of_wanted : (v : StarQuery) → Each (OwnColumn defs q) (wanted q v)
  of_wanted v =
      Each-append (OwnColumn defs q) q.keys _ of_keys
      (Each-append (OwnColumn defs q) (flat_map plain_columns q.items) _ (plain_items q.items of_items)
      (Each-append (OwnColumn defs q) (map condition_column (own_conditions q v)) _
      (Each-of_map (OwnColumn defs q) condition_column (own_conditions q v) (Each-filter (λ c. OwnColumn defs q (condition_column c)) _ q.conditions of_conditions))
      (Each-append (OwnColumn defs q) (wanted_by_aggs q v) (wanted_by_joins q v) (by v.grouped) (joins q.edges of_edges))))
    where
      by : (b : Bool) → Each (OwnColumn defs q) (cond b [] (flat_map agg_columns (query_aggs q)))
      by true = tt
      by false = of_aggs

      joins : (es : List Edge) → Each (OwnColumn defs q) (flat_map (λ e. e.from ∷ e.to ∷ []) es) → Each (OwnColumn defs q) (flat_map (λ e. cond (is_table_of v e.to.table) [] (e.from ∷ [])) es)
      joins [] h = tt
      joins (e ∷ es) h = Each-append (OwnColumn defs q) (cond (is_table_of v e.to.table) [] (e.from ∷ [])) (flat_map (λ e. cond (is_table_of v e.to.table) [] (e.from ∷ [])) es) (one (is_table_of v e.to.table)) (joins es h.1.1)
        where
          one : (b : Bool) → Each (OwnColumn defs q) (cond b [] (e.from ∷ []))
          one true = tt
          one false = (h.0, tt)

module _ (defs : List TableDef) (dims : List Dimension) (q v : StarQuery) (base : Base) (fine_q : StarFine defs q) (fine_v : StarFine defs v) (level : Level) (rows_fine : RowsFine defs v.tables (may_rely level) (rows_at base)) (relies : may_rely level ≡ true → Each (λ d. dimension_holds base d ≡ true) dims)
    (passes : compatible defs level q v ≡ None) where
  abbrev rows : ℕ → List RowAt
  rows = rows_at base

  was_true : (e : Requirement) (b : Bool) (rest : List (Option Requirement)) → first_some (where_true (not b) e ∷ rest) ≡ None → (b ≡ true) × (first_some rest ≡ None)
  was_true e true rest h = (refl, h)
  was_true e false rest h = cc

  abbrev last_three : List (Option Requirement)
  last_three = failing requirement.E2 (same_joins q v) ∷ failing requirement.E4 (extra_tables_hold defs level q v) ∷ failing requirement.E5 (conditions_implied defs q v) ∷ []

  e1 : (same_root q v ≡ true) × (first_some last_three ≡ None)
  e1 = was_true requirement.E1 (same_root q v) last_three passes

  e2 : (same_joins q v ≡ true) × (first_some (failing requirement.E4 (extra_tables_hold defs level q v) ∷ failing requirement.E5 (conditions_implied defs q v) ∷ []) ≡ None)
  e2 = was_true requirement.E2 (same_joins q v) (failing requirement.E4 (extra_tables_hold defs level q v) ∷ failing requirement.E5 (conditions_implied defs q v) ∷ []) e1.1

  e4 : (extra_tables_hold defs level q v ≡ true) × (first_some (failing requirement.E5 (conditions_implied defs q v) ∷ []) ≡ None)
  e4 = was_true requirement.E4 (extra_tables_hold defs level q v) (failing requirement.E5 (conditions_implied defs q v) ∷ []) e2.1

  e5 : (conditions_implied defs q v ≡ true) × (first_some {A = Requirement} [] ≡ None)
  e5 = was_true requirement.E5 (conditions_implied defs q v) [] e4.1

  pub unique : (c : ColRef) → is_key_column defs c ≡ true → AtMost rows c
  unique c key w = let same : times (λ r. equal_not_null w (part_value r c.part)) (rows c.table) ≡ with_value c.part w (rows c.table) = times_length (λ r. equal_not_null w (part_value r c.part)) (rows c.table) in
      omega (arith, rows_fine.unique c key w, same)

  -- the joins of a tree lead to keys
  keys_to : (listed : List ℕ) (es : List Edge) → leads_outwards defs listed es ≡ true → Each (λ e. is_key_column defs e.to ≡ true) es
  keys_to listed [] h = tt
  keys_to listed (e ∷ es) h =
      let both : ((has_number listed e.from.table && (not (has_number listed e.to.table) && is_key_column defs e.to)) ≡ true) × (leads_outwards defs (listed ++ e.to.table ∷ []) es ≡ true)
      = and_parts (has_number listed e.from.table && (not (has_number listed e.to.table) && is_key_column defs e.to)) (leads_outwards defs (listed ++ e.to.table ∷ []) es) h in
      ((and_parts (not (has_number listed e.to.table)) (is_key_column defs e.to) (and_parts (has_number listed e.from.table) (not (has_number listed e.to.table) && is_key_column defs e.to) both.0).1).1, keys_to (listed ++ e.to.table ∷ []) es both.1)

  -- a join that loses nothing has exactly one partner for each row
  once_of : (e : Edge) → EndsIn v.tables e → is_key_column defs e.to ≡ true → loses_nothing defs level e ≡ true → Once rows e
  once_of e ends key h =
      let both : (never_null defs e.from ≡ true) × (list_any (foreign_leads level e.from e.to) (def_at defs e.from.table).foreign ≡ true)
      = and_parts (never_null defs e.from) (list_any (foreign_leads level e.from e.to) (def_at defs e.from.table).foreign) h in
      any_foreign (def_at defs e.from.table).foreign (rows_fine.foreign e.from.table ends.0) both.1
      (Each-map (λ r. (p : ColPart) → never_null defs (record { table = e.from.table; part = p }) ≡ true → not_null (part_value r p) ≡ true) (λ r. not_null (part_value r e.from.part) ≡ true) (λ r k. k e.from.part both.0) (rows e.from.table) (rows_fine.sure e.from.table))
    where
      leads : (f : ForeignDef) → foreign_leads level e.from e.to f ≡ true → (e.from.part ≡ Col f.column) × ((f.table ≡ e.to.table) × ((e.to.part ≡ Col f.to) × ((not f.rely || may_rely level) ≡ true)))
      leads f k =
          let one : (same_part e.from.part (Col f.column) ≡ true) × (((f.table == e.to.table) && (same_part e.to.part (Col f.to) && (not f.rely || may_rely level))) ≡ true)
          = and_parts (same_part e.from.part (Col f.column)) ((f.table == e.to.table) && (same_part e.to.part (Col f.to) && (not f.rely || may_rely level))) k in
          let two : ((f.table == e.to.table) ≡ true) × ((same_part e.to.part (Col f.to) && (not f.rely || may_rely level)) ≡ true) = and_parts (f.table == e.to.table) (same_part e.to.part (Col f.to) && (not f.rely || may_rely level)) one.1 in
          let three : (same_part e.to.part (Col f.to) ≡ true) × ((not f.rely || may_rely level) ≡ true) = and_parts (same_part e.to.part (Col f.to)) (not f.rely || may_rely level) two.1 in
          ((same_part-Decides e.from.part (Col f.column)).0 one.0, (eqb-true f.table e.to.table two.0, ((same_part-Decides e.to.part (Col f.to)).0 three.0, three.1)))

      one_row : (f : ForeignDef) → foreign_leads level e.from e.to f ≡ true → (s : RowAt) → HasParent rows f s → not_null (part_value s e.from.part) ≡ true
          → times (λ r. equal_not_null (part_value s e.from.part) (part_value r e.to.part)) (rows e.to.table) ≡ 1
      one_row f k s parent there =
          let is = leads f k in
          let value : part_value s e.from.part ≡ part_value s (Col f.column) = ap (part_value s) is.0 in
          let found : 1 ≤ with_value (Col f.to) (part_value s (Col f.column)) (rows f.table) = parent (ap not_null (sym value) ∙ there) in
          let same : with_value (Col f.to) (part_value s (Col f.column)) (rows f.table) ≡ times (λ r. equal_not_null (part_value s e.from.part) (part_value r e.to.part)) (rows e.to.table)
          = (λ i. with_value (sym is.1.1.0 i) (sym value i) (rows (is.1.0 i))) ∙ sym (times_length (λ r. equal_not_null (part_value s e.from.part) (part_value r e.to.part)) (rows e.to.table)) in
          omega (arith, found, same, unique e.to key (part_value s e.from.part))

      any_foreign : (fs : List ForeignDef) → Each (λ f. has_number v.tables f.table ≡ true → (not f.rely || may_rely level) ≡ true → Each (HasParent rows f) (rows e.from.table)) fs → list_any (foreign_leads level e.from e.to) fs ≡ true
          → Each (λ r. not_null (part_value r e.from.part) ≡ true) (rows e.from.table) → Once rows e
      any_foreign [] h k there = cc
      any_foreign (f ∷ fs) h k there = by (foreign_leads level e.from e.to f) refl k (λ g. any_foreign fs h.1 g there)
        where
          by : (b : Bool) → foreign_leads level e.from e.to f ≡ b → (b || list_any (foreign_leads level e.from e.to) fs) ≡ true → (list_any (foreign_leads level e.from e.to) fs ≡ true → Once rows e) → Once rows e
          by true g k rest =
              Each-map (λ s. HasParent rows f s × (not_null (part_value s e.from.part) ≡ true)) (λ s. times (λ r. equal_not_null (part_value s e.from.part) (part_value r e.to.part)) (rows e.to.table) ≡ 1)
              (λ s m. one_row f g s m.0 m.1) (rows e.from.table)
              (Each-both (HasParent rows f) (λ s. not_null (part_value s e.from.part) ≡ true) (rows e.from.table) (h.0 (ap (has_number v.tables) (leads f g).1.0 ∙ ends.1) ((leads f g).1.1.1)) there)
          by false g k rest = rest k

  at_extra : (n : ℕ) (ns : List ℕ) → has_number ns n ≡ true → list_all (λ m. is_table_of q m || option_case (join_into v m) false (loses_nothing defs level)) ns ≡ true
      → (is_table_of q n || option_case (join_into v n) false (loses_nothing defs level)) ≡ true
  at_extra n [] h k = cc
  at_extra n (m ∷ ns) h k =
      let both : ((is_table_of q m || option_case (join_into v m) false (loses_nothing defs level)) ≡ true) × (list_all (λ m. is_table_of q m || option_case (join_into v m) false (loses_nothing defs level)) ns ≡ true)
      = and_parts (is_table_of q m || option_case (join_into v m) false (loses_nothing defs level)) (list_all (λ m. is_table_of q m || option_case (join_into v m) false (loses_nothing defs level)) ns) k in
      by (m == n) refl h both.0 (λ g. at_extra n ns g both.1)
    where
      by : (b : Bool) → (m == n) ≡ b → (b || has_number ns n) ≡ true → (is_table_of q m || option_case (join_into v m) false (loses_nothing defs level)) ≡ true
          → (has_number ns n ≡ true → (is_table_of q n || option_case (join_into v n) false (loses_nothing defs level)) ≡ true) → (is_table_of q n || option_case (join_into v n) false (loses_nothing defs level)) ≡ true
      by true e g here rest = subst (λ j. (is_table_of q j || option_case (join_into v j) false (loses_nothing defs level)) ≡ true) (eqb-true m n e) here
      by false e g here rest = rest g

  pub related : Related defs q v rows
  related = record {
    tree_q = fine_q.tree;
    tree_v = fine_v.tree;
    own_q = Each-map (λ c. OwnColumn defs q (condition_column c)) (λ c. has_number q.tables (condition_column c).table ≡ true) (λ c h. h.0) q.conditions (of_conditions defs q fine_q);
    own_v = Each-map (λ c. OwnColumn defs v (condition_column c)) (λ c. has_number v.tables (condition_column c).table ≡ true) (λ c h. h.0) v.conditions (of_conditions defs v fine_v);
    plain_q = fine_q.literals;
    plain_v = fine_v.literals;
    same_root = eqb-true q.root v.root e1.0;
    same_joins = e2.0;
    implied = e5.0;
    once = Each-map (λ e. (EndsIn v.tables e × (join_into v e.to.table ≡ Some e)) × (is_key_column defs e.to ≡ true)) (λ e. has_number q.tables e.to.table ≡ false → Once rows e)
        (λ e h k. once_of e h.0.0 h.1
        (ap (λ o. option_case o false (loses_nothing defs level)) (sym h.0.1)
        ∙ (sym (ap (λ b. b || option_case (join_into v e.to.table) false (loses_nothing defs level)) k) ∙ at_extra e.to.table v.tables h.0.0.1 e4.0))) v.edges
        (Each-both (λ e. EndsIn v.tables e × (join_into v e.to.table ≡ Some e)) (λ e. is_key_column defs e.to ≡ true) v.edges
        (Each-both (EndsIn v.tables) (λ e. join_into v e.to.table ≡ Some e) v.edges (ends_in defs v fine_v.tree) (own_joins defs v fine_v.tree)) (keys_to (v.root ∷ []) v.edges fine_v.tree.1));
    keyed = Each-map (λ e. is_key_column defs e.to ≡ true) (λ e. has_number v.tables e.to.table ≡ false → AtMost rows e.to) (λ e h k. unique e.to h) q.edges (keys_to (q.root ∷ []) q.edges fine_q.tree.1);
    plain = rows_fine.plain;
    sure = rows_fine.sure;
  }

  -- ---- the walk from the root

  module _ (reaches : (reach defs dims level q v).failed ≡ None) where
    abbrev pub start : Walk
    start = record { back = []; fails_e3 = false; fails_e6 = false }

    abbrev pub turned : Walk → ℕ → Walk
    turned w n = walk_table defs dims level q v w n

    abbrev pub tos : List ℕ
    tos = map (λ e. e.to.table) q.edges

    pub declared : Each (Declared defs) (wanted q v)
    declared = Each-map (OwnColumn defs q) (Declared defs) (λ c h. h.1) (wanted q v) (of_wanted defs q fine_q v)

    walk_is : fold turned start q.tables ≡ fold turned (turned start q.root) tos
    walk_is = ap (fold turned start) fine_q.tree.0

    no_fails : ((fold turned (turned start q.root) tos).fails_e3 ≡ false) × ((fold turned (turned start q.root) tos).fails_e6 ≡ false)
    no_fails =
        let both : ((fold turned start q.tables).fails_e3 ≡ false) × ((fold turned start q.tables).fails_e6 ≡ false) = by (fold turned start q.tables).fails_e3 (fold turned start q.tables).fails_e6 reaches in
        (ap (λ (w : Walk). w.fails_e3) (sym walk_is) ∙ both.0, ap (λ (w : Walk). w.fails_e6) (sym walk_is) ∙ both.1)
      where
        by : (a b : Bool) → failed_by a b ≡ None → (a ≡ false) × (b ≡ false)
        by true b h = cc
        by false true h = cc
        by false false h = (refl, refl)

    root_there : has_number v.tables q.root ≡ true
    root_there = ap (has_number v.tables) related.same_root ∙ root_in defs v fine_v.tree

    known : Known defs dims q v base related level relies unique declared v.tables (q.root ∷ [])
    known = record {
      theirs_in = λ m h. h;
      listed_in = λ m h. by m (q.root == m) refl h;
      no_more = λ m h k. h;
    }
      where
        by : (m : ℕ) (b : Bool) → (q.root == m) ≡ b → (b || false) ≡ true → has_number v.tables m ≡ true
        by m true e h = ap (has_number v.tables) (sym (eqb-true q.root m e)) ∙ root_there
        by m false e h = cc

    abbrev pub backs : List Back
    backs = (reach defs dims level q v).back

    backs_are : backs ≡ (fold turned (turned start q.root) tos).back
    backs_are = ap (λ (w : Walk). w.back) walk_is

    pub rest : Walked defs dims q v base related level relies unique declared v.tables (turned start q.root).back (fold turned (turned start q.root) tos).back q.edges
    rest =
        walked defs dims q v base related level relies unique declared (q.root ∷ []) q.edges v.tables (turned start q.root) fine_q.tree.1
        (Each-both (EndsIn q.tables) (λ e. join_into q e.to.table ≡ Some e) q.edges (ends_in defs q fine_q.tree) (own_joins defs q fine_q.tree)) known no_fails

    -- all steps, with those of the root
    pub record Steps : Type 0 where
      pub steps : List Step
      pub backs_of_steps : backs ≡ backs_of defs steps
      pub fine : StepsFine defs q v base v.tables [] steps
      pub joins : joins_of steps ≡ joins_of rest.steps
      pub reached_are : reached v.tables steps ≡ reached v.tables rest.steps
      pub settled : Settled defs dims q v base related level relies unique declared backs q.root

    no_join_key : Each (λ k. (k.table ≡ q.root) × AtMost rows k × ((t : Env) → TupleFact defs q v base t → not_null (env_value t k) ≡ true)) (join_key q q.root)
    no_join_key = subst (λ o. Each (λ k. (k.table ≡ q.root) × AtMost rows k × ((t : Env) → TupleFact defs q v base t → not_null (env_value t k) ≡ true)) (option_case o [] (λ e. e.to ∷ []))) (sym (no_join defs q fine_q.tree)) tt

    pub all_steps : Steps
    all_steps =
        let at = turn defs dims q v base related level relies unique declared start q.root (no_fail defs dims q v base related level relies unique declared tos (turned start q.root) no_fails) in
        by at.1 at.2
      where
        by : mark_missing q v q.root ≡ false → Turn defs dims q v base related level relies unique declared start q.root → Steps
        by mark (Nothing own none same) =
            let empty : (turned start q.root).back ≡ [] = ap (λ (w : Walk). w.back) same in
            let is : backs ≡ backs_of defs rest.steps = backs_are ∙ rest.backs ∙ ap (λ bs. bs ++ backs_of defs rest.steps) empty in
            record {
              steps = rest.steps;
              backs_of_steps = is;
              fine = subst (λ bs. StepsFine defs q v base v.tables bs rest.steps) empty rest.fine;
              joins = refl;
              reached_are = refl;
              settled = subst (λ bs. Settled defs dims q v base related level relies unique declared bs q.root) (sym is)
                  (settled_more defs dims q v base related level relies unique declared [] (backs_of defs rest.steps) q.root (settled_nothing defs dims q v base related level relies unique declared q.root [] mark none));
            }
        by mark (Gained b own is same) =
            let key : JoinedBack defs dims q v base related level relies unique declared [] b q.root = common_back defs dims q v base related level relies unique declared q.root [] b own no_join_key is in
            let added : (turned start q.root).back ≡ back_of defs key.at ∷ [] = ap (λ (w : Walk). w.back) same ∙ ap (λ c. c ∷ []) key.back in
            let all : backs ≡ back_of defs key.at ∷ backs_of defs rest.steps = backs_are ∙ rest.backs ∙ ap (λ bs. bs ++ backs_of defs rest.steps) added in
            record {
              steps = key.at ∷ rest.steps;
              backs_of_steps = all;
              fine = key.fine v.tables rest.steps (subst (λ bs. StepsFine defs q v base v.tables bs rest.steps) added rest.fine);
              joins = key.joins rest.steps;
              reached_are = key.reached_is v.tables rest.steps;
              settled = subst (λ bs. Settled defs dims q v base related level relies unique declared bs q.root) (sym all)
                  (settled_more defs dims q v base related level relies unique declared (back_of defs key.at ∷ []) (backs_of defs rest.steps) q.root (key.settled mark));
            }
        by mark (Found b none is same) = absurd (let e : true ≡ false = sym root_there ∙ none in cc)

    -- all that is wanted stands in the layout
    stands : Each (Stand (layout q v (backs_of defs all_steps.steps))) (wanted q v)
    stands =
        subst (λ bs. Each (Stand (layout q v bs)) (wanted q v)) all_steps.backs_of_steps
        (Each-map (λ c. OwnColumn defs q c × Each (λ n. (c.table == n) ≡ true → Stand (layout q v backs) c) (q.root ∷ tos)) (Stand (layout q v backs)) one (wanted q v)
        (Each-both (OwnColumn defs q) (λ c. Each (λ n. (c.table == n) ≡ true → Stand (layout q v backs) c) (q.root ∷ tos)) (wanted q v) (of_wanted defs q fine_q v)
        (Each-turn (λ n c. (c.table == n) ≡ true → Stand (layout q v backs) c) (q.root ∷ tos) (wanted q v) (
          all_steps.settled,
          Each-of_map (λ n. Each (λ c. (c.table == n) ≡ true → Stand (layout q v backs) c) (wanted q v)) (λ e. e.to.table) q.edges
              (subst (λ bs. Each (λ e. Settled defs dims q v base related level relies unique declared bs e.to.table) q.edges) (sym backs_are) rest.settled),
        ))))
      where
        one : (c : ColRef) → OwnColumn defs q c × Each (λ n. (c.table == n) ≡ true → Stand (layout q v backs) c) (q.root ∷ tos) → Stand (layout q v backs) c
        one c h =
            at_own (Stand (layout q v backs)) c c.table (q.root ∷ tos) (ap (λ ns. has_number ns c.table) (sym fine_q.tree.0) ∙ h.0.0)
            (Each-map (λ n. (c.table == n) ≡ true → Stand (layout q v backs) c) (λ n. c.table ≡ n → Stand (layout q v backs) c) (λ n k e. k ((Decides-eqb c.table n).1 e)) (q.root ∷ tos) h.1)

    after_keys : List ColRef
    after_keys = flat_map plain_columns q.items ++ (map condition_column (own_conditions q v) ++ (wanted_by_aggs q v ++ wanted_by_joins q v))

    parts : Each (Stand (layout q v (backs_of defs all_steps.steps))) q.keys × Each (Stand (layout q v (backs_of defs all_steps.steps))) (flat_map plain_columns q.items ++ (map condition_column (own_conditions q v) ++ (wanted_by_aggs q v ++ wanted_by_joins q v)))
    parts = Each-split (Stand (layout q v (backs_of defs all_steps.steps))) q.keys (flat_map plain_columns q.items ++ (map condition_column (own_conditions q v) ++ (wanted_by_aggs q v ++ wanted_by_joins q v))) stands

    later : Each (Stand (layout q v (backs_of defs all_steps.steps))) (flat_map plain_columns q.items) × Each (Stand (layout q v (backs_of defs all_steps.steps))) (map condition_column (own_conditions q v) ++ (wanted_by_aggs q v ++ wanted_by_joins q v))
    later = Each-split (Stand (layout q v (backs_of defs all_steps.steps))) (flat_map plain_columns q.items) (map condition_column (own_conditions q v) ++ (wanted_by_aggs q v ++ wanted_by_joins q v)) parts.1

    latest : Each (Stand (layout q v (backs_of defs all_steps.steps))) (map condition_column (own_conditions q v)) × Each (Stand (layout q v (backs_of defs all_steps.steps))) (wanted_by_aggs q v ++ wanted_by_joins q v)
    latest = Each-split (Stand (layout q v (backs_of defs all_steps.steps))) (map condition_column (own_conditions q v)) (wanted_by_aggs q v ++ wanted_by_joins q v) later.1

    pub plan : Plan defs q v base all_steps.steps
    plan = record {
      related = related;
      steps_fine = all_steps.fine;
      joins = all_steps.joins ∙ rest.joins;
      all = λ m h. ap (λ ns. has_number ns m) all_steps.reached_are ∙ by m (q.root == m) refl (ap (λ ns. has_number ns m) (sym fine_q.tree.0) ∙ h);
      own_v = tables_in defs v fine_v (flat_map item_columns v.items) (of_items defs v fine_v);
      own_keys = tables_in defs q fine_q q.keys (of_keys defs q fine_q);
      own_reads = Each-append (λ c. has_number q.tables c.table ≡ true) (flat_map item_columns q.items) (flat_map (λ t. agg_columns t.agg) q.having)
          (tables_in defs q fine_q (flat_map item_columns q.items) (of_items defs q fine_q)) (tables_in defs q fine_q (flat_map (λ t. agg_columns t.agg) q.having) (of_having defs q fine_q));
      keys = parts.0;
      conditions = latest.0;
    }
      where
        by : (m : ℕ) (b : Bool) → (q.root == m) ≡ b → (b || has_number tos m) ≡ true → has_number (reached v.tables rest.steps) m ≡ true
        by m true e h = ap (has_number (reached v.tables rest.steps)) (sym (eqb-true q.root m e)) ∙ rest.kept q.root root_there
        by m false e h = rest.all m h

    -- over a join view all that items and HAVING read is wanted
    reads : v.grouped ≡ false → Each (Stand (layout q v (backs_of defs all_steps.steps))) (reads_of q)
    reads plain =
        let aggs : Each (Stand (layout q v (backs_of defs all_steps.steps))) (flat_map agg_columns (query_aggs q))
        = subst (λ b. Each (Stand (layout q v (backs_of defs all_steps.steps))) (cond b [] (flat_map agg_columns (query_aggs q)))) plain (Each-split (Stand (layout q v (backs_of defs all_steps.steps))) (wanted_by_aggs q v) (wanted_by_joins q v) latest.1).0 in
        let two : Each (Stand (layout q v (backs_of defs all_steps.steps))) (flat_map agg_columns (selected_aggs q)) × Each (Stand (layout q v (backs_of defs all_steps.steps))) (flat_map agg_columns (map (λ t. t.agg) q.having))
        = two_lists (selected_aggs q) (map (λ t. t.agg) q.having) aggs in
        Each-append (Stand (layout q v (backs_of defs all_steps.steps))) (flat_map item_columns q.items) (flat_map (λ t. agg_columns t.agg) q.having) (of_both q.items later.0 two.0) (unmapped q.having two.1)
      where
        two_lists : (xs ys : List Agg) → Each (Stand (layout q v (backs_of defs all_steps.steps))) (flat_map agg_columns (xs ++ ys))
            → Each (Stand (layout q v (backs_of defs all_steps.steps))) (flat_map agg_columns xs) × Each (Stand (layout q v (backs_of defs all_steps.steps))) (flat_map agg_columns ys)
        two_lists [] ys h = (tt, h)
        two_lists (x ∷ xs) ys h =
            let both : Each (Stand (layout q v (backs_of defs all_steps.steps))) (agg_columns x) × Each (Stand (layout q v (backs_of defs all_steps.steps))) (flat_map agg_columns (xs ++ ys))
            = Each-split (Stand (layout q v (backs_of defs all_steps.steps))) (agg_columns x) (flat_map agg_columns (xs ++ ys)) h in
            let more : Each (Stand (layout q v (backs_of defs all_steps.steps))) (flat_map agg_columns xs) × Each (Stand (layout q v (backs_of defs all_steps.steps))) (flat_map agg_columns ys) = two_lists xs ys both.1 in
            (Each-append (Stand (layout q v (backs_of defs all_steps.steps))) (agg_columns x) (flat_map agg_columns xs) both.0 more.0, more.1)

        of_both : (is : List Item) → Each (Stand (layout q v (backs_of defs all_steps.steps))) (flat_map plain_columns is) → Each (Stand (layout q v (backs_of defs all_steps.steps))) (flat_map agg_columns (flat_map item_aggs is))
            → Each (Stand (layout q v (backs_of defs all_steps.steps))) (flat_map item_columns is)
        of_both [] h k = tt
        of_both (item.Col c ∷ is) h k = (h.0, of_both is h.1 k)
        of_both (item.Agg a ∷ is) h k =
            let both : Each (Stand (layout q v (backs_of defs all_steps.steps))) (agg_columns a) × Each (Stand (layout q v (backs_of defs all_steps.steps))) (flat_map agg_columns (flat_map item_aggs is))
            = Each-split (Stand (layout q v (backs_of defs all_steps.steps))) (agg_columns a) (flat_map agg_columns (flat_map item_aggs is)) k in
            Each-append (Stand (layout q v (backs_of defs all_steps.steps))) (agg_columns a) (flat_map item_columns is) both.0 (of_both is h both.1)

        unmapped : (ts : List Test) → Each (Stand (layout q v (backs_of defs all_steps.steps))) (flat_map agg_columns (map (λ t. t.agg) ts)) → Each (Stand (layout q v (backs_of defs all_steps.steps))) (flat_map (λ t. agg_columns t.agg) ts)
        unmapped [] h = tt
        unmapped (t ∷ ts) h =
            let both : Each (Stand (layout q v (backs_of defs all_steps.steps))) (agg_columns t.agg) × Each (Stand (layout q v (backs_of defs all_steps.steps))) (flat_map agg_columns (map (λ t. t.agg) ts))
            = Each-split (Stand (layout q v (backs_of defs all_steps.steps))) (agg_columns t.agg) (flat_map agg_columns (map (λ t. t.agg) ts)) h in
            Each-append (Stand (layout q v (backs_of defs all_steps.steps))) (agg_columns t.agg) (flat_map (λ t. agg_columns t.agg) ts) both.0 (unmapped ts both.1)

    -- **the theorem**
    pub eligible_plan : computable defs q v ≡ true → Each (KindsFine rows) (query_aggs q)
        → in_order q.order (general_rows defs q v (layout q v backs) (extended_rows base v backs (stored v base))) ≡ meaning q base
    eligible_plan seven kinds =
        ap (λ bs. in_order q.order (general_rows defs q v (layout q v bs) (extended_rows base v bs (stored v base)))) all_steps.backs_of_steps
        ∙ by v.grouped refl (and_parts (is_empty v.having) (not v.grouped || (q.grouped && list_all (λ a. is_some (origin defs (linked q v) v a)) (query_aggs q))) seven)
      where
        by : (b : Bool) → v.grouped ≡ b → (is_empty v.having ≡ true) × ((not v.grouped || (q.grouped && list_all (λ a. is_some (origin defs (linked q v) v a)) (query_aggs q))) ≡ true)
            → in_order q.order (general_rows defs q v (layout q v (backs_of defs all_steps.steps)) (extended_rows base v (backs_of defs all_steps.steps) (stored v base))) ≡ meaning q base
        by false e h = join_plan defs q v base all_steps.steps plan e (reads e)
        by true e h =
            let both : (q.grouped ≡ true) × (list_all (λ a. is_some (origin defs (linked q v) v a)) (query_aggs q) ≡ true)
            = and_parts q.grouped (list_all (λ a. is_some (origin defs (linked q v) v a)) (query_aggs q)) (sym (ap (λ b. not b || (q.grouped && list_all (λ a. is_some (origin defs (linked q v) v a)) (query_aggs q))) e) ∙ h.1) in
            agg_plan defs q v base all_steps.steps plan
            (record { q_grouped = both.0; v_grouped = e; no_having = no_elements v.having h.0; selected = fine_v.selected e; computable = both.1; kinds = kinds })
