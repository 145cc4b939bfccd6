-- **A plan over a view that was stored earlier**: over a base state in which the view's tables are as they were then, and the others as they are now.
use Rattle.std.proofs.Common.{◌≡◌, ◌∙◌, sym, ap, subst, refl, ℕ, zero, suc, ◌≤◌, Bool, true, false, cond, not, List, [], ◌∷◌, ◌++◌, map, Option, None}
use Rattle.std.specs.Prelude.{◌&&◌, ◌||◌, ◌==◌, filter_map, find, option_map}
use Rattle.std.specs.List.{filter, list_all}
use Rattle.std.proofs.lemmas.Bool.{eq-eqb, eqb-true, and_parts}
use Rattle.std.proofs.Math.Bool.{or-true}
use Rattle.wh_base.specs.Lists.{has_number, sorted_by}
use Rattle.wh_base.specs.Tables.{Base, Table, def_at, empty_table, never_null, row_at, table_at, value_at}
use Rattle.wh_base.specs.declared.columns.Agg.{Agg}
use Rattle.wh_base.specs.declared.columns.Agg.TheVariants.{Avg, Count, CountAll, Max, Min, Sum}
use Rattle.wh_base.specs.declared.columns.ColPart.{ColPart}
use Rattle.wh_base.specs.declared.columns.ColPart.TheVariants.{Col}
use Rattle.wh_base.specs.declared.columns.ColRef.{ColRef}
use Rattle.wh_base.specs.declared.columns.Expr.{Expr}
use Rattle.wh_base.specs.declared.columns.Expr.TheVariants as expr
use Rattle.wh_base.specs.declared.queries.StarQuery.{StarQuery}
use Rattle.wh_base.specs.declared.statements.Level.{Level}
use Rattle.wh_base.specs.declared.tables.RowAt.{RowAt}
use Rattle.wh_base.specs.declared.tables.TableDef.{TableDef}
use Rattle.wh_base.specs.declared.values.Interval.{Interval}
use Rattle.wh_base.specs.declared.values.Value.{Value}
use Rattle.wh_base.specs.declared.views.Back.{Back}
use Rattle.wh_base.specs.declared.views.ViewEntry.{ViewEntry}
use Rattle.def_dimensions.specs.Dimensions.{DimLevel, Dimension}
use Rattle.def_dimensions.specs.Relations.{determined, dimension_holds, level_agrees}
use Rattle.def_meaning.specs.Accumulated.{query_aggs}
use Rattle.def_meaning.specs.Joined.{column_value, part_value, product, rows_at, tuple_true}
use Rattle.def_meaning.specs.Meaning.{entries, entry_cmp, in_order, meaning, not_null, stored}
use Rattle.def_meaning.specs.Ranges.{misses}
use Rattle.def_rewriting.specs.Compatible.{compatible, may_rely}
use Rattle.def_rewriting.specs.PlanRows.{exact_value, extend_all, extended_rows, gained, gained_columns, general_rows, meets_back, selected_column}
use Rattle.def_rewriting.specs.Reaching.{layout, reach}
use Rattle.def_rewriting.specs.Rollup.{computable}
use Rattle.law_lists.proofs.Each.{Each-map}
use Rattle.law_rewrite.specs.Words.{Each}
use Rattle.law_rewrite.specs.Fine.{HasParent, KindsFine, Numbers, ProductFine, RowsFine, StarFine, may_be_number, with_value}
use Rattle.law_rewrite.specs.Outside.{is_outside}
use Rattle.law_rewrite.proofs.Implying.{is_plain}
use Rattle.law_rewrite.proofs.Assembled.{eligible_plan}
use Rattle.law_rewrite.proofs.Still.{still_means}

-- the tables that pass the test as the first has them, and the others as the second has them
abbrev pub mixed : (ℕ → Bool) → Base → Base → Base
mixed p [] [] = []
mixed p (t ∷ ts) [] = cond (p 0) t empty_table ∷ mixed (λ n. p (suc n)) ts []
mixed p [] (u ∷ us) = cond (p 0) empty_table u ∷ mixed (λ n. p (suc n)) [] us
mixed p (t ∷ ts) (u ∷ us) = cond (p 0) t u ∷ mixed (λ n. p (suc n)) ts us

mixed_at : (p : ℕ → Bool) (a b : Base) (n : ℕ) → table_at (mixed p a b) n ≡ cond (p n) (table_at a n) (table_at b n)
mixed_at p [] [] n = by (p n)
  where
    by : (c : Bool) → empty_table ≡ cond c empty_table empty_table
    by true = refl
    by false = refl
mixed_at p (t ∷ ts) [] zero = refl
mixed_at p (t ∷ ts) [] (suc n) = mixed_at (λ n. p (suc n)) ts [] n
mixed_at p [] (u ∷ us) zero = refl
mixed_at p [] (u ∷ us) (suc n) = mixed_at (λ n. p (suc n)) [] us n
mixed_at p (t ∷ ts) (u ∷ us) zero = refl
mixed_at p (t ∷ ts) (u ∷ us) (suc n) = mixed_at (λ n. p (suc n)) ts us n

mixed_rows : (p : ℕ → Bool) (a b : Base) (n : ℕ) → rows_at (mixed p a b) n ≡ cond (p n) (rows_at a n) (rows_at b n)
mixed_rows p a b n = ap (λ (t : Table). map (row_at t) t.rows) (mixed_at p a b n) ∙ by (p n)
  where
    by : (c : Bool) → map (row_at (cond c (table_at a n) (table_at b n))) (cond c (table_at a n) (table_at b n)).rows ≡ cond c (rows_at a n) (rows_at b n)
    by true = refl
    by false = refl

-- what holds of the rows of a table in both
mixed_each : (P : List RowAt → Type 0) (p : ℕ → Bool) (a b : Base) (n : ℕ) → P (rows_at a n) → P (rows_at b n) → P (rows_at (mixed p a b) n)
mixed_each P p a b n h k = subst P (sym (mixed_rows p a b n)) (by (p n))
  where
    by : (c : Bool) → P (cond c (rows_at a n) (rows_at b n))
    by true = h
    by false = k

-- the rows extended over base states that have the same rows of the tables joined back
extended_same : (base base' : Base) (backs : List Back) → Each (λ b. rows_at base b.table ≡ rows_at base' b.table) backs → (columns : List (Option ColRef)) (rows : List (List Value))
    → extend_all base columns backs rows ≡ extend_all base' columns backs rows
extended_same base base' [] h columns rows = refl
extended_same base base' (b ∷ bs) h columns rows =
    (λ i. extend_all base (columns ++ gained_columns b) bs (filter_map (λ row. option_map (λ r. row ++ gained b r) (find (meets_back b (exact_value columns row b.source)) (h.0 i))) rows))
    ∙ extended_same base base' bs h.1 (columns ++ gained_columns b) (filter_map (λ row. option_map (λ r. row ++ gained b r) (find (meets_back b (exact_value columns row b.source)) (rows_at base' b.table))) rows)

pub stored_same : (v : StarQuery) (base base' : Base) → Each (λ n. rows_at base n ≡ rows_at base' n) v.tables → stored v base ≡ stored v base'
stored_same v base base' h = ap (λ ls. sorted_by entry_cmp (entries (column_value v.tables) v (filter (tuple_true v) (product ls)))) (each v.tables h)
  where
    each : (ns : List ℕ) → Each (λ n. rows_at base n ≡ rows_at base' n) ns → map (rows_at base) ns ≡ map (rows_at base') ns
    each [] h = refl
    each (n ∷ ns) h = λ i. h.0 i ∷ each ns h.1 i

pub each_has : (ns : List ℕ) → Each (λ n. has_number ns n ≡ true) ns
each_has ns = all ns (λ m h. h)
  where
    all : (ms : List ℕ) → ((m : ℕ) → has_number ms m ≡ true → has_number ns m ≡ true) → Each (λ n. has_number ns n ≡ true) ms
    all [] sub = tt
    all (m ∷ ms) sub = (sub m (ap (λ b. b || has_number ms m) (eq-eqb m m refl)), all ms (λ j h. sub j (ap (λ b. (m == j) || b) h ∙ or-true (m == j))))

module _ (defs : List TableDef) (dims : List Dimension) (q v : StarQuery) (then now : Base) (fine_q : StarFine defs q) (fine_v : StarFine defs v) (level : Level)
    (relies_then : may_rely level ≡ true → Each (λ d. dimension_holds then d ≡ true) dims) (relies_now : may_rely level ≡ true → Each (λ d. dimension_holds now d ≡ true) dims)
    (rows_then : RowsFine defs v.tables (may_rely level) (rows_at then)) (rows_now : RowsFine defs v.tables (may_rely level) (rows_at now))
    (kinds_then : Each (KindsFine (rows_at then)) (query_aggs q)) (kinds_now : Each (KindsFine (rows_at now)) (query_aggs q)) where
  abbrev theirs : ℕ → Bool
  theirs n = has_number v.tables n

  abbrev both : Base
  both = mixed theirs then now

  -- the view's tables as they were
  was : (n : ℕ) → theirs n ≡ true → rows_at both n ≡ rows_at then n
  was n h = mixed_rows theirs then now n ∙ ap (λ b. cond b (rows_at then n) (rows_at now n)) h

  rows_both : RowsFine defs v.tables (may_rely level) (rows_at both)
  rows_both = record {
    plain = λ n. mixed_each (Each (λ r. (p : ColPart) → is_plain (part_value r p) ≡ true)) theirs then now n (rows_then.plain n) (rows_now.plain n);
    sure = λ n. mixed_each (Each (λ r. (p : ColPart) → never_null defs (record { table = n; part = p }) ≡ true → not_null (part_value r p) ≡ true)) theirs then now n (rows_then.sure n) (rows_now.sure n);
    unique = λ c key w. mixed_each (λ rs. with_value c.part w rs ≤ 1) theirs then now c.table (rows_then.unique c key w) (rows_now.unique c key w);
    foreign = λ n h. Each-map (λ f. theirs f.table ≡ true → (not f.rely || may_rely level) ≡ true → Each (HasParent (rows_at then) f) (rows_at then n)) (λ f. theirs f.table ≡ true → (not f.rely || may_rely level) ≡ true → Each (HasParent (rows_at both) f) (rows_at both n))
        (λ f k l m. subst (λ rs. Each (HasParent (rows_at both) f) rs) (sym (was n h))
        (Each-map (HasParent (rows_at then) f) (HasParent (rows_at both) f) (λ r g e. subst (λ rs. 1 ≤ with_value (Col f.to) (value_at r.values f.column) rs) (sym (was f.table l)) (g e)) (rows_at then n) (k l m)))
        (def_at defs n).foreign (rows_then.foreign n h);
  }

  relies_both : may_rely level ≡ true → Each (λ d. dimension_holds both d ≡ true) dims
  relies_both h = dims_both dims (relies_then h) (relies_now h)
    where
      levels_both : (d : Dimension) (ls : List DimLevel) → list_all (λ l. level_agrees (rows_at then l.column.table) l.column (determined d l.column)) ls ≡ true → list_all (λ l. level_agrees (rows_at now l.column.table) l.column (determined d l.column)) ls ≡ true
          → list_all (λ l. level_agrees (rows_at both l.column.table) l.column (determined d l.column)) ls ≡ true
      levels_both d [] f g = refl
      levels_both d (l ∷ ls) f g =
          let one : (level_agrees (rows_at then l.column.table) l.column (determined d l.column) ≡ true) × (list_all (λ l. level_agrees (rows_at then l.column.table) l.column (determined d l.column)) ls ≡ true)
          = and_parts (level_agrees (rows_at then l.column.table) l.column (determined d l.column)) (list_all (λ l. level_agrees (rows_at then l.column.table) l.column (determined d l.column)) ls) f in
          let two : (level_agrees (rows_at now l.column.table) l.column (determined d l.column) ≡ true) × (list_all (λ l. level_agrees (rows_at now l.column.table) l.column (determined d l.column)) ls ≡ true)
          = and_parts (level_agrees (rows_at now l.column.table) l.column (determined d l.column)) (list_all (λ l. level_agrees (rows_at now l.column.table) l.column (determined d l.column)) ls) g in
          λ i. mixed_each (λ rs. level_agrees rs l.column (determined d l.column) ≡ true) theirs then now l.column.table one.0 two.0 i && levels_both d ls one.1 two.1 i

      dims_both : (ds : List Dimension) → Each (λ d. dimension_holds then d ≡ true) ds → Each (λ d. dimension_holds now d ≡ true) ds → Each (λ d. dimension_holds both d ≡ true) ds
      dims_both [] f g = tt
      dims_both (d ∷ ds) f g = (levels_both d d.levels f.0 g.0, dims_both ds f.1 g.1)

  kinds_both : Each (KindsFine (rows_at both)) (query_aggs q)
  kinds_both = each (query_aggs q) kinds_then kinds_now
    where
      numbers : (c : ColRef) → Numbers (rows_at then) c → Numbers (rows_at now) c → Numbers (rows_at both) c
      numbers c h k = mixed_each (Each (λ r. may_be_number (part_value r c.part) ≡ true)) theirs then now c.table h k

      product_of : (e : Expr) → ProductFine (rows_at then) e → ProductFine (rows_at now) e → ProductFine (rows_at both) e
      product_of (expr.Col c) h k = tt
      product_of (expr.Product a b) h k = (numbers a h.0 k.0, numbers b h.1 k.1)
      product_of (expr.Lit n) h k = tt

      one : (a : Agg) → KindsFine (rows_at then) a → KindsFine (rows_at now) a → KindsFine (rows_at both) a
      one CountAll h k = tt
      one (Count e) h k = product_of e h k
      one (Sum e) h k = tt
      one (Avg e) h k = tt
      one (Min e) h k = tt
      one (Max e) h k = tt

      each : (xs : List Agg) → Each (KindsFine (rows_at then)) xs → Each (KindsFine (rows_at now)) xs → Each (KindsFine (rows_at both)) xs
      each [] h k = tt
      each (a ∷ xs) h k = (one a h.0 k.0, each xs h.1 k.1)

  -- **the law**: of the view's tables one alone has changed, within intervals that the query misses, and it isn't joined back
  pub partly_means : (n k : ℕ) (is : List Interval) → list_all (λ i. misses q (record { table = n; part = Col k }) i) is ≡ true
      → Each (λ m. (m == n) ≡ false → rows_at then m ≡ rows_at now m) v.tables
      → filter (is_outside k is) (rows_at then n) ≡ filter (is_outside k is) (rows_at now n)
      → compatible defs level q v ≡ None → (reach defs dims level q v).failed ≡ None → computable defs q v ≡ true
      → Each (λ b. theirs b.table ≡ true → (b.table == n) ≡ false) (reach defs dims level q v).back
      → in_order q.order (general_rows defs q v (layout q v (reach defs dims level q v).back) (extended_rows now v (reach defs dims level q v).back (stored v then))) ≡ meaning q now
  partly_means n k is missed others own passes reaches seven apart =
      (λ i. in_order q.order (general_rows defs q v (layout q v (reach defs dims level q v).back)
      (extended_same now both (reach defs dims level q v).back backs_same (map selected_column v.items) (map (λ (e : ViewEntry). e.row) (stored_same v then both (Each-map (λ m. theirs m ≡ true) (λ m. rows_at then m ≡ rows_at both m) (λ m h. sym (was m h)) v.tables (each_has v.tables)) i)) i)))
      ∙ eligible_plan defs dims q v both fine_q fine_v level rows_both relies_both passes reaches seven kinds_both
      ∙ still_means defs q n k is (rows_at both) (rows_at now) fine_q rows_both.plain rows_now.plain missed
      (each_table q.tables) (mixed_own (theirs n) refl)
    where
      at_number : (m : ℕ) (ns : List ℕ) → has_number ns m ≡ true → Each (λ j. (j == n) ≡ false → rows_at then j ≡ rows_at now j) ns → (m == n) ≡ false → rows_at then m ≡ rows_at now m
      at_number m [] h l e = cc
      at_number m (j ∷ ns) h l e = by (j == m) refl h (λ g. at_number m ns g l.1 e)
        where
          by : (b : Bool) → (j == m) ≡ b → (b || has_number ns m) ≡ true → (has_number ns m ≡ true → rows_at then m ≡ rows_at now m) → rows_at then m ≡ rows_at now m
          by true f g rest = subst (λ x. (x == n) ≡ false → rows_at then x ≡ rows_at now x) (eqb-true j m f) l.0 e
          by false f g rest = rest g

      same_but : (m : ℕ) → (m == n) ≡ false → rows_at both m ≡ rows_at now m
      same_but m e = mixed_rows theirs then now m ∙ by (theirs m) refl
        where
          by : (b : Bool) → theirs m ≡ b → cond b (rows_at then m) (rows_at now m) ≡ rows_at now m
          by true h = at_number m v.tables h others e
          by false h = refl

      each_table : (ns : List ℕ) → Each (λ m. (m == n) ≡ false → rows_at both m ≡ rows_at now m) ns
      each_table [] = tt
      each_table (m ∷ ns) = (same_but m, each_table ns)

      mixed_own : (b : Bool) → theirs n ≡ b → filter (is_outside k is) (rows_at both n) ≡ filter (is_outside k is) (rows_at now n)
      mixed_own true h = ap (filter (is_outside k is)) (was n h) ∙ own
      mixed_own false h = ap (filter (is_outside k is)) (mixed_rows theirs then now n ∙ ap (λ b. cond b (rows_at then n) (rows_at now n)) h)

      backs_same : Each (λ b. rows_at now b.table ≡ rows_at both b.table) (reach defs dims level q v).back
      backs_same = Each-map (λ b. theirs b.table ≡ true → (b.table == n) ≡ false) (λ b. rows_at now b.table ≡ rows_at both b.table) (λ b h. by b (theirs b.table) refl h) (reach defs dims level q v).back apart
        where
          by : (b : Back) (c : Bool) → theirs b.table ≡ c → (theirs b.table ≡ true → (b.table == n) ≡ false) → rows_at now b.table ≡ rows_at both b.table
          by b true e h = sym (same_but b.table (h e))
          by b false e h = sym (mixed_rows theirs then now b.table ∙ ap (λ c. cond c (rows_at then b.table) (rows_at now b.table)) e)
