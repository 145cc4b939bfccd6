-- What `resolve` gives is a star form as the laws of plans ask for it.
use Rattle.std.proofs.Common.{◌≡◌, ◌∙◌, ap, subst, refl, arith, ℕ, zero, suc, ◌+◌, ◌<◌, Bool, true, false, cond, not, List, [], ◌∷◌, ◌++◌, length, map, Option, Some, None}
use Rattle.std.specs.List.{flat_map, list_all, list_any}
use Rattle.std.specs.Prelude.{Ok, filter_map, option_map, position, unwrap_or, ◌&&◌, ◌==◌, ◌||◌}
use Rattle.std.proofs.lemmas.Bool.{eq-eqb, and_parts}
use Rattle.std.proofs.lemmas.List.Quantifiers.{position-Some}
use Rattle.std.proofs.Math.Bool.{or-true}
use Rattle.std.proofs.lemmas.Option.{same_Some}
use Rattle.wh_base.specs.Columns.{agg_columns, expr_columns, has_column, same_column}
use Rattle.wh_base.specs.Lists.{count_from, first_of, first_some, has_number, is_empty, option_case, same_text, unless, where_true}
use Rattle.wh_base.specs.Tables.{column_number, def_at, table_number}
use Rattle.wh_base.specs.Values.{literal_value}
use Rattle.wh_base.specs.declared.columns.ColPart.{ColPart}
use Rattle.wh_base.specs.declared.columns.ColPart.TheVariants.{Col, Mark, RowId}
use Rattle.wh_base.specs.declared.columns.ColRef.{ColRef}
use Rattle.wh_base.specs.declared.queries.ColName.{ColName}
use Rattle.wh_base.specs.declared.queries.Edge.{Edge}
use Rattle.wh_base.specs.declared.queries.Item.{Item}
use Rattle.wh_base.specs.declared.queries.Item.TheVariants as item
use Rattle.wh_base.specs.declared.queries.NamePart.{NamePart}
use Rattle.wh_base.specs.declared.queries.NamePart.TheVariants.{MarkName, Plain, RowIdName}
use Rattle.wh_base.specs.declared.queries.RawAgg.{RawAgg}
use Rattle.wh_base.specs.declared.queries.RawAgg.TheVariants.{AvgOf, CountOf, CountRows, MaxOf, MinOf, SumOf}
use Rattle.wh_base.specs.declared.queries.RawCondition.{RawCondition}
use Rattle.wh_base.specs.declared.queries.RawCondition.TheVariants as raw
use Rattle.wh_base.specs.declared.queries.RawExpr.{RawExpr}
use Rattle.wh_base.specs.declared.queries.RawExpr.TheVariants.{Column, Constant, Times}
use Rattle.wh_base.specs.declared.queries.RawJoin.{RawJoin}
use Rattle.wh_base.specs.declared.queries.RawQuery.{RawQuery}
use Rattle.wh_base.specs.declared.queries.RawTable.{RawTable}
use Rattle.wh_base.specs.declared.queries.RawWhat.{RawWhat}
use Rattle.wh_base.specs.declared.queries.RawWhat.TheVariants as what
use Rattle.wh_base.specs.declared.queries.StarQuery.{StarQuery}
use Rattle.wh_base.specs.declared.replies.Refusal.TheVariants.{NoSuchColumn, NotGrouped, NotStar}
use Rattle.wh_base.specs.declared.tables.ColumnDef.{ColumnDef}
use Rattle.wh_base.specs.declared.tables.TableDef.{TableDef}
use Rattle.wh_base.specs.declared.values.Literal.{Literal}
use Rattle.wh_base.specs.declared.values.Literal.TheVariants.{Dated, Number, Quoted}
use Rattle.def_resolve.specs.Names.{Source, agg_names, column_in, column_named, column_of, condition_names, expr_names, is_qualified_by, join_names, name_refusal, name_text, names_refusal, no_column, order_refusal, part_named, query_names, source_of, sources_of, table_refusal, the_only, what_names}
use Rattle.def_resolve.specs.Resolve.{IsStar, first_table, grouping_holds, is_agg, item_is_grouped, join_of_condition, join_of_table, joins_of, kinds_refusal, resolve, resolved_agg, resolved_condition, resolved_expr, resolved_item, resolved_test, star_form, star_query}
use Rattle.def_resolve.specs.Star.{IsTreeOver, Tree, is_one_of, same_join, star_of, turned}
use Rattle.def_resolve.proofs.Spanning.{star_of-law}
use Rattle.def_resolve.proofs.Trees.{resolve-is}
use Rattle.def_restrictions.specs.Definition.{condition_column, item_columns, used_columns}
use Rattle.def_rewriting.specs.Reaching.{plain_columns}
use Rattle.law_lists.proofs.Each.{Each-both, Each-append, Each-of_mapped, Each-map, Each-of, Each-of_map}
use Rattle.law_lists.proofs.Options.{none_first, none_then, or_refuse_is, unless_is, none_each}
use Rattle.wh_base.proofs.SameItems.{same_column_is}
use Rattle.law_rewrite.specs.Words.{Each}
use Rattle.law_rewrite.specs.Fine.{Declared, IsColumn, OwnColumn, StarFine}
use Rattle.law_rewrite.proofs.Answering.{Each-split}
use Rattle.law_rewrite.proofs.Choosing.{each_given}
use Rattle.law_rewrite.proofs.Implying.{PlainIn, is_plain}
use Rattle.law_rewrite.proofs.Mixed.{each_has}
use Rattle.law_rewrite.proofs.Walking.{map_gives}

-- ---- lists

in_count : (start m k j : ℕ) → j ≡ start + k → k < m → has_number (count_from start m) j ≡ true
in_count start zero k j e h = absurd (omega (arith, h))
in_count start (suc m) zero j e h = let same : start ≡ j = omega (arith, e) in ap (λ b. b || has_number (count_from (suc start) m) j) (eq-eqb start j same)
in_count start (suc m) (suc k) j e h =
    let later : j ≡ suc start + k = omega (arith, e) in
    let less : k < m = omega (arith, h) in
    ap (λ b. (start == j) || b) (in_count (suc start) m k j later less) ∙ or-true (start == j)

pub only_is : {A : Type 0} (P : A → Type 0) (xs : List A) (d : A) → Each P xs → the_only xs ≡ Some d → P d
only_is P [] d h e = cc
only_is P (x ∷ []) d h e = subst P (same_Some x d e) h.0
only_is P (x ∷ y ∷ ys) d h e = cc

flat_each : {A C D : Type 0} (Q : C → Type 0) (R : D → Type 0) (f : A → List C) (g : A → List D) → ((x : A) → Each Q (f x) → Each R (g x)) → (xs : List A) → Each Q (flat_map f xs) → Each R (flat_map g xs)
flat_each Q R f g h [] k = tt
flat_each Q R f g h (x ∷ xs) k =
    let both : Each Q (f x) × Each Q (flat_map f xs) = Each-split Q (f x) (flat_map f xs) k in
    Each-append R (g x) (flat_map g xs) (h x both.0) (flat_each Q R f g h xs both.1)

flat_over : {A B C D : Type 0} (Q : C → Type 0) (R : D → Type 0) (f : A → List C) (k : A → B) (g : B → List D) → ((x : A) → Each Q (f x) → Each R (g (k x))) → (xs : List A) → Each Q (flat_map f xs) → Each R (flat_map g (map k xs))
flat_over Q R f k g h [] l = tt
flat_over Q R f k g h (x ∷ xs) l =
    let both : Each Q (f x) × Each Q (flat_map f xs) = Each-split Q (f x) (flat_map f xs) l in
    Each-append R (g (k x)) (flat_map g (map k xs)) (h x both.0) (flat_over Q R f k g h xs both.1)

-- ---- what names stand for

module _ (defs : List TableDef) (query : RawQuery) where
  abbrev sources : List Source
  sources = sources_of defs query

  abbrev tables : List ℕ
  tables = map (λ s. s.table) (sources_of defs query)

  abbrev Known : ColRef → Type 0
  Known d = (has_number tables d.table ≡ true) × Declared defs d

  abbrev SourceFine : Source → Type 0
  SourceFine s = (s.def ≡ def_at defs s.table) × (has_number tables s.table ≡ true)

  sources_fine : Each SourceFine (sources_of defs query)
  sources_fine =
      Each-both (λ s. s.def ≡ def_at defs s.table) (λ s. has_number tables s.table ≡ true) (sources_of defs query)
      (each_given (λ t. Unit {0}) (λ s. s.def ≡ def_at defs s.table) (source_of defs) (λ t s u e. given t s (map_gives (λ n. record { label = unwrap_or t.alias t.table; table = n; def = def_at defs n }) (table_number defs t.table) s e))
      query.tables (Each-of (λ t. Unit {0}) (λ t. tt) query.tables))
      (Each-of_mapped (λ n. has_number tables n ≡ true) (λ (s : Source). s.table) (sources_of defs query) (each_has tables))
    where
      given : (t : RawTable) (s : Source) → (n : ℕ) × ((table_number defs t.table ≡ Some n) × (record { label = unwrap_or t.alias t.table; table = n; def = def_at defs n } ≡ s)) → s.def ≡ def_at defs s.table
      given t s g = subst (λ (x : Source). x.def ≡ def_at defs x.table) g.1.1 refl

  part_declared : (s : Source) → s.def ≡ def_at defs s.table → (n : NamePart) (p : ColPart) → part_named s.def n ≡ Some p → Declared defs (record { table = s.table; part = p })
  part_declared s own (Plain name) p e = of_name (map_gives Col (column_number s.def name) p e)
    where
      of_name : (n : ℕ) × ((column_number s.def name ≡ Some n) × (Col n ≡ p)) → Declared defs (record { table = s.table; part = p })
      of_name g =
          subst (λ x. Declared defs (record { table = s.table; part = x })) g.1.1
          (subst (λ (d : TableDef). has_number (count_from 0 (length d.columns)) g.0 ≡ true) own
          (let same : g.0 ≡ 0 + g.0 = omega arith in in_count 0 (length s.def.columns) g.0 g.0 same (below g.0 g.1.0)))
        where
          below : (n : ℕ) → column_number s.def name ≡ Some n → n < length s.def.columns
          below n f = bound s.def.columns n f
            where
              bound : (cs : List ColumnDef) (n : ℕ) → position (λ c. same_text c.name name) cs ≡ Some n → n < length cs
              bound [] n f = cc
              bound (c ∷ cs) n f = (position-Some (λ (x : ColumnDef). same_text x.name name) (c ∷ cs) n c f).0
  part_declared s own RowIdName p e = subst (λ x. Declared defs (record { table = s.table; part = x })) (same_Some RowId p e) tt
  part_declared s own MarkName p e = subst (λ x. Declared defs (record { table = s.table; part = x })) (same_Some Mark p e) tt

  known_in : (c : ColName) (s : Source) (d : ColRef) → SourceFine s → column_in c s ≡ Some d → Known d
  known_in c s d fine h = by (is_qualified_by c.qualifier s) h
    where
      of_part : (p : ColPart) × ((part_named s.def c.part ≡ Some p) × (record { table = s.table; part = p } ≡ d)) → Known d
      of_part g = subst Known g.1.1 (fine.1, part_declared s fine.0 c.part g.0 g.1.0)

      by : (b : Bool) → cond b (option_map (λ p. record { table = s.table; part = p }) (part_named s.def c.part)) None ≡ Some d → Known d
      by true e = of_part (map_gives (λ p. record { table = s.table; part = p }) (part_named s.def c.part) d e)
      by false e = cc

  named : (c : ColName) → name_refusal (sources_of defs query) c ≡ None → Known (column_named (sources_of defs query) c)
  named c h = by (column_of (sources_of defs query) c) refl h
    where
      by : (o : Option ColRef) → column_of (sources_of defs query) c ≡ o → option_case o (Some (NoSuchColumn (name_text c))) (λ _. None) ≡ None → Known (unwrap_or o no_column)
      by None e k = cc
      by (Some d) e k = only_is Known (filter_map (column_in c) (sources_of defs query)) d (each_given SourceFine Known (column_in c) (λ s x f g. known_in c s x f g) (sources_of defs query) sources_fine) e

-- ---- from the names of a query to its columns

module _ (P : ColRef → Type 0) (column : ColName → ColRef) where
  abbrev Names : ColName → Type 0
  Names c = P (column c)

  abbrev JoinIs : Edge → Type 0
  JoinIs e = P e.from × P e.to

  expr_each : (e : RawExpr) → Each Names (expr_names e) → Each P (expr_columns (resolved_expr column e))
  expr_each (Column a) h = h
  expr_each (Times a b) h = h
  expr_each (Constant n) h = h

  agg_each : (a : RawAgg) → Each Names (agg_names a) → Each P (agg_columns (resolved_agg column a))
  agg_each CountRows h = h
  agg_each (CountOf e) h = expr_each e h
  agg_each (SumOf e) h = expr_each e h
  agg_each (AvgOf e) h = expr_each e h
  agg_each (MinOf e) h = expr_each e h
  agg_each (MaxOf e) h = expr_each e h

  what_each : (w : RawWhat) → Each Names (what_names w) → Each P (item_columns (resolved_item column w))
  what_each (what.Plain c) h = h
  what_each (what.Computed a) h = agg_each a h

  condition_each : (c : RawCondition) → Each Names (condition_names c) → Each (λ d. P (condition_column d)) (resolved_condition column c)
  condition_each (raw.Compare c op l) h = h
  condition_each (raw.Between c l m) h = (h.0, (h.0, tt))
  condition_each (raw.Equal a b) h = tt
  condition_each (raw.OneOf c ls) h = h
  condition_each (raw.IsNull c) h = h
  condition_each (raw.NotNull c) h = h

  condition_join : (c : RawCondition) → Each Names (condition_names c) → Each JoinIs (join_of_condition column c)
  condition_join (raw.Compare c op l) h = tt
  condition_join (raw.Between c l m) h = tt
  condition_join (raw.Equal a b) h = ((h.0, h.1.0), tt)
  condition_join (raw.OneOf c ls) h = tt
  condition_join (raw.IsNull c) h = tt
  condition_join (raw.NotNull c) h = tt

  table_join : (t : RawTable) → Each Names (join_names t) → Each JoinIs (join_of_table column t)
  table_join t h = by t.on h
    where
      by : (o : Option RawJoin) → Each Names (option_case o [] (λ j. j.left ∷ j.right ∷ [])) → Each JoinIs (option_case o [] (λ j. record { from = column j.left; to = column j.right } ∷ []))
      by None k = tt
      by (Some j) k = ((k.0, k.1.0), tt)

  one_join : (joins : List Edge) (e : Edge) → Each JoinIs joins → is_one_of joins e ≡ true → JoinIs e
  one_join [] e h k = cc
  one_join (j ∷ js) e h k = by (same_join j e) (same_join (turned j) e) refl refl k (one_join js e h.1)
    where
      by : (a b : Bool) → same_join j e ≡ a → same_join (turned j) e ≡ b → ((a || b) || is_one_of js e) ≡ true → (is_one_of js e ≡ true → JoinIs e) → JoinIs e
      by true b f g l later =
          let both : (same_column j.from e.from ≡ true) × (same_column j.to e.to ≡ true) = and_parts (same_column j.from e.from) (same_column j.to e.to) f in
          (subst P (same_column_is j.from e.from both.0) h.0.0, subst P (same_column_is j.to e.to both.1) h.0.1)
      by false true f g l later =
          let both : (same_column j.to e.from ≡ true) × (same_column j.from e.to ≡ true) = and_parts (same_column j.to e.from) (same_column j.from e.to) g in
          (subst P (same_column_is j.to e.from both.0) h.0.1, subst P (same_column_is j.from e.to both.1) h.0.0)
      by false false f g l later = later l

  edges_each : (joins : List Edge) → Each JoinIs joins → (es : List Edge) → list_all (is_one_of joins) es ≡ true → Each P (flat_map (λ e. e.from ∷ e.to ∷ []) es)
  edges_each joins h [] k = tt
  edges_each joins h (e ∷ es) k =
      let both : (is_one_of joins e ≡ true) × (list_all (is_one_of joins) es ≡ true) = and_parts (is_one_of joins e) (list_all (is_one_of joins) es) k in
      let here : JoinIs e = one_join joins e h both.0 in
      (here.0, (here.1, edges_each joins h es both.1))

  -- all columns of the star form by a tree whose joins are the query's
  columns_each : (query : RawQuery) (tree : Tree) → list_all (is_one_of (joins_of column query)) tree.edges ≡ true → Each Names (query_names query) → Each P (used_columns (star_query query column tree))
  columns_each query tree ours h =
      Each-append P (flat_map item_columns (map (λ i. resolved_item column i.what) query.items))
      (map condition_column (flat_map (resolved_condition column) query.conditions) ++ (flat_map (λ e. e.from ∷ e.to ∷ []) tree.edges ++ (map column query.groups ++ flat_map (λ t. agg_columns t.agg) (map (resolved_test column) query.having))))
      (flat_over Names P (λ i. what_names i.what) (λ i. resolved_item column i.what) item_columns (λ i k. what_each i.what k) query.items one.0)
      (Each-append P (map condition_column (flat_map (resolved_condition column) query.conditions))
      (flat_map (λ e. e.from ∷ e.to ∷ []) tree.edges ++ (map column query.groups ++ flat_map (λ t. agg_columns t.agg) (map (resolved_test column) query.having)))
      (Each-of_map P condition_column (flat_map (resolved_condition column) query.conditions)
      (flat_each Names (λ d. P (condition_column d)) condition_names (resolved_condition column) condition_each query.conditions three.0))
      (Each-append P (flat_map (λ e. e.from ∷ e.to ∷ []) tree.edges) (map column query.groups ++ flat_map (λ t. agg_columns t.agg) (map (resolved_test column) query.having))
      (edges_each (joins_of column query)
      (Each-append JoinIs (flat_map (join_of_table column) query.tables) (flat_map (join_of_condition column) query.conditions)
      (flat_each Names JoinIs join_names (join_of_table column) table_join query.tables two.0)
      (flat_each Names JoinIs condition_names (join_of_condition column) condition_join query.conditions three.0)) tree.edges ours)
      (Each-append P (map column query.groups) (flat_map (λ t. agg_columns t.agg) (map (resolved_test column) query.having))
      (Each-of_map P column query.groups four.0)
      (flat_over Names P (λ t. agg_names t.agg) (resolved_test column) (λ t. agg_columns t.agg) (λ t k. agg_each t.agg k) query.having four.1))))
    where
      one : Each Names (flat_map (λ i. what_names i.what) query.items)
          × Each Names (flat_map join_names query.tables ++ (flat_map condition_names query.conditions ++ (query.groups ++ flat_map (λ t. agg_names t.agg) query.having)))
      one = Each-split Names (flat_map (λ i. what_names i.what) query.items) (flat_map join_names query.tables ++ (flat_map condition_names query.conditions ++ (query.groups ++ flat_map (λ t. agg_names t.agg) query.having))) h

      two : Each Names (flat_map join_names query.tables) × Each Names (flat_map condition_names query.conditions ++ (query.groups ++ flat_map (λ t. agg_names t.agg) query.having))
      two = Each-split Names (flat_map join_names query.tables) (flat_map condition_names query.conditions ++ (query.groups ++ flat_map (λ t. agg_names t.agg) query.having)) one.1

      three : Each Names (flat_map condition_names query.conditions) × Each Names (query.groups ++ flat_map (λ t. agg_names t.agg) query.having)
      three = Each-split Names (flat_map condition_names query.conditions) (query.groups ++ flat_map (λ t. agg_names t.agg) query.having) two.1

      four : Each Names query.groups × Each Names (flat_map (λ t. agg_names t.agg) query.having)
      four = Each-split Names query.groups (flat_map (λ t. agg_names t.agg) query.having) three.1

-- ---- literals, items

literal_plain : (l : Literal) → is_plain (literal_value l) ≡ true
literal_plain (Number n) = refl
literal_plain (Quoted []) = refl
literal_plain (Quoted (b ∷ bs)) = refl
literal_plain (Dated n) = refl

literals_plain : (ls : List Literal) → list_all is_plain (map literal_value ls) ≡ true
literals_plain [] = refl
literals_plain (l ∷ ls) = λ i. literal_plain l i && literals_plain ls i

condition_plain : (column : ColName → ColRef) (c : RawCondition) → Each PlainIn (resolved_condition column c)
condition_plain column (raw.Compare c op l) = (literal_plain l, tt)
condition_plain column (raw.Between c l m) = (literal_plain l, (literal_plain m, tt))
condition_plain column (raw.Equal a b) = tt
condition_plain column (raw.OneOf c ls) = (literals_plain ls, tt)
condition_plain column (raw.IsNull c) = (tt, tt)
condition_plain column (raw.NotNull c) = (tt, tt)

pub all_plain : (column : ColName → ColRef) (cs : List RawCondition) → Each PlainIn (flat_map (resolved_condition column) cs)
all_plain column [] = tt
all_plain column (c ∷ cs) = Each-append PlainIn (resolved_condition column c) (flat_map (resolved_condition column) cs) (condition_plain column c) (all_plain column cs)

pub grouped_columns : (keys : List ColRef) (is : List Item) → list_all (item_is_grouped keys) is ≡ true → Each (λ d. has_column keys d ≡ true) (flat_map plain_columns is)
grouped_columns keys [] h = tt
grouped_columns keys (item.Col c ∷ is) h = let both : (has_column keys c ≡ true) × (list_all (item_is_grouped keys) is ≡ true) = and_parts (has_column keys c) (list_all (item_is_grouped keys) is) h in (both.0, grouped_columns keys is both.1)
grouped_columns keys (item.Agg a ∷ is) h = grouped_columns keys is h

no_aggs : (is : List Item) → list_any is_agg is ≡ false → Each IsColumn is
no_aggs [] h = tt
no_aggs (item.Col c ∷ is) h = (tt, no_aggs is h)
no_aggs (item.Agg a ∷ is) h = absurd (let e : true ≡ false = h in cc)

neither : (a b c : Bool) → (a || (b || c)) ≡ false → c ≡ false
neither true b c h = cc
neither false true c h = cc
neither false false c h = h

-- ---- the star form

-- **a query that is resolved is a star form**
pub star_fine_of : (defs : List TableDef) (query : RawQuery) (q : StarQuery) → resolve defs query ≡ Ok q → StarFine defs q
star_fine_of defs query q h = by_tree (or_refuse_is (star_of defs (joins_of column query) (tables defs query)) NotStar (λ tree. unless (where_true (not (grouping_holds query column items (map column query.groups))) NotGrouped) (star_query query column tree)) q passed.1)
  where
    column : ColName → ColRef
    column = column_named (sources_of defs query)

    items : List Item
    items = map (λ i. resolved_item (column_named (sources_of defs query)) i.what) query.items

    passed : (first_some (table_refusal defs query ∷ names_refusal (sources_of defs query) query ∷ kinds_refusal defs (first_table (sources_of defs query)) (column_named (sources_of defs query)) query ∷ []) ≡ None)
        × (star_form defs query (sources_of defs query) ≡ Ok q)
    passed =
        none_then (first_some (table_refusal defs query ∷ names_refusal (sources_of defs query) query ∷ kinds_refusal defs (first_table (sources_of defs query)) (column_named (sources_of defs query)) query ∷ []))
        (star_form defs query (sources_of defs query)) q h

    names : Each (λ c. Known defs query (column_named (sources_of defs query) c)) (query_names query)
    names =
        Each-map (λ c. name_refusal (sources_of defs query) c ≡ None) (λ c. Known defs query (column_named (sources_of defs query) c)) (λ c k. named defs query c k) (query_names query)
        (none_each (name_refusal (sources_of defs query)) (query_names query)
        (none_first (first_of (name_refusal (sources_of defs query)) (query_names query)) (first_of (λ k. order_refusal (sources_of defs query) query k.what) query.order ∷ [])
        (none_first (names_refusal (sources_of defs query) query) (kinds_refusal defs (first_table (sources_of defs query)) (column_named (sources_of defs query)) query ∷ [])
        (none_first (table_refusal defs query) (names_refusal (sources_of defs query) query ∷ kinds_refusal defs (first_table (sources_of defs query)) (column_named (sources_of defs query)) query ∷ []) passed.0).1).0).0)

    is_star : IsStar defs q
    is_star = resolve-is defs query q h

    by_tree : (tree : Tree) × ((star_of defs (joins_of column query) (tables defs query) ≡ Some tree) × (unless (where_true (not (grouping_holds query column items (map column query.groups))) NotGrouped) (star_query query column tree) ≡ Ok q)) → StarFine defs q
    by_tree found = record {
      tree = is_star.0;
      columns = subst (λ (x : StarQuery). Each (OwnColumn defs x) (used_columns x)) same
          (Each-map (Known defs query) (OwnColumn defs (star_query query column found.0)) (λ d k. (has d.table ∙ k.0, k.1)) (used_columns (star_query query column found.0))
          (columns_each (Known defs query) column query found.0 over.1.1.by_joins names));
      literals = subst (λ (x : StarQuery). Each PlainIn x.conditions) same (all_plain column query.conditions);
      selected = λ g. grouped_columns q.keys q.items (is_star.1 g);
      alone = subst (λ (x : StarQuery). x.grouped ≡ false → Each IsColumn x.items) same (λ g. no_aggs items (neither (not (is_empty query.groups)) (not (is_empty query.having)) (list_any is_agg items) g));
    }
      where
        same : star_query query column found.0 ≡ q
        same = unless_is (where_true (not (grouping_holds query column items (map column query.groups))) NotGrouped) (star_query query column found.0) q found.1.1

        over : (root : ℕ) × ((found.0.tables ≡ root ∷ map (λ e. e.to.table) found.0.edges) × IsTreeOver defs (joins_of column query) (tables defs query) root found.0.edges)
        over = (star_of-law defs (joins_of column query) (tables defs query)).some found.0 found.1.0

        has : (n : ℕ) → has_number found.0.tables n ≡ has_number (tables defs query) n
        has n = ap (λ ts. has_number ts n) over.1.0 ∙ over.1.1.all_tables n
