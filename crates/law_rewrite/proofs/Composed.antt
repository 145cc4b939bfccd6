-- The composed definition of a view over a view is a star form where that of the view beneath is one.
use Rattle.std.proofs.Common.{◌≡◌, ◌∙◌, sym, subst, refl, ℕ, Bool, true, false, cond, not, List, [], ◌∷◌, ◌++◌, map, Option, Some, None}
use Rattle.std.specs.List.{filter, flat_map, list_all}
use Rattle.std.specs.Prelude.{is_none, is_some, option_and_then, unwrap_or, zip, ◌&&◌}
use Rattle.std.proofs.lemmas.Option.{same_Some}
use Rattle.std.proofs.lemmas.Bool.{and_parts}
use Rattle.wh_base.specs.Columns.{agg_columns}
use Rattle.wh_base.specs.Lists.{all_there, is_empty, option_case, same_text, where_true}
use Rattle.wh_base.specs.declared.columns.Agg.{Agg}
use Rattle.wh_base.specs.declared.columns.Agg.TheVariants.{Avg, Count, CountAll, Max, Min, Sum}
use Rattle.wh_base.specs.declared.columns.ColRef.{ColRef}
use Rattle.wh_base.specs.declared.queries.ColName.{ColName}
use Rattle.wh_base.specs.declared.queries.Item.{Item}
use Rattle.wh_base.specs.declared.queries.Item.TheVariants as item
use Rattle.wh_base.specs.declared.queries.RawAgg.{RawAgg}
use Rattle.wh_base.specs.declared.queries.RawAgg.TheVariants.{AvgOf, CountOf, CountRows, MaxOf, MinOf, SumOf}
use Rattle.wh_base.specs.declared.queries.RawCondition.{RawCondition}
use Rattle.wh_base.specs.declared.queries.RawCondition.TheVariants as raw
use Rattle.wh_base.specs.declared.queries.RawExpr.{RawExpr}
use Rattle.wh_base.specs.declared.queries.RawExpr.TheVariants.{Column, Constant, Times}
use Rattle.wh_base.specs.declared.queries.RawQuery.{RawQuery}
use Rattle.wh_base.specs.declared.queries.RawWhat.{RawWhat}
use Rattle.wh_base.specs.declared.queries.RawWhat.TheVariants as what
use Rattle.wh_base.specs.declared.queries.StarQuery.{StarQuery}
use Rattle.wh_base.specs.declared.tables.TableDef.{TableDef}
use Rattle.wh_base.specs.declared.values.Literal.{Literal}
use Rattle.wh_base.specs.declared.views.ViewDef.{ViewDef}
use Rattle.def_nest.specs.Compose.{agg_beneath, column_beneath, compares, compose, composed_agg, composed_item, composed_query, condition_stands, greatest_taken, is_comparable, least_taken, may_be_nested, order_stands, parts_stand, sort_beneath, summed}
use Rattle.def_nest.specs.Names.{agg_in_item, agg_named, bears, column_in_item, grouped_column, item_named, item_names, item_of, plain_name}
use Rattle.def_resolve.specs.Names.{no_column, the_only}
use Rattle.def_resolve.specs.Resolve.{item_is_grouped, resolved_condition}
use Rattle.def_restrictions.specs.Definition.{condition_column, item_columns}
use Rattle.law_lists.proofs.Each.{Each-append, Each-of_mapped, Each-of_map}
use Rattle.def_resolve.proofs.Trees.{where_is}
use Rattle.law_rewrite.specs.Words.{Each}
use Rattle.law_rewrite.specs.Fine.{OwnColumn, StarFine}
use Rattle.law_rewrite.proofs.Answering.{Each-split}
use Rattle.law_rewrite.proofs.Implying.{PlainIn}
use Rattle.law_rewrite.proofs.Resolved.{all_plain, grouped_columns, only_is}
use Rattle.law_rewrite.proofs.Walking.{map_gives}

then_gives : {A B : Type 0} (o : Option A) (f : A → Option B) (y : B) → option_and_then f o ≡ Some y → (x : A) × ((o ≡ Some x) × (f x ≡ Some y))
then_gives None f y h = cc
then_gives (Some x) f y h = (x, (refl, h))

-- what is so of each item that is there
there_each : {A B : Type 0} (P : B → Type 0) (f : A → Option B) → ((x : A) (y : B) → f x ≡ Some y → P y) → (xs : List A) (ys : List B) → all_there (map f xs) ≡ Some ys → Each P ys
there_each P f h [] ys e = subst (Each P) (same_Some [] ys e) tt
there_each {B = B} P f h (x ∷ xs) ys e = by (f x) refl e (there_each P f h xs)
  where
    by : (o : Option B) → f x ≡ o → all_there (o ∷ map f xs) ≡ Some ys → ((zs : List B) → all_there (map f xs) ≡ Some zs → Each P zs) → Each P ys
    by None g k later = cc
    by (Some y) g k later =
        let rest = map_gives (λ zs. y ∷ zs) (all_there (map f xs)) ys k in
        subst (Each P) rest.1.1 (h x y g, later rest.0 rest.1.0)

zipped : {A B : Type 0} (P : B → Type 0) (test : A × B → Bool) (xs : List A) (ys : List B) → Each P ys → Each (λ (p : A × B). P p.1) (filter test (zip xs ys))
zipped P test [] ys h = tt
zipped P test (x ∷ xs) [] h = tt
zipped {A = A} {B = B} P test (x ∷ xs) (y ∷ ys) h = by (test (x, y)) (zipped P test xs ys h.1)
  where
    by : (b : Bool) → Each (λ (p : A × B). P p.1) (filter test (zip xs ys)) → Each (λ (p : A × B). P p.1) (cond b ((x, y) ∷ filter test (zip xs ys)) (filter test (zip xs ys)))
    by true later = (h.0, later)
    by false later = later

module _ (defs : List TableDef) (d : ViewDef) (fine : StarFine defs d.query) where
  abbrev Own : ColRef → Type 0
  Own c = OwnColumn defs d.query c

  abbrev ItemOwn : Item → Type 0
  ItemOwn i = Each Own (item_columns i)

  parts : Each Own (flat_map item_columns d.query.items)
      × Each Own (map condition_column d.query.conditions ++ (flat_map (λ e. e.from ∷ e.to ∷ []) d.query.edges ++ (d.query.keys ++ flat_map (λ t. agg_columns t.agg) d.query.having)))
  parts = Each-split Own (flat_map item_columns d.query.items) (map condition_column d.query.conditions ++ (flat_map (λ e. e.from ∷ e.to ∷ []) d.query.edges ++ (d.query.keys ++ flat_map (λ t. agg_columns t.agg) d.query.having))) fine.columns

  more : Each Own (map condition_column d.query.conditions) × Each Own (flat_map (λ e. e.from ∷ e.to ∷ []) d.query.edges ++ (d.query.keys ++ flat_map (λ t. agg_columns t.agg) d.query.having))
  more = Each-split Own (map condition_column d.query.conditions) (flat_map (λ e. e.from ∷ e.to ∷ []) d.query.edges ++ (d.query.keys ++ flat_map (λ t. agg_columns t.agg) d.query.having)) parts.1

  rest : Each Own (flat_map (λ e. e.from ∷ e.to ∷ []) d.query.edges) × Each Own (d.query.keys ++ flat_map (λ t. agg_columns t.agg) d.query.having)
  rest = Each-split Own (flat_map (λ e. e.from ∷ e.to ∷ []) d.query.edges) (d.query.keys ++ flat_map (λ t. agg_columns t.agg) d.query.having) more.1

  last : Each Own d.query.keys × Each Own (flat_map (λ t. agg_columns t.agg) d.query.having)
  last = Each-split Own d.query.keys (flat_map (λ t. agg_columns t.agg) d.query.having) rest.1

  items_own : (is : List Item) → Each Own (flat_map item_columns is) → Each ItemOwn is
  items_own [] h = tt
  items_own (i ∷ is) h = let both : Each Own (item_columns i) × Each Own (flat_map item_columns is) = Each-split Own (item_columns i) (flat_map item_columns is) h in (both.0, items_own is both.1)

  -- an item that a name stands for is one of the view's
  item_own : (c : ColName) (i : Item) → item_of d c ≡ Some i → ItemOwn i
  item_own c i h = by (option_case c.qualifier true (same_text d.name)) h
    where
      of_name : (name : List ℕ) → item_named d name ≡ Some i → ItemOwn i
      of_name name e =
          let found = map_gives (λ (p : Option (List ℕ) × Item). p.1) (the_only (filter (bears name) (zip (item_names d) d.query.items))) i e in
          subst ItemOwn found.1.1 (only_is (λ (p : Option (List ℕ) × Item). ItemOwn p.1) (filter (bears name) (zip (item_names d) d.query.items)) found.0
          (zipped ItemOwn (bears name) (item_names d) d.query.items (items_own d.query.items parts.0)) found.1.0)

      by : (b : Bool) → cond b (option_and_then (item_named d) (plain_name c.part)) None ≡ Some i → ItemOwn i
      by true e = let g = then_gives (plain_name c.part) (item_named d) i e in of_name g.0 g.1.1
      by false e = cc

  column_own : (c : ColName) (k : ColRef) → grouped_column d c ≡ Some k → Own k
  column_own c k h = let g = then_gives (item_of d c) column_in_item k h in by g.0 (item_own c g.0 g.1.0) g.1.1
    where
      by : (i : Item) → ItemOwn i → column_in_item i ≡ Some k → Own k
      by (item.Col x) own e = subst Own (same_Some x k e) own.0
      by (item.Agg a) own e = cc

  agg_own : (c : ColName) (a : Agg) → agg_named d c ≡ Some a → Each Own (agg_columns a)
  agg_own c a h = let g = then_gives (item_of d c) agg_in_item a h in by g.0 (item_own c g.0 g.1.0) g.1.1
    where
      by : (i : Item) → ItemOwn i → agg_in_item i ≡ Some a → Each Own (agg_columns a)
      by (item.Col x) own e = cc
      by (item.Agg b) own e = subst (λ x. Each Own (agg_columns x)) (same_Some b a e) own

  beneath_own : (e : RawExpr) (a : Agg) → agg_beneath d e ≡ Some a → Each Own (agg_columns a)
  beneath_own (Column c) a h = agg_own c a h
  beneath_own (Times x y) a h = cc
  beneath_own (Constant n) a h = cc

  summed_own : (b a : Agg) → Each Own (agg_columns b) → summed b ≡ Some a → Each Own (agg_columns a)
  summed_own CountAll a h e = subst (λ x. Each Own (agg_columns x)) (same_Some CountAll a e) h
  summed_own (Count x) a h e = subst (λ y. Each Own (agg_columns y)) (same_Some (Count x) a e) h
  summed_own (Sum x) a h e = subst (λ y. Each Own (agg_columns y)) (same_Some (Sum x) a e) h
  summed_own (Avg x) a h e = cc
  summed_own (Min x) a h e = cc
  summed_own (Max x) a h e = cc

  least_own : (b a : Agg) → Each Own (agg_columns b) → least_taken b ≡ Some a → Each Own (agg_columns a)
  least_own (Min x) a h e = subst (λ y. Each Own (agg_columns y)) (same_Some (Min x) a e) h
  least_own CountAll a h e = cc
  least_own (Count x) a h e = cc
  least_own (Sum x) a h e = cc
  least_own (Avg x) a h e = cc
  least_own (Max x) a h e = cc

  greatest_own : (b a : Agg) → Each Own (agg_columns b) → greatest_taken b ≡ Some a → Each Own (agg_columns a)
  greatest_own (Max x) a h e = subst (λ y. Each Own (agg_columns y)) (same_Some (Max x) a e) h
  greatest_own CountAll a h e = cc
  greatest_own (Count x) a h e = cc
  greatest_own (Sum x) a h e = cc
  greatest_own (Avg x) a h e = cc
  greatest_own (Min x) a h e = cc

  composed_own : (r : RawAgg) (a : Agg) → composed_agg d r ≡ Some a → Each Own (agg_columns a)
  composed_own CountRows a h = cc
  composed_own (CountOf e) a h = cc
  composed_own (SumOf e) a h = let g = then_gives (agg_beneath d e) summed a h in summed_own g.0 a (beneath_own e g.0 g.1.0) g.1.1
  composed_own (AvgOf e) a h = cc
  composed_own (MinOf e) a h = let g = then_gives (agg_beneath d e) least_taken a h in least_own g.0 a (beneath_own e g.0 g.1.0) g.1.1
  composed_own (MaxOf e) a h = let g = then_gives (agg_beneath d e) greatest_taken a h in greatest_own g.0 a (beneath_own e g.0 g.1.0) g.1.1

  what_own : (w : RawWhat) (i : Item) → composed_item d w ≡ Some i → ItemOwn i
  what_own (what.Plain c) i h = let g = map_gives item.Col (grouped_column d c) i h in subst ItemOwn g.1.1 (column_own c g.0 g.1.0, tt)
  what_own (what.Computed a) i h = let g = map_gives item.Agg (composed_agg d a) i h in subst ItemOwn g.1.1 (composed_own a g.0 g.1.0)

  flat_own : (is : List Item) → Each ItemOwn is → Each Own (flat_map item_columns is)
  flat_own [] h = tt
  flat_own (i ∷ is) h = Each-append Own (item_columns i) (flat_map item_columns is) h.0 (flat_own is h.1)

  -- conditions
  there_own : (c : ColName) → is_some (grouped_column d c) ≡ true → Own (column_beneath d c)
  there_own c h = by (grouped_column d c) refl h
    where
      by : (o : Option ColRef) → grouped_column d c ≡ o → is_some o ≡ true → Own (unwrap_or o no_column)
      by None e k = cc
      by (Some x) e k = column_own c x e

  compares_own : (c : ColName) (ls : List Literal) → compares d c ls ≡ true → Own (column_beneath d c)
  compares_own c ls h = there_own c (by (grouped_column d c) h)
    where
      by : (o : Option ColRef) → option_case o false (λ k. list_all (is_comparable (sort_beneath d k)) ls) ≡ true → is_some o ≡ true
      by None k = cc
      by (Some x) k = refl

  condition_own : (c : RawCondition) → condition_stands d c ≡ true → Each (λ x. Own (condition_column x)) (resolved_condition (column_beneath d) c)
  condition_own (raw.Compare c op l) h = (compares_own c (l ∷ []) h, tt)
  condition_own (raw.Between c l m) h = (compares_own c (l ∷ m ∷ []) h, (compares_own c (l ∷ m ∷ []) h, tt))
  condition_own (raw.Equal a b) h = tt
  condition_own (raw.OneOf c ls) h = (compares_own c ls h, tt)
  condition_own (raw.IsNull c) h = (there_own c h, tt)
  condition_own (raw.NotNull c) h = (there_own c h, tt)

  conditions_own : (cs : List RawCondition) → list_all (condition_stands d) cs ≡ true → Each (λ x. Own (condition_column x)) (flat_map (resolved_condition (column_beneath d)) cs)
  conditions_own [] h = tt
  conditions_own (c ∷ cs) h =
      let both : (condition_stands d c ≡ true) × (list_all (condition_stands d) cs ≡ true) = and_parts (condition_stands d c) (list_all (condition_stands d) cs) h in
      Each-append (λ x. Own (condition_column x)) (resolved_condition (column_beneath d) c) (flat_map (resolved_condition (column_beneath d)) cs) (condition_own c both.0) (conditions_own cs both.1)

  -- **the composed definition**
  pub composed_fine : (query : RawQuery) (q : StarQuery) → compose query d ≡ Some q → StarFine defs q
  composed_fine query q h = by_items (then_gives (all_there (map (λ i. composed_item d i.what) query.items)) with_items q h)
    where
      with_items : List Item → Option StarQuery
      with_items items = option_and_then (λ keys. where_true (may_be_nested query d && parts_stand query d items keys) (composed_query query d items keys)) (all_there (map (grouped_column d) query.groups))

      fine_of : (items : List Item) (keys : List ColRef) → all_there (map (λ i. composed_item d i.what) query.items) ≡ Some items → all_there (map (grouped_column d) query.groups) ≡ Some keys
          → (may_be_nested query d ≡ true) × (parts_stand query d items keys ≡ true) → StarFine defs (composed_query query d items keys)
      fine_of items keys e f both = record {
        tree = fine.tree;
        columns = Each-append Own (flat_map item_columns items)
            (map condition_column (d.query.conditions ++ flat_map (resolved_condition (column_beneath d)) query.conditions) ++ (flat_map (λ x. x.from ∷ x.to ∷ []) d.query.edges ++ (keys ++ flat_map (λ t. agg_columns t.agg) d.query.having)))
            (flat_own items (there_each ItemOwn (λ i. composed_item d i.what) (λ i j k. what_own i.what j k) query.items items e))
            (Each-append Own (map condition_column (d.query.conditions ++ flat_map (resolved_condition (column_beneath d)) query.conditions)) (flat_map (λ x. x.from ∷ x.to ∷ []) d.query.edges ++ (keys ++ flat_map (λ t. agg_columns t.agg) d.query.having))
            (Each-of_map Own condition_column (d.query.conditions ++ flat_map (resolved_condition (column_beneath d)) query.conditions)
            (Each-append (λ x. Own (condition_column x)) d.query.conditions (flat_map (resolved_condition (column_beneath d)) query.conditions) (Each-of_mapped Own condition_column d.query.conditions more.0) (conditions_own query.conditions stands.0)))
            (Each-append Own (flat_map (λ x. x.from ∷ x.to ∷ []) d.query.edges) (keys ++ flat_map (λ t. agg_columns t.agg) d.query.having) rest.0
            (Each-append Own keys (flat_map (λ t. agg_columns t.agg) d.query.having) (there_each Own (grouped_column d) column_own query.groups keys f) last.1)));
        literals = Each-append PlainIn d.query.conditions (flat_map (resolved_condition (column_beneath d)) query.conditions) fine.literals (all_plain (column_beneath d) query.conditions);
        selected = λ g. grouped_columns keys items (and_parts (list_all (item_is_grouped keys) items) (list_all (λ k. order_stands d query items k.what) query.order) stands.1).0;
        alone = λ g. absurd (let k : false ≡ true = sym g ∙ (and_parts d.query.grouped (is_empty d.query.having && (not (is_empty query.groups) && (is_empty query.having && is_none query.as_of))) both.0).0 in cc);
      }
        where
          stands : (list_all (condition_stands d) query.conditions ≡ true) × ((list_all (item_is_grouped keys) items && list_all (λ k. order_stands d query items k.what) query.order) ≡ true)
          stands = and_parts (list_all (condition_stands d) query.conditions) (list_all (item_is_grouped keys) items && list_all (λ k. order_stands d query items k.what) query.order) both.1

      by_keys : (items : List Item) → all_there (map (λ i. composed_item d i.what) query.items) ≡ Some items
          → (keys : List ColRef) × ((all_there (map (grouped_column d) query.groups) ≡ Some keys) × (where_true (may_be_nested query d && parts_stand query d items keys) (composed_query query d items keys) ≡ Some q)) → StarFine defs q
      by_keys items e g =
          let found : ((may_be_nested query d && parts_stand query d items g.0) ≡ true) × (composed_query query d items g.0 ≡ q)
          = where_is (may_be_nested query d && parts_stand query d items g.0) (composed_query query d items g.0) q g.1.1 in
          subst (StarFine defs) found.1 (fine_of items g.0 e g.1.0 (and_parts (may_be_nested query d) (parts_stand query d items g.0) found.0))

      by_items : (items : List Item) × ((all_there (map (λ i. composed_item d i.what) query.items) ≡ Some items) × (with_items items ≡ Some q)) → StarFine defs q
      by_items g =
          by_keys g.0 g.1.0
          (then_gives (all_there (map (grouped_column d) query.groups)) (λ keys. where_true (may_be_nested query d && parts_stand query d g.0 keys) (composed_query query d g.0 keys)) q g.1.1)
