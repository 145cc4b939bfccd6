-- The one list of a concatenated plan, the view's rows and then the tuples, taken apart: each group has its rows and its tuples.
use Rattle.std.proofs.Common.{◌≡◌, ◌∙◌, sym, ap, refl, Bool, true, false, cond, not, List, [], ◌∷◌, ◌++◌, map}
use Rattle.std.specs.List.{filter, flat_map, list_all, list_any}
use Rattle.std.proofs.lemmas.List.{map-append}
use Rattle.std.proofs.lemmas.List.Elements.{filter-append}
use Rattle.std.proofs.lemmas.Simd.{map-map}
use Rattle.wh_base.specs.Lists.{distinct, option_case}
use Rattle.wh_base.specs.Tables.{Base}
use Rattle.wh_base.specs.Values.{interval_has, is_true_that, same_values}
use Rattle.wh_base.specs.declared.columns.Agg.{Agg}
use Rattle.wh_base.specs.declared.columns.ColRef.{ColRef}
use Rattle.wh_base.specs.declared.queries.Item.{Item}
use Rattle.wh_base.specs.declared.queries.Item.TheVariants as item
use Rattle.wh_base.specs.declared.queries.StarQuery.{StarQuery}
use Rattle.wh_base.specs.declared.tables.RowAt.{RowAt}
use Rattle.wh_base.specs.declared.tables.TableDef.{TableDef}
use Rattle.wh_base.specs.declared.values.Interval.{Interval}
use Rattle.wh_base.specs.declared.values.Value.{Value}
use Rattle.wh_base.specs.declared.values.Value.TheVariants.{Null}
use Rattle.wh_base.specs.declared.views.ViewEntry.{ViewEntry}
use Rattle.def_meaning.specs.Joined.{column_value, conditions_true, joined}
use Rattle.def_meaning.specs.Meaning.{Grouped, agg_value, groups, key_of}
use Rattle.def_rewriting.specs.Compatible.{linked, own_conditions}
use Rattle.def_rewriting.specs.Concat as plan
use Rattle.def_rewriting.specs.Concat.{Fresh, Source, Stale, both_sides, fresh_row, source_value, stale_tuple}
use Rattle.def_rewriting.specs.PlanRows.{placed}
use Rattle.def_rewriting.specs.Reaching.{view_layout}
use Rattle.def_rewriting.specs.Rollup.{origin, rolled}
use Rattle.law_lists.proofs.Each.{map_alike, Each-of}
use Rattle.law_lists.proofs.Lists.{filter-filter, filter-map}
use Rattle.law_rewrite.proofs.Answering.{all_alike}
use Rattle.law_rewrite.proofs.Pieces.{Pieces, concat_agg, concat_groups, concat_item, concat_rows, concat_test, pieces_of}

-- the view's rows with a fresh key that meet the query's own conditions, and the tuples with a stale one
abbrev pub rows_outside : StarQuery → StarQuery → ColRef → List Interval → List ViewEntry → List (List Value)
rows_outside q v key is entries =
    filter (λ r. conditions_true (placed (view_layout v) r) (own_conditions q v)) (filter (λ r. not (list_any (λ i. interval_has i (placed (view_layout v) r key)) is)) (map (λ e. e.row) entries))

abbrev pub tuples_within : StarQuery → ColRef → List Interval → Base → List (List RowAt)
tuples_within q key is base = filter (λ t. list_any (λ i. interval_has i (column_value q.tables t key)) is) (joined q base)

-- what is made of a list in two ways
made_alike : {A B C R : Type 0} (g : C → A) (g' : C → B) (p : A → Bool) (p' : B → Bool) (f : A → R) (f' : B → R) → ((k : C) → p (g k) ≡ p' (g' k)) → ((k : C) → f (g k) ≡ f' (g' k)) → (ks : List C)
    → map f (filter p (map g ks)) ≡ map f' (filter p' (map g' ks))
made_alike g g' p p' f f' same_p same_f [] = refl
made_alike g g' p p' f f' same_p same_f (k ∷ ks) = (λ i. map f (cond (same_p k i) (g k ∷ filter p (map g ks)) (filter p (map g ks)))) ∙ by (p' (g' k)) (made_alike g g' p p' f f' same_p same_f ks)
  where
    by : (b : Bool) → map f (filter p (map g ks)) ≡ map f' (filter p' (map g' ks))
        → map f (cond b (g k ∷ filter p (map g ks)) (filter p (map g ks))) ≡ map f' (cond b (g' k ∷ filter p' (map g' ks)) (filter p' (map g' ks)))
    by true later = λ i. same_f k i ∷ later i
    by false later = later

abbrev list_of : List (List Value) → List (List RowAt) → List Source
list_of rs us = map Fresh rs ++ map Stale us

rows_of : (rs : List (List Value)) (us : List (List RowAt)) → flat_map fresh_row (list_of rs us) ≡ rs
rows_of [] [] = refl
rows_of [] (u ∷ us) = rows_of [] us
rows_of (r ∷ rs) us = ap (λ xs. r ∷ xs) (rows_of rs us)

tuples_of : (rs : List (List Value)) (us : List (List RowAt)) → flat_map stale_tuple (list_of rs us) ≡ us
tuples_of [] [] = refl
tuples_of [] (u ∷ us) = ap (λ xs. u ∷ xs) (tuples_of [] us)
tuples_of (r ∷ rs) us = tuples_of rs us

module _ (defs : List TableDef) (q v : StarQuery) (grouped : v.grouped ≡ true) where
  abbrev here : List Value → ColRef → Value
  here = placed (view_layout v)

  abbrev there : List RowAt → ColRef → Value
  there = column_value q.tables

  abbrev of_key : List ColRef → List Value → List (List Value) → List (List Value)
  of_key keys k rs = filter (λ r. same_values (key_of here keys r) k) rs

  abbrev with_key : List ColRef → List Value → List (List RowAt) → List (List RowAt)
  with_key keys k us = filter (λ t. same_values (key_of there keys t) k) us

  -- the sources of a key
  part_is : (keys : List ColRef) (k : List Value) (rs : List (List Value)) (us : List (List RowAt))
      → filter (λ s. same_values (key_of (source_value q v) keys s) k) (list_of rs us) ≡ list_of (of_key keys k rs) (with_key keys k us)
  part_is keys k rs us =
      filter-append (λ s. same_values (key_of (source_value q v) keys s) k) (map Fresh rs) (map Stale us)
      ∙ (λ i. filter-map (λ s. same_values (key_of (source_value q v) keys s) k) Fresh rs i ++ filter-map (λ s. same_values (key_of (source_value q v) keys s) k) Stale us i)

  keys_are : (keys : List ColRef) (rs : List (List Value)) (us : List (List RowAt)) → map (key_of (source_value q v) keys) (list_of rs us) ≡ map (key_of here keys) rs ++ map (key_of there keys) us
  keys_are keys rs us =
      map-append (key_of (source_value q v) keys) (map Fresh rs) (map Stale us)
      ∙ (λ i. map-map (key_of (source_value q v) keys) Fresh rs i ++ map-map (key_of (source_value q v) keys) Stale us i)

  agg_is : (k : List Value) (rs : List (List Value)) (us : List (List RowAt)) (a : Agg) → plan.concat_agg defs q v (list_of rs us) a ≡ concat_agg defs q v here there (k, (rs, us)) a
  agg_is k rs us a =
      (λ i. both_sides a (option_case (origin defs (linked q v) v a) Null (rolled (rows_of rs us i))) (agg_value there (tuples_of rs us i) a))
      ∙ ap (λ b. both_sides a (cond b (option_case (origin defs (linked q v) v a) Null (rolled rs)) (agg_value here rs a)) (agg_value there us a)) (sym grouped)

  tests_are : (k : List Value) (rs : List (List Value)) (us : List (List RowAt)) → list_all (plan.concat_test defs q v (k, list_of rs us)) q.having ≡ list_all (concat_test defs q v here there (k, (rs, us))) q.having
  tests_are k rs us =
      all_alike (plan.concat_test defs q v (k, list_of rs us)) (concat_test defs q v here there (k, (rs, us))) q.having
      (Each-of (λ t. plan.concat_test defs q v (k, list_of rs us) t ≡ concat_test defs q v here there (k, (rs, us)) t) (λ t. ap (λ x. is_true_that x t.op t.value) (agg_is k rs us t.agg)) q.having)

  items_are : (k : List Value) (rs : List (List Value)) (us : List (List RowAt)) → map (plan.concat_item defs q v (k, list_of rs us)) q.items ≡ map (concat_item defs q v here there (k, (rs, us))) q.items
  items_are k rs us =
      map_alike (plan.concat_item defs q v (k, list_of rs us)) (concat_item defs q v here there (k, (rs, us))) q.items
      (Each-of (λ i. plan.concat_item defs q v (k, list_of rs us) i ≡ concat_item defs q v here there (k, (rs, us)) i) one q.items)
    where
      one : (i : Item) → plan.concat_item defs q v (k, list_of rs us) i ≡ concat_item defs q v here there (k, (rs, us)) i
      one (item.Col c) = refl
      one (item.Agg a) = agg_is k rs us a

  abbrev whole_row : Grouped Source → List Value
  whole_row g = map (plan.concat_item defs q v g) q.items

  abbrev piece_row : Pieces (List RowAt) → List Value
  piece_row g = map (concat_item defs q v here there g) q.items

  groups_are : (keys : List ColRef) (rs : List (List Value)) (us : List (List RowAt))
      → map whole_row (filter (λ g. list_all (plan.concat_test defs q v g) q.having) (groups (source_value q v) keys (list_of rs us)))
      ≡ map piece_row (filter (λ g. list_all (concat_test defs q v here there g) q.having) (concat_groups here there keys rs us))
  groups_are [] rs us =
      made_alike (λ k. (k, list_of rs us)) (λ k. (k, (rs, us))) (λ g. list_all (plan.concat_test defs q v g) q.having) (λ g. list_all (concat_test defs q v here there g) q.having) whole_row piece_row
      (λ k. tests_are k rs us) (λ k. items_are k rs us) ([] ∷ [])
  groups_are (c ∷ cs) rs us =
      ap (λ ks. map whole_row (filter (λ g. list_all (plan.concat_test defs q v g) q.having) (map (λ k. (k, filter (λ s. same_values (key_of (source_value q v) (c ∷ cs) s) k) (list_of rs us))) (distinct same_values ks)))) (keys_are (c ∷ cs) rs us)
      ∙ made_alike (λ k. (k, filter (λ s. same_values (key_of (source_value q v) (c ∷ cs) s) k) (list_of rs us))) (pieces_of here there (c ∷ cs) rs us)
      (λ g. list_all (plan.concat_test defs q v g) q.having) (λ g. list_all (concat_test defs q v here there g) q.having) whole_row piece_row
      (λ k. ap (λ ss. list_all (plan.concat_test defs q v (k, ss)) q.having) (part_is (c ∷ cs) k rs us) ∙ tests_are k (of_key (c ∷ cs) k rs) (with_key (c ∷ cs) k us))
      (λ k. ap (λ ss. map (plan.concat_item defs q v (k, ss)) q.items) (part_is (c ∷ cs) k rs us) ∙ items_are k (of_key (c ∷ cs) k rs) (with_key (c ∷ cs) k us))
      (distinct same_values (map (key_of here (c ∷ cs)) rs ++ map (key_of there (c ∷ cs)) us))

  -- **the plan by its rows and its tuples**
  pub sources_are : (base : Base) (key : ColRef) (is : List Interval) (entries : List ViewEntry)
      → plan.concat_rows defs base q v key is entries ≡ concat_rows defs q v here there (rows_outside q v key is entries) (tuples_within q key is base)
  sources_are base key is entries =
      ap (λ rs. plan.concat_groups defs q v (map Fresh rs ++ map Stale (tuples_within q key is base)))
      (sym (filter-filter (λ r. conditions_true (here r) (own_conditions q v)) (λ r. not (list_any (λ i. interval_has i (here r key)) is)) (map (λ e. e.row) entries)))
      ∙ groups_are q.keys (rows_outside q v key is entries) (tuples_within q key is base)
