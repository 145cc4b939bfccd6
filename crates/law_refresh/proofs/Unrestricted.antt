-- A view that isn't insert-only has the counts that a delta with removals needs.
use Rattle.std.proofs.Common.{◌≡◌, ◌∙◌, sym, ap, refl, Bool, true, false, not, List, [], ◌∷◌, inl, inr, ◌⊎◌}
use Rattle.std.specs.Prelude.{flat_map, ◌||◌, ◌&&◌}
use Rattle.std.specs.List.{list_all, list_any}
use Rattle.std.proofs.lemmas.Bool.{not-false, or_parts, and_parts}
use Rattle.wh_base.specs.Columns.{expr_columns, same_agg_by, same_expr}
use Rattle.wh_base.specs.Lists.{is_empty}
use Rattle.wh_base.specs.declared.columns.Agg.{Agg}
use Rattle.wh_base.specs.declared.columns.Agg.TheVariants.{Avg, Count, CountAll, Max, Min, Sum}
use Rattle.wh_base.specs.declared.columns.ColRef.{ColRef}
use Rattle.wh_base.specs.declared.columns.Expr.{Expr}
use Rattle.wh_base.specs.declared.queries.Item.{Item}
use Rattle.wh_base.specs.declared.queries.StarQuery.{StarQuery}
use Rattle.wh_base.specs.declared.values.Value.{Value}
use Rattle.wh_base.specs.declared.views.ViewDef.{ViewDef}
use Rattle.def_meaning.specs.Accumulated.{item_aggs, selected_aggs}
use Rattle.def_meaning.specs.Meaning.{agg_value, key_of}
use Rattle.def_restrictions.specs.Definition.{has_average_alone, has_extreme, is_extreme, is_insert_only, selects_agg, sum_alone, view_never_null}
use Rattle.wh_base.specs.declared.queries.Item.TheVariants as item
use Rattle.law_delta.specs.Moved.{Counted, selects, with_key}
use Rattle.wh_base.proofs.SameItems.{same_agg-Decides}

selects_is : (items : List Item) (a : Agg) → selects items a ≡ list_any (same_agg_by same_expr a) (flat_map item_aggs items)
selects_is [] a = refl
selects_is (item.Col c ∷ is) a = selects_is is a
selects_is (item.Agg b ∷ is) a = ap (λ x. same_agg_by same_expr a b || x) (selects_is is a)

-- what holds of no aggregate doesn't hold of one among them
none_such : (P : Agg → Bool) (a : Agg) (xs : List Agg) → list_any P xs ≡ false → list_any (same_agg_by same_expr a) xs ≡ true → P a ≡ false
none_such P a [] h k = cc
none_such P a (b ∷ bs) h k = by (same_agg_by same_expr a b) refl (or_parts (P b) (list_any P bs) h) k (none_such P a bs)
  where
    by : (x : Bool) → same_agg_by same_expr a b ≡ x → (P b ≡ false) × (list_any P bs ≡ false) → (x || list_any (same_agg_by same_expr a) bs) ≡ true → (list_any P bs ≡ false → list_any (same_agg_by same_expr a) bs ≡ true → P a ≡ false) → P a ≡ false
    by true e h k more = ap P ((same_agg-Decides a b).0 e) ∙ h.0
    by false e h k more = more h.1 k

-- the test of `has_average_alone`
abbrev alone : StarQuery → Agg → Bool
alone q (Avg e) = not (selects_agg q (Count e))
alone q a = false

module _ {T : Type 0} (value : T → ColRef → Value) (d : ViewDef) (before : List T)
    (plain : has_extreme d.query ≡ false) (averages : has_average_alone d.query ≡ false) (removals : is_insert_only d ≡ false)
    (full : (e : Expr) → selects_agg d.query (Sum e) ≡ true → list_all (view_never_null d) (expr_columns e) ≡ true → (k : List Value) → agg_value value (with_key (key_of value d.query.keys) k before) (Count e) ≡ agg_value value (with_key (key_of value d.query.keys) k before) CountAll) where
  sums : list_any (sum_alone d) (selected_aggs d.query) ≡ false
  sums = (or_parts (list_any (sum_alone d) (selected_aggs d.query)) (not (selects_agg d.query CountAll)) (or_parts (has_extreme d.query && not (is_empty d.query.conditions)) (list_any (sum_alone d) (selected_aggs d.query) || not (selects_agg d.query CountAll)) removals).1).0

  pub rows_selected : selects d.query.items CountAll ≡ true
  rows_selected = selects_is d.query.items CountAll ∙ not-false (selects_agg d.query CountAll) (or_parts (list_any (sum_alone d) (selected_aggs d.query)) (not (selects_agg d.query CountAll)) (or_parts (has_extreme d.query && not (is_empty d.query.conditions)) (list_any (sum_alone d) (selected_aggs d.query) || not (selects_agg d.query CountAll)) removals).1).1

  pub counted : Counted value d.query before
  counted CountAll h = (tt, inl h)
  counted (Count e) h = (tt, inl h)
  counted (Sum e) h = (tt, by (selects_agg d.query (Count e)) refl (none_such (sum_alone d) (Sum e) (selected_aggs d.query) sums (sym (selects_is d.query.items (Sum e)) ∙ h)))
    where
      by : (b : Bool) → selects_agg d.query (Count e) ≡ b → (not b && not (list_all (view_never_null d) (expr_columns e) && selects_agg d.query CountAll)) ≡ false
          → (selects d.query.items (Count e) ≡ true) ⊎ ((k : List Value) → agg_value value (with_key (key_of value d.query.keys) k before) (Count e) ≡ agg_value value (with_key (key_of value d.query.keys) k before) CountAll)
      by true x y = inl (selects_is d.query.items (Count e) ∙ x)
      by false x y = inr (full e (sym (selects_is d.query.items (Sum e)) ∙ h) (and_parts (list_all (view_never_null d) (expr_columns e)) (selects_agg d.query CountAll) (not-false (list_all (view_never_null d) (expr_columns e) && selects_agg d.query CountAll) y)).0)
  counted (Avg e) h = (tt, inl (selects_is d.query.items (Count e) ∙ not-false (selects_agg d.query (Count e)) (none_such (alone d.query) (Avg e) (selected_aggs d.query) averages (sym (selects_is d.query.items (Avg e)) ∙ h))))
  counted (Min e) h = let f : true ≡ false = none_such is_extreme (Min e) (selected_aggs d.query) plain (sym (selects_is d.query.items (Min e)) ∙ h) in cc
  counted (Max e) h = let f : true ≡ false = none_such is_extreme (Max e) (selected_aggs d.query) plain (sym (selects_is d.query.items (Max e)) ∙ h) in cc
