-- The items of the view beneath at their places in the rows of its groups.
use Rattle.std.proofs.Common.{◌≡◌, ◌∙◌, sym, ap, refl, true, List, [], ◌∷◌}
use Rattle.std.specs.Prelude.{◌||◌}
use Rattle.std.specs.List.{list_all, list_any}
use Rattle.std.proofs.Math.Bool.{or-true}
use Rattle.wh_base.specs.Columns.{same_item}
use Rattle.wh_base.specs.declared.columns.Agg.{Agg}
use Rattle.wh_base.specs.declared.columns.ColRef.{ColRef}
use Rattle.wh_base.specs.declared.queries.Item.{Item}
use Rattle.wh_base.specs.declared.queries.Item.TheVariants as item
use Rattle.wh_base.specs.declared.queries.StarQuery.{StarQuery}
use Rattle.wh_base.specs.declared.values.Value.{Value}
use Rattle.wh_base.specs.declared.views.ViewDef.{ViewDef}
use Rattle.def_meaning.specs.Meaning.{Grouped, agg_value, group_item, key_of, key_value}
use Rattle.def_resolve.specs.Resolve.{item_is_grouped}
use Rattle.law_lists.proofs.Columns.{first_value, key_value_is}
use Rattle.wh_base.proofs.SameItems.{same_agg-Decides, same_column-Decides, same_column_is}
use Rattle.law_lists.proofs.Each.{Each-from_all}
use Rattle.law_nest.specs.Each.{Each}
use Rattle.law_nest.specs.Placed.{item_value, placed_column}
use Rattle.law_nest.proofs.Summing.{beneath_row}

-- ---- the same item is one item

item_itself : (i : Item) → same_item i i ≡ true
item_itself (item.Col c) = (same_column-Decides c c).1 refl
item_itself (item.Agg a) = (same_agg-Decides a a).1 refl

-- the item is selected
abbrev pub IsSelected : StarQuery → Item → Type 0
IsSelected v i = list_any (same_item i) v.items ≡ true

-- each item is selected
pub each_selected : (items : List Item) → Each (λ i. list_any (same_item i) items ≡ true) items
each_selected [] = tt
each_selected (i ∷ items) = (ap (λ b. b || list_any (same_item i) items) (item_itself i), later items (each_selected items))
  where
    later : (js : List Item) → Each (λ j. list_any (same_item j) items ≡ true) js → Each (λ j. list_any (same_item j) (i ∷ items) ≡ true) js
    later [] h = tt
    later (j ∷ js) h = (ap (λ b. same_item j i || b) h.0 ∙ or-true (same_item j i), later js h.1)

-- ---- in the row of a group

module _ {T : Type 0} (value : T → ColRef → Value) (d : ViewDef) (g : Grouped T) where
  pub agg_placed : (a : Agg) → IsSelected d.query (item.Agg a) → item_value d.query (beneath_row value d g) (item.Agg a) ≡ agg_value value g.1 a
  agg_placed a there = first_value (same_item (item.Agg a)) (group_item value d.query.keys g) (agg_value value g.1 a) d.query.items there (each_is d.query.items)
    where
      one : (i : Item) → same_item (item.Agg a) i ≡ true → group_item value d.query.keys g i ≡ agg_value value g.1 a
      one (item.Col c) h = cc
      one (item.Agg b) h = ap (agg_value value g.1) (sym ((same_agg-Decides a b).0 h))

      each_is : (xs : List Item) → Each (λ i. same_item (item.Agg a) i ≡ true → group_item value d.query.keys g i ≡ agg_value value g.1 a) xs
      each_is [] = tt
      each_is (i ∷ xs) = (one i, each_is xs)

  pub column_placed : list_all (item_is_grouped d.query.keys) d.query.items ≡ true → (t : T) → key_of value d.query.keys t ≡ g.0 → (c : ColRef) → IsSelected d.query (item.Col c)
      → placed_column d.query (beneath_row value d g) c ≡ value t c
  column_placed grouped t own c there =
      first_value (same_item (item.Col c)) (group_item value d.query.keys g) (value t c) d.query.items there (each_is d.query.items (Each-from_all (item_is_grouped d.query.keys) d.query.items grouped))
    where
      one : (i : Item) → item_is_grouped d.query.keys i ≡ true → same_item (item.Col c) i ≡ true → group_item value d.query.keys g i ≡ value t c
      one (item.Col b) k h = ap (λ key. key_value d.query.keys key b) (sym own) ∙ key_value_is (value t) d.query.keys b k ∙ ap (value t) (sym (same_column_is c b h))
      one (item.Agg b) k h = cc

      each_is : (xs : List Item) → Each (λ i. item_is_grouped d.query.keys i ≡ true) xs → Each (λ i. same_item (item.Col c) i ≡ true → group_item value d.query.keys g i ≡ value t c) xs
      each_is [] h = tt
      each_is (i ∷ xs) h = (one i h.0, each_is xs h.1)
