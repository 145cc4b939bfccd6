-- A name stands for the same item in a row of the view as in its definition.
use Rattle.std.proofs.Common.{◌≡◌, ◌∙◌, ap, subst, refl, ℕ, Bool, true, false, cond, List, [], ◌∷◌, map, Option, Some, None}
use Rattle.std.specs.Prelude.{option_and_then, option_map, zip}
use Rattle.std.specs.List.{filter, list_all}
use Rattle.wh_base.specs.Columns.{has_column}
use Rattle.wh_base.specs.Lists.{option_case, same_text}
use Rattle.wh_base.specs.declared.values.Value.{Value}
use Rattle.wh_base.specs.declared.values.Value.TheVariants.{Null}
use Rattle.wh_base.specs.declared.columns.Agg.{Agg}
use Rattle.wh_base.specs.declared.columns.ColRef.{ColRef}
use Rattle.wh_base.specs.declared.queries.ColName.{ColName}
use Rattle.wh_base.specs.declared.queries.Item.{Item}
use Rattle.wh_base.specs.declared.queries.Item.TheVariants as item
use Rattle.wh_base.specs.declared.views.ViewDef.{ViewDef}
use Rattle.def_nest.specs.Names.{agg_in_item, agg_named, bears, column_in_item, grouped_column, item_named, item_names, item_of, plain_name}
use Rattle.def_resolve.specs.Names.{the_only}
use Rattle.def_resolve.specs.Resolve.{item_is_grouped}
use Rattle.law_lists.proofs.Each.{Each-filter, Each-from_all}
use Rattle.law_nest.specs.Each.{Each}
use Rattle.law_nest.specs.Rolled.{cell, cell_named, is_called}

-- ---- what a name stands for

only_map : {A B : Type 0} (f : A → B) (xs : List A) → the_only (map f xs) ≡ option_map f (the_only xs)
only_map f [] = refl
only_map f (x ∷ []) = refl
only_map f (x ∷ y ∷ ys) = refl

-- an item beside its value
abbrev pub valued : (Item → Value) → Option (List ℕ) × Item → Option (List ℕ) × Value
valued f p = (p.0, f p.1)

called_map : (name : List ℕ) (f : Item → Value) (names : List (Option (List ℕ))) (items : List Item)
    → filter (is_called name) (zip names (map f items)) ≡ map (valued f) (filter (bears name) (zip names items))
called_map name f [] items = refl
called_map name f (n ∷ ns) [] = refl
called_map name f (n ∷ ns) (i ∷ is) = by (option_case n false (same_text name)) (called_map name f ns is)
  where
    by : (b : Bool) → filter (is_called name) (zip ns (map f is)) ≡ map (valued f) (filter (bears name) (zip ns is))
        → cond b ((n, f i) ∷ filter (is_called name) (zip ns (map f is))) (filter (is_called name) (zip ns (map f is)))
        ≡ map (valued f) (cond b ((n, i) ∷ filter (bears name) (zip ns is)) (filter (bears name) (zip ns is)))
    by true h = ap (λ xs. (n, f i) ∷ xs) h
    by false h = h

named_is : (d : ViewDef) (f : Item → Value) (name : List ℕ) → cell_named d (map f d.query.items) name ≡ option_case (item_named d name) Null f
named_is d f name =
    ap (λ xs. option_case (the_only xs) Null (λ p. p.1)) (called_map name f (item_names d) d.query.items)
    ∙ ap (λ o. option_case o Null (λ p. p.1)) (only_map (valued f) (filter (bears name) (zip (item_names d) d.query.items)))
    ∙ by (the_only (filter (bears name) (zip (item_names d) d.query.items)))
  where
    by : (o : Option (Option (List ℕ) × Item)) → option_case (option_map (valued f) o) Null (λ p. p.1) ≡ option_case (option_map (λ p. p.1) o) Null f
    by None = refl
    by (Some p) = refl

-- the value of a column in a row of items is that of the item that the column stands for
pub cell_is : (d : ViewDef) (f : Item → Value) (c : ColName) → cell d (map f d.query.items) c ≡ option_case (item_of d c) Null f
cell_is d f c = by (option_case c.qualifier true (same_text d.name)) (plain_name c.part)
  where
    by : (b : Bool) (o : Option (List ℕ))
        → cond b (option_case o Null (cell_named d (map f d.query.items))) Null ≡ option_case (cond b (option_and_then (item_named d) o) None) Null f
    by true None = refl
    by true (Some name) = named_is d f name
    by false o = refl

-- ---- columns and aggregates

pub column_is : (o : Option Item) (k : ColRef) → option_and_then column_in_item o ≡ Some k → o ≡ Some (item.Col k)
column_is None k h = cc
column_is (Some (item.Col c)) k h = ap (λ x. option_map item.Col x) h
column_is (Some (item.Agg a)) k h = cc

pub agg_is : (o : Option Item) (a : Agg) → option_and_then agg_in_item o ≡ Some a → o ≡ Some (item.Agg a)
agg_is None a h = cc
agg_is (Some (item.Col c)) a h = cc
agg_is (Some (item.Agg b)) a h = ap (λ x. option_map item.Agg x) h

pub column_cell : (d : ViewDef) (f : Item → Value) (c : ColName) (k : ColRef) → grouped_column d c ≡ Some k → cell d (map f d.query.items) c ≡ f (item.Col k)
column_cell d f c k h = cell_is d f c ∙ ap (λ o. option_case o Null f) (column_is (item_of d c) k h)

pub agg_cell : (d : ViewDef) (f : Item → Value) (c : ColName) (a : Agg) → agg_named d c ≡ Some a → cell d (map f d.query.items) c ≡ f (item.Agg a)
agg_cell d f c a h = cell_is d f c ∙ ap (λ o. option_case o Null f) (agg_is (item_of d c) a h)

-- ---- a column that is named is a group column

zip_each : {A B : Type 0} (P : B → Type 0) (us : List A) (vs : List B) → Each P vs → Each (λ p. P p.1) (zip us vs)
zip_each P [] vs h = tt
zip_each P (u ∷ us) [] h = tt
zip_each P (u ∷ us) (v ∷ vs) h = (h.0, zip_each P us vs h.1)

only_each : {A : Type 0} (P : A → Type 0) (xs : List A) (x : A) → Each P xs → the_only xs ≡ Some x → P x
only_each P [] x h e = cc
only_each {A} P (y ∷ []) x h e = subst P (ap (λ o. option_case o y (λ z. z)) e) h.0
only_each P (y ∷ z ∷ zs) x h e = cc

pub item_among : (d : ViewDef) (P : Item → Type 0) → Each P d.query.items → (c : ColName) (i : Item) → item_of d c ≡ Some i → P i
item_among d P h c i e = by (option_case c.qualifier true (same_text d.name)) (plain_name c.part) e
  where
    at : (o : Option (Option (List ℕ) × Item)) → ((p : Option (List ℕ) × Item) → o ≡ Some p → P p.1) → option_map (λ p. p.1) o ≡ Some i → P i
    at None f e = cc
    at (Some p) f e = subst P (ap (λ o. option_case o p.1 (λ z. z)) e) (f p refl)

    by : (b : Bool) (o : Option (List ℕ)) → cond b (option_and_then (item_named d) o) None ≡ Some i → P i
    by true None e = cc
    by true (Some name) e =
        at (the_only (filter (bears name) (zip (item_names d) d.query.items)))
        (λ p k. only_each (λ p. P p.1) (filter (bears name) (zip (item_names d) d.query.items)) p
        (Each-filter (λ p. P p.1) (bears name) (zip (item_names d) d.query.items) (zip_each P (item_names d) d.query.items h)) k) e
    by false o e = cc

pub named_column : (d : ViewDef) → list_all (item_is_grouped d.query.keys) d.query.items ≡ true → (c : ColName) (k : ColRef) → grouped_column d c ≡ Some k → has_column d.query.keys k ≡ true
named_column d h c k e = item_among d (λ i. item_is_grouped d.query.keys i ≡ true) (Each-from_all (item_is_grouped d.query.keys) d.query.items h) c (item.Col k) (column_is (item_of d c) k e)
