-- Rows and the places of their values: a row that has the values of certain columns is read by its places.
use Rattle.std.proofs.Common.{◌≡◌, ◌∙◌, sym, ap, subst, refl, ℕ, Bool, true, false, cond, List, [], ◌∷◌, ◌++◌, map, Option, Some, None, ◌⊎◌, inl, inr}
use Rattle.std.specs.Prelude.{◌||◌, find, option_and_then, position}
use Rattle.std.specs.List.{list_any}
use Rattle.std.proofs.lemmas.List.{map-append}
use Rattle.std.proofs.lemmas.Simd.{map-map}
use Rattle.std.proofs.Math.Bool.{or-true}
use Rattle.wh_base.specs.Columns.{has_column, same_column}
use Rattle.wh_base.specs.Lists.{option_case}
use Rattle.wh_base.specs.Tables.{value_at}
use Rattle.wh_base.specs.declared.columns.ColRef.{ColRef}
use Rattle.wh_base.specs.declared.queries.Item.{Item}
use Rattle.wh_base.specs.declared.queries.Item.TheVariants as item
use Rattle.wh_base.specs.declared.queries.StarQuery.{StarQuery}
use Rattle.wh_base.specs.declared.tables.RowAt.{RowAt}
use Rattle.wh_base.specs.declared.values.Value.{Value}
use Rattle.wh_base.specs.declared.values.Value.TheVariants.{Null}
use Rattle.wh_base.specs.declared.views.Back.{Back}
use Rattle.def_meaning.specs.Ranges.{equal_columns}
use Rattle.def_rewriting.specs.PlanRows.{exact_value, gained, gained_columns, placed, selected_column}
use Rattle.def_rewriting.specs.Reaching.{Place, back_column, back_layout, item_place, stands_at, view_layout}
use Rattle.law_lists.proofs.Each.{Each-append, Each-of_mapped}
use Rattle.law_lists.proofs.Lists.{list_any-map}
use Rattle.law_lists.proofs.Columns.{first_value}
use Rattle.wh_base.proofs.SameItems.{same_column_is}
use Rattle.law_rewrite.specs.Words.{Each}
use Rattle.law_rewrite.proofs.Placing.{position-map}

-- the value is that of the column, where there is one
abbrev pub RightFor : (ColRef → Value) → Option ColRef → Value → Type 0
RightFor f None w = Unit {0}
RightFor f (Some d) w = w ≡ f d

pub record Cells (places : List Place) (row : List Value) (f : ColRef → Value) : Type 0 where
  pub cells : List (Place × Value)
  pub places_are : map (λ p. p.0) cells ≡ places
  pub row_is : map (λ p. p.1) cells ≡ row
  pub right : Each (λ p. RightFor f p.0.column p.1) cells

pub cells_append : (places more : List Place) (row further : List Value) (f : ColRef → Value) → Cells places row f → Cells more further f → Cells (places ++ more) (row ++ further) f
cells_append places more row further f h k = record {
  cells = h.cells ++ k.cells;
  places_are = map-append (λ p. p.0) h.cells k.cells ∙ (λ i. h.places_are i ++ k.places_are i);
  row_is = map-append (λ p. p.1) h.cells k.cells ∙ (λ i. h.row_is i ++ k.row_is i);
  right = Each-append (λ p. RightFor f p.0.column p.1) h.cells k.cells h.right k.right;
}

-- the column is of these tables, where there is one
abbrev pub ColumnIn : (ℕ → Bool) → Option ColRef → Type 0
ColumnIn within None = Unit {0}
ColumnIn within (Some d) = within d.table ≡ true

pub cells_move : (within : ℕ → Bool) (places : List Place) (row : List Value) (f g : ColRef → Value) → ((c : ColRef) → within c.table ≡ true → f c ≡ g c)
    → Each (λ p. ColumnIn within p.column) places → Cells places row f → Cells places row g
cells_move within places row f g same here h = record {
  cells = h.cells;
  places_are = h.places_are;
  row_is = h.row_is;
  right = each h.cells (Each-of_mapped (λ p. ColumnIn within p.column) (λ p. p.0) h.cells (subst (Each (λ p. ColumnIn within p.column)) (sym h.places_are) here)) h.right;
}
  where
    one : (o : Option ColRef) (w : Value) → ColumnIn within o → RightFor f o w → RightFor g o w
    one None w k l = tt
    one (Some d) w k l = l ∙ same d k

    each : (cs : List (Place × Value)) → Each (λ p. ColumnIn within p.0.column) cs → Each (λ p. RightFor f p.0.column p.1) cs → Each (λ p. RightFor g p.0.column p.1) cs
    each [] k l = tt
    each (p ∷ cs) k l = (one p.0.column p.1 k.0 l.0, each cs k.1 l.1)

-- ---- reading by places

-- what stands at a place has the value of its column
abbrev pub LinksFor : (ColRef → Value) → (ℕ → Bool) → Option ColRef → List ColRef → Type 0
LinksFor f within None equals = (c : ColRef) → has_column equals c ≡ true → ⊥
LinksFor f within (Some d) equals = (c : ColRef) → within c.table ≡ true → has_column equals c ≡ true → f c ≡ f d

pub placed_right : (within : ℕ → Bool) (places : List Place) (row : List Value) (f : ColRef → Value) → Cells places row f → Each (λ p. LinksFor f within p.column p.equals) places
    → (c : ColRef) → within c.table ≡ true → list_any (stands_at c) places ≡ true → placed places row c ≡ f c
placed_right within places row f h links c own there =
    (λ i. option_case (position (stands_at c) (sym h.places_are i)) Null (value_at (sym h.row_is i)))
    ∙ ap (λ o. option_case o Null (value_at (map (λ p. p.1) h.cells))) (position-map (stands_at c) (λ p. p.0) h.cells)
    ∙ first_value (λ p. stands_at c p.0) (λ p. p.1) (f c) h.cells
    (sym (list_any-map (stands_at c) (λ p. p.0) h.cells) ∙ ap (list_any (stands_at c)) h.places_are ∙ there)
    (each h.cells (Each-of_mapped (λ p. LinksFor f within p.column p.equals) (λ p. p.0) h.cells (subst (Each (λ p. LinksFor f within p.column p.equals)) (sym h.places_are) links)) h.right)
  where
    one : (o : Option ColRef) (equals : List ColRef) (w : Value) → LinksFor f within o equals → RightFor f o w → has_column equals c ≡ true → w ≡ f c
    one None equals w k l m = absurd (k c m)
    one (Some d) equals w k l m = l ∙ sym (k c own m)

    each : (cs : List (Place × Value)) → Each (λ p. LinksFor f within p.0.column p.0.equals) cs → Each (λ p. RightFor f p.0.column p.1) cs → Each (λ p. stands_at c p.0 ≡ true → p.1 ≡ f c) cs
    each [] k l = tt
    each (p ∷ cs) k l = (one p.0.column p.0.equals p.1 k.0 l.0, each cs k.1 l.1)

-- the column was itself selected or gained
abbrev pub is_exactly : ColRef → Option ColRef → Bool
is_exactly c d = option_case d false (same_column c)

pub exact_right : (places : List Place) (row : List Value) (f : ColRef → Value) → Cells places row f → (c : ColRef) → list_any (λ p. is_exactly c p.column) places ≡ true
    → exact_value (map (λ p. p.column) places) row c ≡ f c
exact_right places row f h c there =
    (λ i. option_case (position (is_exactly c) (map (λ p. p.column) (sym h.places_are i))) Null (value_at (sym h.row_is i)))
    ∙ ap (λ o. option_case o Null (value_at (map (λ p. p.1) h.cells)))
    (position-map (is_exactly c) (λ (p : Place). p.column) (map (λ p. p.0) h.cells) ∙ position-map (λ (p : Place). is_exactly c p.column) (λ p. p.0) h.cells)
    ∙ first_value (λ p. is_exactly c p.0.column) (λ p. p.1) (f c) h.cells
    (sym (list_any-map (λ (p : Place). is_exactly c p.column) (λ p. p.0) h.cells) ∙ ap (list_any (λ p. is_exactly c p.column)) h.places_are ∙ there)
    (each h.cells h.right)
  where
    one : (o : Option ColRef) (w : Value) → RightFor f o w → is_exactly c o ≡ true → w ≡ f c
    one None w l m = cc
    one (Some d) w l m = l ∙ sym (ap f (same_column_is c d m))

    each : (cs : List (Place × Value)) → Each (λ p. RightFor f p.0.column p.1) cs → Each (λ p. is_exactly c p.0.column ≡ true → p.1 ≡ f c) cs
    each [] l = tt
    each (p ∷ cs) l = (one p.0.column p.1 l.0, each cs l.1)

-- ---- the places of a view and of a table joined back

-- a place lists what is linked to its column by the joins of one of the two
abbrev pub PlaceFor : StarQuery → StarQuery → Option ColRef → List ColRef → Type 0
PlaceFor q v None equals = equals ≡ []
PlaceFor q v (Some d) equals = (equals ≡ equal_columns v.edges d) ⊎ (equals ≡ equal_columns q.edges d)

pub view_places : (q v : StarQuery) → Each (λ p. PlaceFor q v p.column p.equals) (view_layout v)
view_places q v = each v.items
  where
    each : (is : List Item) → Each (λ p. PlaceFor q v p.column p.equals) (map (item_place v) is)
    each [] = tt
    each (item.Col c ∷ is) = (inl refl, each is)
    each (item.Agg a ∷ is) = (refl, each is)

pub back_places : (q v : StarQuery) (b : Back) → Each (λ p. PlaceFor q v p.column p.equals) (back_layout q b)
back_places q v b = each b.columns
  where
    each : (ns : List ℕ) → Each (λ (p : Place). PlaceFor q v p.column p.equals) (map (λ n. record { column = Some (back_column b n); equals = equal_columns q.edges (back_column b n) }) ns)
    each [] = tt
    each (n ∷ ns) = (inr refl, each ns)

pub back_within : (q : StarQuery) (b : Back) (within : ℕ → Bool) → within b.table ≡ true → Each (λ p. ColumnIn within p.column) (back_layout q b)
back_within q b within h = each b.columns
  where
    each : (ns : List ℕ) → Each (λ (p : Place). ColumnIn within p.column) (map (λ n. record { column = Some (back_column b n); equals = equal_columns q.edges (back_column b n) }) ns)
    each [] = tt
    each (n ∷ ns) = (h, each ns)

pub view_columns : (v : StarQuery) → map selected_column v.items ≡ map (λ p. p.column) (view_layout v)
view_columns v = each v.items
  where
    each : (is : List Item) → map selected_column is ≡ map (λ p. p.column) (map (item_place v) is)
    each [] = refl
    each (item.Col c ∷ is) = ap (λ xs. Some c ∷ xs) (each is)
    each (item.Agg a ∷ is) = ap (λ xs. None ∷ xs) (each is)

pub back_columns : (q : StarQuery) (b : Back) → gained_columns b ≡ map (λ p. p.column) (back_layout q b)
back_columns q b = sym (map-map (λ (p : Place). p.column) (λ n. record { column = Some (back_column b n); equals = equal_columns q.edges (back_column b n) }) b.columns)

-- a row that is joined back has the values of its columns
pub back_cells : (q : StarQuery) (b : Back) (x : RowAt) (f : ColRef → Value) → Each (λ n. value_at x.values n ≡ f (back_column b n)) b.columns → Cells (back_layout q b) (gained b x) f
back_cells q b x f h = record { cells = map cell b.columns; places_are = map-map (λ p. p.0) cell b.columns; row_is = map-map (λ p. p.1) cell b.columns; right = each b.columns h }
  where
    cell : ℕ → Place × Value
    cell n = (record { column = Some (back_column b n); equals = equal_columns q.edges (back_column b n) }, value_at x.values n)

    each : (ns : List ℕ) → Each (λ n. value_at x.values n ≡ f (back_column b n)) ns → Each (λ p. RightFor f p.0.column p.1) (map cell ns)
    each [] k = tt
    each (n ∷ ns) k = (k.0, each ns k.1)

-- ---- sources

pub find_gives : {A : Type 0} (p : A → Bool) (P : A → Type 0) (xs : List A) (x : A) → Each P xs → find p xs ≡ Some x → P x × (p x ≡ true)
find_gives p P [] x h e = cc
find_gives p P (y ∷ xs) x h e = by (p y) refl e (find_gives p P xs x h.1)
  where
    some_is : Some y ≡ Some x → y ≡ x
    some_is f = cc

    by : (b : Bool) → p y ≡ b → cond b (Some y) (find p xs) ≡ Some x → (find p xs ≡ Some x → P x × (p x ≡ true)) → P x × (p x ≡ true)
    by true f g k = subst (λ z. P z × (p z ≡ true)) (some_is g) (h.0, f)
    by false f g k = k g

-- a source: the first place where the column stands has it
abbrev pub found_column : (Place → Bool) → List Place → Option ColRef
found_column p places = option_and_then (λ x. x.column) (find p places)

pub source_gives : (p : Place → Bool) (P : Place → Type 0) (places : List Place) (s : ColRef) → Each P places → found_column p places ≡ Some s
    → (x : Place) × (P x × (p x ≡ true) × (x.column ≡ Some s))
source_gives p P places s h e = by (find p places) refl e
  where
    by : (o : Option Place) → find p places ≡ o → option_and_then (λ x. x.column) o ≡ Some s → (x : Place) × (P x × (p x ≡ true) × (x.column ≡ Some s))
    by None f g = cc
    by (Some x) f g = let both : P x × (p x ≡ true) = find_gives p P places x h f in (x, (both.0, both.1, g))

pub found_exactly : (p : Place → Bool) (places : List Place) (s : ColRef) → (same_column s s ≡ true) → found_column p places ≡ Some s → list_any (λ x. is_exactly s x.column) places ≡ true
found_exactly p [] s i e = cc
found_exactly p (y ∷ places) s i e = by (p y) e (found_exactly p places s i)
  where
    by : (b : Bool) → option_and_then (λ x. x.column) (cond b (Some y) (find p places)) ≡ Some s → (found_column p places ≡ Some s → list_any (λ x. is_exactly s x.column) places ≡ true)
        → (is_exactly s y.column || list_any (λ x. is_exactly s x.column) places) ≡ true
    by true g k = ap (λ b. b || list_any (λ x. is_exactly s x.column) places) (ap (is_exactly s) g ∙ i)
    by false g k = ap (λ b. is_exactly s y.column || b) (k g) ∙ or-true (is_exactly s y.column)
