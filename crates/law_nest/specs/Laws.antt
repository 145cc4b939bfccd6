-- The laws as the contracts name them.
use Rattle.std.specs.Prelude.{List, Some, true, ℕ, ◌≡◌}
use Rattle.std.specs.List.{list_all}
use Rattle.wh_base.specs.Tables.{Base}
use Rattle.wh_base.specs.declared.queries.RawQuery.{RawQuery}
use Rattle.wh_base.specs.declared.queries.StarQuery.{StarQuery}
use Rattle.wh_base.specs.declared.tables.RowAt.{RowAt}
use Rattle.wh_base.specs.declared.views.ViewDef.{ViewDef}
use Rattle.def_meaning.specs.Meaning.{stored, stored_over}
use Rattle.def_nest.specs.Compose.{IsComposed, compose}
use Rattle.def_resolve.specs.Resolve.{item_is_grouped}
use Rattle.law_nest.specs.Placed.{placed_view}
use Rattle.law_nest.specs.Rolled.{rolled_view}

-- the plain items of the view are group columns
abbrev pub ItemsAreGrouped : ViewDef → Type 0
ItemsAreGrouped d = list_all (item_is_grouped d.query.keys) d.query.items ≡ true

-- **What the composed definition stores is what the query above gives over the rows that the view beneath stores**, whatever rows the
-- base tables have.
abbrev pub NestedRolls : Type 0
NestedRolls =
    (asked : RawQuery) (beneath : ViewDef) (composed : StarQuery) (rows : ℕ → List RowAt)
    → ItemsAreGrouped beneath → compose asked beneath ≡ Some composed
    → stored_over composed rows ≡ rolled_view asked beneath (stored_over beneath.query rows)

-- The same of two views and a base state.
abbrev pub NestedMeans : Type 0
NestedMeans =
    (above beneath : ViewDef) (base : Base) (is : IsComposed above beneath)
    → ItemsAreGrouped beneath
    → stored above.query base ≡ rolled_view is.asked beneath (stored beneath.query base)

-- The same by the two definitions alone, with the items of the view beneath at their places: what code has that is given no query.
abbrev pub NestedPlaces : Type 0
NestedPlaces =
    (asked : RawQuery) (beneath : ViewDef) (composed : StarQuery) (rows : ℕ → List RowAt)
    → ItemsAreGrouped beneath → compose asked beneath ≡ Some composed
    → stored_over composed rows ≡ placed_view beneath.query composed (stored_over beneath.query rows)
