-- What is so of the views over views of every trace.
use Rattle.std.specs.Prelude.{List, Some, ℕ, ◌<◌, ◌≡◌}
use Rattle.wh_base.specs.declared.statements.Event.{Event}
use Rattle.def_history.specs.Catalog.{Catalog, View, base_at, view_numbered}
use Rattle.def_history.specs.Staleness.{content}
use Rattle.def_journal.specs.Journal.{state_of}
use Rattle.def_meaning.specs.Meaning.{stored}
use Rattle.def_nest.specs.Compose.{IsComposed}
use Rattle.law_nest.specs.Each.{Each}
use Rattle.law_nest.specs.Rolled.{rolled_view}

-- The catalog that a trace leaves.
abbrev pub catalog_of : List Event → Catalog
catalog_of trace = (state_of trace).catalog

-- The view v stands over the view with the number n: that view is there and older, v's definition is composed over its definition by
-- some query, and v holds what this query gives over what the view beneath stores at v's point.
pub record StandsOver (c : Catalog) (v : View) (n : ℕ) : Type 0 where
  pub beneath : View
  pub found : view_numbered c n ≡ Some beneath
  pub older : n < v.def.view
  pub composed : IsComposed v.def beneath.def
  pub at_point : (p : ℕ) → v.point ≡ Some p → content c v ≡ rolled_view composed.asked beneath.def (stored beneath.def.query (base_at c p))
  -- where both have one point: over what the view beneath holds
  pub at_one_point : (p : ℕ) → v.point ≡ Some p → beneath.point ≡ Some p → content c v ≡ rolled_view composed.asked beneath.def (content c beneath)

-- **Each view over a view stands over it, after every trace.**
abbrev pub NestedStand : Type 0
NestedStand = (trace : List Event) → Each (λ v. (n : ℕ) → v.def.beneath ≡ Some n → StandsOver (catalog_of trace) v n) (catalog_of trace).views
