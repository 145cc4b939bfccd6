-- Which views may answer a query, by what an image stores.
use Rattle.std.specs.List.{list_all}
use Rattle.std.specs.Prelude.{◌≡◌, Bool, List, None, Option, Some, [], cond, false, is_none, length, nat_le, nat_lt, not, true, ℕ, ◌&&◌, ◌||◌, ◌∷◌}
use Rattle.wh_base.specs.Lists.{option_case}
use Rattle.wh_base.specs.declared.queries.StarQuery.{StarQuery}
use Rattle.wh_base.specs.declared.statements.Level.{Level}
use Rattle.wh_base.specs.declared.tables.TableDef.{TableDef}
use Rattle.wh_base.specs.declared.views.Class.TheVariants.{Full}
use Rattle.wh_base.specs.declared.views.Plan.{Plan}
use Rattle.wh_base.specs.declared.views.ViewState.{ViewState}
use Rattle.wh_base.specs.declared.views.ViewState.TheVariants.{Fresh, Partly, Stale, Unbuilt}
use Rattle.def_choice.specs.Eligible.{asks_freshness, holds_e9}
use Rattle.def_history.specs.Catalog.{View}
use Rattle.def_history.specs.Staleness.{point_of}
use Rattle.def_restrictions.specs.Definition.{table_defs}
use Rattle.def_rewriting.specs.Matching.{FullText, NoText, PartialText, TextMatch, match_text}
use Rattle.wh_image.specs.Standing.{changed_at}
use Rattle.wh_base.specs.declared.tokens.Token.{Token}
use Rattle.wh_table.specs.Stored.{Stored}
use Rattle.wh_view.specs.Kept.{Kept}
use Rattle.wh_base.specs.declared.views.Plan.TheVariants as plan

-- ---- how fresh a view is

-- the table hasn't changed after this SCN
abbrev pub is_still : List Stored → ℕ → ℕ × TableDef → Bool
is_still tables point t = nat_le (changed_at tables t.0) point

-- the state of a view that is built, by whether all of its tables are still
abbrev pub state_since : Bool → ViewState
state_since true = Fresh
state_since false = Stale

-- the state of a view, where no table is partitioned
abbrev pub seen_state : List Stored → View → ViewState
seen_state tables v = cond (is_none v.point) Unbuilt (state_since (list_all (is_still tables (point_of v)) (table_defs v.def)))

abbrev pub is_fresh : ViewState → Bool
is_fresh Unbuilt = false
is_fresh Fresh = true
is_fresh Partly = false
is_fresh Stale = false

-- ---- text

abbrev pub is_full_match : TextMatch → Bool
is_full_match FullText = true
is_full_match PartialText = false
is_full_match NoText = false

-- the query's tokens are those of a view's query up to ORDER BY
abbrev pub is_full_text : List Token → List Token → Bool
is_full_text query view = is_full_match (match_text query view)

-- ---- the best view

-- the view is enabled, fresh where that is asked, and its text is the query's
abbrev pub serves : List Stored → StarQuery → List Token → Level → Bool → Kept → Bool
serves tables q text level enabled k =
    holds_e9 q enabled k.view
    && ((not (asks_freshness level) || is_fresh (seen_state tables k.view))
    && is_full_text text k.view.def.tokens)

-- the view with fewer entries, of equals the one that was there
abbrev pub lesser : Option Kept → Kept → Option Kept
lesser None k = Some k
lesser (Some best) k = cond (nat_lt (length k.entries) (length best.entries)) (Some k) (Some best)

-- the first with the fewest entries among this one and those of a list that pass the test
abbrev pub best_from : (Kept → Bool) → Option Kept → List Kept → Option Kept
best_from test best [] = best
best_from test best (k ∷ ks) = best_from test (cond (test k) (lesser best k) best) ks

abbrev pub plan_over : Kept → Plan
plan_over k = plan.View (record { class = Full; view = k.view.def.view; name = k.view.def.name; point = point_of k.view; back = [] })

-- a view that the plan has answers by its full text, and no table is joined back
abbrev pub IsFullPlan : Plan → Type 0
IsFullPlan plan.Base = Unit {0}
IsFullPlan (plan.View p) = (p.class ≡ Full) × (p.back ≡ [])

-- the plan over a view, or BASE
abbrev pub plan_by : Option Kept → Plan
plan_by best = option_case best plan.Base plan_over
