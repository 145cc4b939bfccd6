-- What a refresh computes of a view over a view: its query over the new rows of the view beneath.
use Rattle.std.specs.Prelude.{List, None, Ok, Some, [], find, ℕ, ◌==◌, ◌≡◌}
use Rattle.wh_base.specs.declared.statements.Event.{Event}
use Rattle.wh_base.specs.declared.statements.RefreshView.{RefreshView}
use Rattle.wh_base.specs.declared.views.ViewEntry.{ViewEntry}
use Rattle.def_history.specs.Catalog.{Catalog, View, view_numbered}
use Rattle.def_history.specs.Staleness.{content}
use Rattle.def_journal.specs.Journal.{state_of}
use Rattle.def_journal.specs.Listing.{computed_list}
use Rattle.def_journal.specs.Refreshing.{Computed, Listed, begun_view, computed_for}
use Rattle.def_journal.specs.State.{Begun, session_of}
use Rattle.def_nest.specs.Compose.{IsComposed}
use Rattle.law_nest.specs.Each.{Each}
use Rattle.law_nest.specs.Rolled.{rolled_view}

-- These are the rows of the view v over the view with the number n: those of v's query over the rows that are computed of that view,
-- where it is among what was computed, and else over what it holds in the image.
pub record Rolls (image : Catalog) (done : List Listed) (v : View) (n : ℕ) (rows : List ViewEntry) : Type 0 where
  pub beneath : View
  pub found : view_numbered image n ≡ Some beneath
  pub composed : IsComposed v.def beneath.def
  pub listed : (l : Listed) → find (λ m. m.view.def.view == n) done ≡ Some l → rows ≡ rolled_view composed.asked beneath.def l.computed.rows
  pub unlisted : find (λ m. m.view.def.view == n) done ≡ None → rows ≡ rolled_view composed.asked beneath.def (content image beneath)

-- **What a list computes of each view over a view is its query over the new rows beneath where the view beneath is listed too, and else over
-- those that it holds in the image of the begin.**
abbrev pub ListsRoll : Type 0
ListsRoll =
    (trace : List Event) (k : ℕ) (b : Begun) (r : RefreshView) (done : List Listed) → (session_of (state_of trace) k).begun ≡ Some b
    → computed_list b.image r ≡ Ok done → Each (λ l. (n : ℕ) → l.view.def.beneath ≡ Some n → Rolls b.image done l.view n l.computed.rows) done

-- What the refresh of one view over a view computes is its query over what the view beneath holds in the image of the begin.
abbrev pub OneRolls : Type 0
OneRolls =
    (trace : List Event) (k : ℕ) (b : Begun) (r : RefreshView) (v : View) (x : Computed) → (session_of (state_of trace) k).begun ≡ Some b
    → begun_view b ≡ Some v → computed_for b.image [] r v ≡ Ok x → (n : ℕ) → v.def.beneath ≡ Some n → Rolls b.image [] v n x.rows
