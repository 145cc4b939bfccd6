-- What the install of a list leaves: all of its views have moved, or none.
use Rattle.std.specs.Prelude.{List, None, Some, [], false, find, map, ℕ, ◌++◌, ◌<◌, ◌==◌, ◌∷◌, ◌≡◌}
use Rattle.wh_base.specs.Lists.{is_empty, option_case}
use Rattle.wh_base.specs.declared.statements.Command.{Command}
use Rattle.wh_base.specs.declared.statements.Command.TheVariants as commands
use Rattle.wh_base.specs.declared.statements.Event.{Event}
use Rattle.wh_base.specs.declared.statements.Statement.TheVariants as about
use Rattle.wh_base.specs.declared.statements.RefreshView.{RefreshView}
use Rattle.def_history.specs.Catalog.{Catalog, View, view_named, view_numbered}
use Rattle.def_journal.specs.Listing.{all_names, install_list}
use Rattle.def_journal.specs.Refreshing.{Listed, point_beneath, refreshed_to}
use Rattle.def_journal.specs.State.{Begun, Session, State, session_of}
use Rattle.def_journal.specs.Journal.{state_of}
use Rattle.wh_base.specs.Parts.{entry_bearer}
use Rattle.law_nest_trace.specs.Laws.{catalog_of}
use Rattle.law_nest.specs.Each.{Each}

-- each item with each later one
abbrev pub Later : {A : Type 0} → (A → A → Type 0) → List A → Type 0
Later R [] = Unit {0}
Later R (x ∷ xs) = Each (R x) xs × Later R xs

-- The numbers of the views ascend, and a view beneath is older than those over it.
pub record AreNumbered (c : Catalog) : Type 0 where
  pub ascending : Later (λ v w. v.def.view < w.def.view) c.views
  pub older : Each (λ v. (n : ℕ) → v.def.beneath ≡ Some n → n < v.def.view) c.views

-- The view as it is once what was computed of a list is installed.
abbrev pub moved_by : List Listed → View → View
moved_by done v = option_case (find (λ l. l.view.def.view == v.def.view) done) v (λ l. refreshed_to l.point v)

-- The view of this name in the image has moved, from the catalog c to d: it got the SCN of the image for its point, and over a view the
-- point that the view beneath gets by this list or else has in the image.
pub record HasMoved (image c d : Catalog) (done : List Listed) (name : List ℕ) : Type 0 where
  pub view : View
  pub named : view_named image name ≡ Some view
  pub before : View
  pub found : view_numbered c view.def.view ≡ Some before
  pub point : ℕ
  pub after : view_numbered d view.def.view ≡ Some (refreshed_to point before)
  pub over_tables : view.def.beneath ≡ None → point ≡ image.scn
  pub over_view : (n : ℕ) → view.def.beneath ≡ Some n → point_beneath image done n ≡ Some point

-- All views of the list have moved, and nothing else has changed.
pub record AllMoved (image c d : Catalog) (r : RefreshView) : Type 0 where
  pub done : List Listed
  pub each : Each (HasMoved image c d done) (all_names r)
  pub rest : d ≡ record c { views = map (moved_by done) c.views }

-- What the install of a list leaves of a catalog.
pub data Installed (image c d : Catalog) (r : RefreshView) : Type 0 where
  None_moved : d ≡ c → Installed image c d r
  All_moved : AllMoved image c d r → Installed image c d r

-- **The install of a list moves all of its views or none**, in whatever state.
abbrev pub ListsMove : Type 0
ListsMove =
    (s : State) (x : Session) (r : RefreshView) (b : Begun) → x.begun ≡ Some b → AreNumbered b.image
    → Installed b.image s.catalog (install_list s x r).state.catalog r

-- ---- after every trace

-- The part of the command with which a refresh is installed.
abbrev pub IsInstall : RefreshView → ℕ → Command → Type 0
IsInstall r part (commands.Block b) = ⊥
IsInstall r part (commands.Other statement) = (statement ≡ about.Refresh r) × ((part == 1) ≡ false)
IsInstall r part (commands.Submit statement) = (statement ≡ about.Refresh r) × (((part == 1) ≡ false) × ((part == 2) ≡ false))

-- The event is the install of this list: part 2 of a REFRESH, or part 3 of a SUBMIT.
pub record InstallsList (e : Event) (r : RefreshView) : Type 0 where
  pub many : is_empty r.more ≡ false
  pub command : IsInstall r e.entry.part e.command

-- **After every trace the install of a list moves all of its views or none.** What a session or a worker has begun is always such an image.
abbrev pub TracesMoveLists : Type 0
TracesMoveLists =
    (trace : List Event) (e : Event) (r : RefreshView) (b : Begun) → InstallsList e r
    → (session_of (state_of trace) (entry_bearer e.entry)).begun ≡ Some b
    → Installed b.image (catalog_of trace) (catalog_of (trace ++ e ∷ [])) r
