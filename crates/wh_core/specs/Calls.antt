-- What the calls of a core are given and what they make.
use Rattle.std.specs.List.{list_any}
use Rattle.std.specs.Option.{IsSomeAnd}
use Rattle.std.specs.Prelude.{◌≡◌, Bool, List, None, Ok, Option, Some, false, flat_map, true, ℕ}
use Rattle.wh_base.specs.Lists.{has_text}
use Rattle.wh_base.specs.Parts.{bearer}
use Rattle.wh_base.specs.declared.statements.Command.{Command}
use Rattle.wh_base.specs.declared.statements.Event.{Event}
use Rattle.wh_base.specs.declared.statements.Id.{Id}
use Rattle.wh_base.specs.declared.statements.Method.TheVariants.{Complete}
use Rattle.wh_base.specs.declared.statements.Statement.{Statement}
use Rattle.wh_base.specs.declared.statements.Statement.TheVariants as about
use Rattle.def_built.specs.Form.{created_by, created_over}
use Rattle.def_history.specs.Catalog.{Catalog, View}
use Rattle.def_journal.specs.Journal.{state_of}
use Rattle.def_journal.specs.Refreshing.{Computed, begun_view, computed}
use Rattle.def_journal.specs.State as state
use Rattle.wh_core.specs.declared.refreshing.Begun.{Begun}

-- a statement on a table or a view
abbrev pub changes_catalog : Statement → Bool
changes_catalog (about.Table s) = true
changes_catalog (about.View s) = true
changes_catalog s = false

-- a statement whose first part takes an image
abbrev pub takes_image : Statement → Bool
takes_image (about.Select a) = true
takes_image (about.Show s) = true
takes_image (about.Refresh r) = true
takes_image s = false

-- how many installs a statement will need
abbrev pub begins_of : Statement → ℕ
begins_of (about.Refresh r) = 1
begins_of s = 0

-- the event of the install of a refresh
abbrev pub install_of : Id → Command → Event
install_of id command = record { entry = record { session = id.session; command = id.command; part = 2; worker = id.worker }; command = command }

-- the number of the session, or of the worker, that a command is of
abbrev pub bearer_of : Id → ℕ
bearer_of id = bearer id.session id.worker

-- the names of the views that these commands create
abbrev pub names_created : List Command → List (List ℕ)
names_created commands = flat_map created_by commands

-- a view that the command creates is over no view that these commands create, and so over tables
abbrev pub IsOverTables : List Command → Command → Type 0
IsOverTables before command = list_any (has_text (names_created before)) (created_over command) ≡ false

-- this was computed over an image of the view over tables as it was there: nothing where there was no such view
abbrev pub Computes : Catalog → Option View → Option Computed → Type 0
Computes image None rows = rows ≡ None
Computes image (Some v) rows = (v.def.beneath ≡ None) × IsSomeAnd rows (λ x. computed image v Complete ≡ Ok x)

-- The refresh of the session with this number has begun, this was kept of its begin, and this was computed over its image.
pub record HasBegun (trace : List Event) (session : ℕ) (kept : Begun) (rows : Option Computed) : Type 0 where
  pub begun : state.Begun
  pub is : (state.session_of (state_of trace) session).begun ≡ Some begun
  pub view : kept.view ≡ begun.view
  pub point : kept.point ≡ begun.point
  pub scn : kept.scn ≡ begun.image.scn
  pub computes : Computes begun.image (begun_view begun) rows
