-- What a core keeps of its trace.
use Rattle.std.specs.List.{All}
use Rattle.std.specs.Prelude.{◌≡◌, ◌≤◌, List, count_by, false, is_some, length, true, ℕ}
use Rattle.wh_base.specs.Lists.{has_text}
use Rattle.wh_base.specs.declared.statements.Event.{Event}
use Rattle.def_built.specs.Commands.{commands_are_built}
use Rattle.def_history.specs.History.{kept_versions}
use Rattle.def_journal.specs.Journal.{commands_of, state_of}
use Rattle.def_journal.specs.State.{Session}
use Rattle.wh_answer.specs.Over.{IsImageOf}
use Rattle.wh_constraints.specs.Constraints.{AreRight}
use Rattle.wh_keys.specs.Coded.{Held}
use Rattle.wh_table.specs.Stored.{Stored}
use Rattle.law_trace.specs.Reached.{catalog_of}
use Rattle.wh_core.specs.Calls.{names_created}
use Rattle.wh_view.specs.Kept.{AllKept, Kept}

-- how many sessions have a refresh that has begun and isn't installed
abbrev pub begun_count : List Session → ℕ
begun_count sessions = count_by (λ x. is_some x.begun) sessions

-- one of these names is that of the view
abbrev pub IsNamedBy : List (List ℕ) → Kept → Type 0
IsNamedBy names k = has_text names k.view.def.name ≡ true

-- The image is the catalog that the trace leaves. The commands are of forms that are built, and so there are no views that
-- are refreshed at a commit; each view bears a name that one of them created. So many row versions are kept, and there is
-- room for the installs of all refreshes that have begun.
pub record IsCore (trace : List Event) (scn : ℕ) (tables : List Stored) (views : AllKept) (kept begun room : ℕ) : Type 0 where
  pub image : IsImageOf trace scn tables views
  pub built : commands_are_built (commands_of trace) ≡ true
  pub on_demand : All (λ k. k.view.def.on_commit ≡ false) views.views
  pub named : All (IsNamedBy (names_created (commands_of trace))) views.views
  pub counted : kept ≡ kept_versions (catalog_of trace)
  pub enough : begun_count (state_of trace).sessions ≤ begun
  pub fits : begun ≤ room
  -- each event raises the SCN and the number of views by one at the most
  pub scn_within : scn ≤ length trace
  pub made_within : views.made ≤ length trace

-- The same with the indexes: they are those of the tables, whose keys and foreign keys hold, and no block is open.
pub record IsIndexed (trace : List Event) (scn : ℕ) (tables : List Stored) (views : AllKept) (kept begun room : ℕ) (keys : Held) : Type 0 where
  pub core : IsCore trace scn tables views kept begun room
  pub right : AreRight scn tables keys.now
  pub settled : keys.before ≡ keys.now
