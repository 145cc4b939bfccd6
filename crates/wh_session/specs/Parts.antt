-- What the parts of a command give.
use Rattle.std.specs.List.{find}
use Rattle.std.specs.Prelude.{◌≡◌, ◌+◌, IsSome, IsTrue, List, None, Ok, Option, Some, option_and_then, option_map, ℕ}
use Rattle.std.specs.Option.{IsSomeAnd}
use Rattle.wh_base.specs.Lists.{option_case}
use Rattle.wh_base.specs.declared.replies.Reply.{Reply}
use Rattle.wh_base.specs.declared.statements.Command.{Command}
use Rattle.wh_base.specs.declared.statements.Command.TheVariants as commands
use Rattle.wh_base.specs.declared.statements.Event.{Event}
use Rattle.wh_base.specs.declared.statements.Id.{Id}
use Rattle.wh_base.specs.declared.statements.Method.TheVariants.{Complete}
use Rattle.wh_base.specs.declared.statements.RefreshView.{RefreshView}
use Rattle.wh_base.specs.declared.statements.Statement.TheVariants as about
use Rattle.def_built.specs.Commands.{command_is_built}
use Rattle.def_history.specs.Catalog.{Catalog, View, view_numbered}
use Rattle.def_journal.specs.Journal.{event_of, reply_to}
use Rattle.def_journal.specs.Refreshing.{Computed, computed}
use Rattle.def_output.specs.Reads.{read_of}
use Rattle.wh_core.specs.Calls.{HasBegun, bearer_of, install_of}
use Rattle.wh_core.specs.declared.refreshing.Begun.{Begun}
use Rattle.wh_session.specs.Tally.{Telling, told_after}
use Rattle.wh_session.specs.declared.parts.Part.{Part}
use Rattle.wh_session.specs.declared.parts.Pending.{Pending}
use Rattle.wh_session.specs.declared.parts.Part.TheVariants as part
use Rattle.wh_view.specs.Kept.{AllKept, Kept, is_named, is_numbered}

-- The part is answered, and so many base rows were read as its reply says.
pub record IsReplied (trace : List Event) (e : Event) (r : Reply) (read read_after : ℕ) : Type 0 where
  pub reply : reply_to trace e ≡ Some r
  pub read_is : read_after ≡ read + read_of r

-- A refresh of this view has begun; it is a command of a form that is built.
pub record IsPending (trace : List Event) (id : Id) (command : Command) (kept : Begun) (done : Option Computed) : Type 0 where
  pub asked : RefreshView
  pub command_is : command ≡ commands.Other (about.Refresh asked)
  pub built : IsTrue (command_is_built command)
  pub name : kept.name ≡ asked.name
  pub begun : HasBegun trace (bearer_of id) kept done

-- It gave no reply, and read what was computed.
pub record IsBegun (trace trace_after : List Event) (id : Id) (command : Command) (kept : Begun) (done : Option Computed) (read read_after : ℕ) : Type 0 where
  pub pending : IsPending trace_after id command kept done
  pub reply : reply_to trace (event_of id command) ≡ None
  pub read_is : read_after ≡ read + option_case done 0 (λ x. x.read)

abbrev pub IsFirst : List Event → List Event → Id → Command → Part → ℕ → ℕ → Type 0
IsFirst trace after id command (part.Replied r) read read_after = IsReplied trace (event_of id command) r read read_after
IsFirst trace after id command (part.Begun kept done) read read_after = IsBegun trace after id command kept done read read_after

-- ---- the parts with what is kept of their replies

-- The command is answered, and its reply is told.
pub record IsTold (trace : List Event) (id : Id) (command : Command) (kept kept_after : Telling) (read read_after : ℕ) : Type 0 where
  pub answer : Reply
  pub replied : IsReplied trace (event_of id command) answer read read_after
  pub told : kept_after ≡ told_after kept id answer

-- It is a refresh that has begun, and nothing is told.
pub record IsWaiting (trace trace_after : List Event) (id : Id) (command : Command) (p : Pending) (kept kept_after : Telling) (read read_after : ℕ) : Type 0 where
  pub id_is : p.id ≡ id
  pub command_is : p.command ≡ command
  pub begun : IsBegun trace trace_after id command p.begun p.computed read read_after
  pub untold : kept_after ≡ kept

abbrev pub IsStarted : List Event → List Event → Id → Command → Option Pending → Telling → Telling → ℕ → ℕ → Type 0
IsStarted trace after id command None kept kept_after read read_after = IsTold trace id command kept kept_after read read_after
IsStarted trace after id command (Some p) kept kept_after read read_after = IsWaiting trace after id command p kept kept_after read read_after

-- A refresh is installed, and its reply is told. It says that so many rows were read as were computed from.
pub record IsFinished (trace : List Event) (p : Pending) (kept kept_after : Telling) : Type 0 where
  pub answer : Reply
  pub reply : reply_to trace (install_of p.id p.command) ≡ Some answer
  pub read : read_of answer ≡ option_case p.computed 0 (λ x. x.read)
  pub told : kept_after ≡ told_after kept p.id answer

-- ---- the begin of a refresh over an image

-- What it keeps of the view with this name.
pub record KeptOf (at : ℕ) (views : AllKept) (asked : List ℕ) (kept : Begun) : Type 0 where
  pub name : kept.name ≡ asked
  pub view : kept.view ≡ option_map (λ k. k.view.def.view) (find (is_named asked) views.views)
  pub point : kept.point ≡ option_and_then (λ k. k.view.point) (find (is_named asked) views.views)
  pub scn : kept.scn ≡ at

-- the view with this number, where there is one, is among these
abbrev pub IsThere : List Kept → Option ℕ → Type 0
IsThere views None = Unit {0}
IsThere views (Some n) = IsSome (find (is_numbered n) views)

-- what a complete refresh of the view with this number computes over a catalog, where there is one
abbrev pub ComputedOf : Catalog → Option ℕ → Option Computed → Type 0
ComputedOf c None done = done ≡ None
ComputedOf c (Some n) done = (v : View) → view_numbered c n ≡ Some v → IsSomeAnd done (λ x. computed c v Complete ≡ Ok x)
