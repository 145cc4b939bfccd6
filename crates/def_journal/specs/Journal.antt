-- Journals and traces: when a journal is legal for a script, the journal of the script's own order, and the state and the replies that a trace stands for.
use Rattle.std.specs.List.{list_all}
use Rattle.std.specs.Prelude.{Bool, List, Option, [], cond, drop, filter, find, flat_map, fold, map, not, slice_get, take, unwrap_or, ℕ, ◌&&◌, ◌++◌, ◌-◌, ◌==◌, ◌∷◌}
use Rattle.wh_base.specs.Lists.{has_number, option_case}
use Rattle.wh_base.specs.Parts.{entry_bearer, section_entries}
use Rattle.wh_base.specs.declared.replies.Reply.{Reply}
use Rattle.wh_base.specs.declared.statements.Command.{Command}
use Rattle.wh_base.specs.declared.statements.Entry.{Entry}
use Rattle.wh_base.specs.declared.statements.Event.{Event}
use Rattle.wh_base.specs.declared.statements.Id.{Id}
use Rattle.wh_base.specs.declared.statements.Script.{Script}
use Rattle.wh_base.specs.declared.statements.Section.{Section}
use Rattle.def_journal.specs.Jobs.{closing, is_own, jobs_are_legal}
pub use Rattle.def_journal.specs.Jobs.{same_entries, same_entry}
use Rattle.def_journal.specs.State.{State, Step, empty_state}
use Rattle.def_journal.specs.Steps.{step}
use Rattle.wh_base.specs.declared.statements.Command.TheVariants as commands

-- ---- legal journals

-- The entries of this session, those of its jobs among them.
abbrev pub of_session : ℕ → List Entry → List Entry
of_session n journal = filter (λ e. e.session == n) journal

-- The entries of all other sessions.
abbrev pub not_of_session : ℕ → List Entry → List Entry
not_of_session n journal = filter (λ e. not (e.session == n)) journal

-- The numbers of the script's sections: 0 for the setup, and those of its sessions.
abbrev pub session_numbers : Script → List ℕ
session_numbers script = map (λ s. s.session) script.sections

-- The entries that this session makes itself.
abbrev pub own_entries : ℕ → List Entry → List Entry
own_entries n journal = filter is_own (of_session n journal)

-- All entries of the setup come first; each session's own entries are its commands' parts in script order, each once; those of workers
-- are for its accepted SUBMITs; and there are no others.
abbrev pub is_legal : Script → List Entry → Bool
is_legal script journal =
    same_entries journal (of_session 0 journal ++ not_of_session 0 journal)
    && (list_all (λ s. same_entries (own_entries s.session journal) (section_entries s)) script.sections
    && (list_all (λ e. has_number (session_numbers script) e.session) journal
    && jobs_are_legal script journal))

-- ---- the order of a script

-- What is left of each session.
abbrev pub Left : Type 0
Left = List (ℕ × List Entry)

-- The next part of this session, where it has one.
abbrev pub next_of : Left → ℕ → List Entry
next_of [] n = []
next_of (p ∷ ps) n = cond (p.0 == n) (take 1 p.1) (next_of ps n)

-- The same without this part.
abbrev pub without_next : Left → ℕ → Left
without_next left n = map (λ p. cond (p.0 == n) (p.0, drop 1 p.1) p) left

-- Each number takes the next part of that session; then comes what is left, session by session.
abbrev pub turns : List ℕ → Left → List Entry
turns [] left = flat_map (λ p. p.1) left
turns (n ∷ ns) left = next_of left n ++ turns ns (without_next left n)

-- The section is the setup.
abbrev pub is_setup : Section → Bool
is_setup s = s.session == 0

-- The entries that the sessions make themselves in it: the setup's parts, then the turns of @order, then what is left.
abbrev pub own_turns : Script → List Entry
own_turns script =
    flat_map section_entries (filter is_setup script.sections)
    ++ turns script.order (map (λ s. (s.session, section_entries s)) (filter (λ s. not (is_setup s)) script.sections))

-- The journal of the form `order`: these, and then all jobs, by the closer.
abbrev pub order_of : Script → List Entry
order_of script = let own = own_turns script in own ++ closing script own

-- ---- traces

-- What stands for the command of an entry that the script doesn't have; a legal journal has no such entry.
abbrev pub no_command : Command
no_command = commands.Block (record { statements = [] })

-- The command that the entry names; commands are numbered from 1.
abbrev pub command_of : Script → Entry → Command
command_of script e =
    option_case (find (λ s. s.session == e.session) script.sections) no_command (λ s. unwrap_or (slice_get s.commands (e.command - 1)) no_command)

-- The trace that the script gives a journal.
abbrev pub trace_of : Script → List Entry → List Event
trace_of script journal = map (λ e. record { entry = e; command = command_of script e }) journal

-- The step of an event.
abbrev pub event_step : State → Event → Step
event_step s e = step s (entry_bearer e.entry) e.command e.entry.part

-- The state that it leaves.
abbrev pub state_after : State → Event → State
state_after s e = (event_step s e).state

-- The state that a trace stands for: the steps of all its events, from the empty state.
abbrev pub state_of : List Event → State
state_of trace = fold state_after empty_state trace

-- A reply with the session and the command that it is for, and the worker that did it, where it is that of a job.
pub record Told : Type 0 where
  pub id : Id
  pub reply : Reply

-- The reply of an event, where it gives one.
abbrev pub given_by : Event → Option Reply → List Told
given_by e r =
    option_case r [] (λ x. record { id = record { session = e.entry.session; command = e.entry.command; worker = e.entry.worker }; reply = x } ∷ [])

-- The replies of a trace that begins at this state, in the order of its entries.
abbrev pub replies_from : State → List Event → List Told
replies_from s [] = []
replies_from s (e ∷ es) = let x = event_step s e in given_by e x.reply ++ replies_from x.state es

-- The replies of a trace.
abbrev pub replies_of : List Event → List Told
replies_of trace = replies_from empty_state trace

-- The commands of a trace, in the order of its entries.
abbrev pub commands_of : List Event → List Command
commands_of trace = map (λ e. e.command) trace

-- ---- one event more

-- The event of a command of a session that has one part.
abbrev pub event_of : Id → Command → Event
event_of id command =
    record { entry = record { session = id.session; command = id.command; part = 1; worker = id.worker }; command = command }

-- The reply of an event after a trace.
abbrev pub reply_to : List Event → Event → Option Reply
reply_to trace e = (event_step (state_of trace) e).reply
