-- How far a session has come, and what its next part makes of it.
use Rattle.std.specs.List.{All, list_any}
use Rattle.std.specs.Prelude.{◌≡◌, ◌≤◌, ◌+◌, ◌++◌, ◌-◌, List, Some, [], ◌∷◌, false, true, slice_get, length, ℕ}
use Rattle.wh_base.specs.declared.statements.Command.{Command}
use Rattle.wh_base.specs.declared.statements.Entry.{Entry}
use Rattle.wh_base.specs.declared.statements.Event.{Event}
use Rattle.wh_base.specs.declared.statements.Section.{Section}
use Rattle.wh_base.specs.declared.values.Version.{Version}
use Rattle.wh_base.specs.Parts.{section_entries}
use Rattle.def_built.specs.Commands.{commands_are_built}
use Rattle.def_journal.specs.Journal.{commands_of, given_by, reply_to}
use Rattle.def_output.specs.Reads.{reads_of}
use Rattle.wh_core.specs.Calls.{IsOverTables}
use Rattle.wh_session.specs.Tally.{both, tally_of, told_text}
use Rattle.wh_session.specs.declared.tally.Tally.{Tally}
use Rattle.law_trace.specs.Reached.{is_of}
use Rattle.law_views.specs.Read.{IsRead}

-- its section, the entries of the parts that are left, the trace after its last part, the version, the text and the tally of its
-- replies so far, and how many base rows a refresh that has begun has read, which no reply tells yet
pub record Run : Type 0 where
  pub section : Section
  pub left : List Entry
  pub seen : List Event
  pub version : Version
  pub text : List ℕ
  pub tally : Tally
  pub ahead : ℕ

-- a session of these commands with nothing done
abbrev pub begun : Version → Section → Run
begun version s = record { section = s; left = section_entries s; seen = []; version = version; text = []; tally = tally_of []; ahead = 0 }

-- the commands are of forms that are built, and each asks what its tokens read as
pub record CanRun (s : Section) : Type 0 where
  pub built : commands_are_built s.commands ≡ true
  pub read : All IsRead s.commands

-- no command of the section creates a view over one that a command of the trace creates
abbrev pub AreOverTables : List Event → Section → Type 0
AreOverTables trace s = All (IsOverTables (commands_of trace)) s.commands

-- nothing of the session stands in the trace behind what it has seen
pub record Continues (r : Run) (trace : List Event) : Type 0 where
  pub more : List Event
  pub is : trace ≡ r.seen ++ more
  pub apart : list_any (is_of r.section.session) more ≡ false

-- The session has taken its next part: the event of that part is behind the trace, and the text of its reply, where it gives one, behind that
-- of the replies before; it is counted with them. The base rows read are those that the replies tell, and those of a refresh that has begun.
pub record Takes (r after : Run) (trace trace_after : List Event) (read read_after : ℕ) : Type 0 where
  pub entry : Entry
  pub command : Command
  pub next : r.left ≡ entry ∷ after.left
  pub names : slice_get r.section.commands (entry.command - 1) ≡ Some command
  pub own : entry.session ≡ r.section.session
  pub event_is : trace_after ≡ trace ++ record { entry = entry; command = command } ∷ []
  pub section_is : after.section ≡ r.section
  pub version_is : after.version ≡ r.version
  pub seen_is : after.seen ≡ trace_after
  pub text_is : after.text ≡ r.text ++ told_text r.version (given_by (record { entry = entry; command = command }) (reply_to trace (record { entry = entry; command = command })))
  pub tally_is : after.tally ≡ both r.tally (tally_of (given_by (record { entry = entry; command = command }) (reply_to trace (record { entry = entry; command = command }))))
  pub read_is : read_after + r.ahead ≡ read + (reads_of (given_by (record { entry = entry; command = command }) (reply_to trace (record { entry = entry; command = command }))) + after.ahead)
  -- where no part is left, all that was read is told
  pub ended : after.left ≡ [] → after.ahead ≡ 0

-- the trace has one event more at the most
pub record Grows (trace after : List Event) : Type 0 where
  pub more : List Event
  pub is : after ≡ trace ++ more
  pub few : length more ≤ 1
