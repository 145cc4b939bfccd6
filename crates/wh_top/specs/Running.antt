-- How far the sessions of a script have come.
use Rattle.std.specs.List.{All, enumerate_from}
use Rattle.std.specs.Prelude.{◌≡◌, ◌≤◌, ◌+◌, ◌==◌, List, None, Some, [], ◌∷◌, cond, drop, length, map, slice_get, slice_index, slice_set, suc, sum_by, true, ℕ}
use Rattle.wh_base.specs.Parts.{section_entries}
use Rattle.wh_base.specs.declared.statements.Entry.{Entry}
use Rattle.wh_base.specs.declared.statements.Script.{Script}
use Rattle.wh_base.specs.declared.statements.Section.{Section}
use Rattle.wh_base.specs.declared.statements.Event.{Event}
use Rattle.wh_base.specs.declared.values.Version.{Version}
use Rattle.def_built.specs.Form.{script_is_built}
use Rattle.def_journal.specs.Jobs.{accepted_submits}
use Rattle.def_journal.specs.Journal.{of_session, order_of, replies_of, session_numbers, state_of, trace_of}
use Rattle.def_output.specs.Reads.{reads_of}
use Rattle.wh_order.specs.Laws.{number_twice, session_told, told_in, told_text}
use Rattle.wh_session.specs.Run.{AreOverTables, CanRun, Continues, Run, Takes}
use Rattle.wh_session.specs.Tally.{tally_of}
use Rattle.wh_session.specs.declared.tally.Tally.{Tally}

-- the greatest number of a session
abbrev pub most_sessions : ℕ
most_sessions = 64

-- A script that can be run: each of its sections can be, and has a number of its own, from 0 to 64; and no SUBMIT makes a job.
pub record IsRunnable (script : Script) : Type 0 where
  pub built : script_is_built script ≡ true
  pub sections : All CanRun script.sections
  pub differ : number_twice (session_numbers script) ≡ None
  pub within : All (λ s. s.session ≤ most_sessions) script.sections
  pub no_jobs : accepted_submits script ≡ []

-- The session has taken its parts in this front of a journal, and its text has their replies in this version.
pub record IsAsFar (version : Version) (script : Script) (front : List Entry) (s : Section) (r : Run) : Type 0 where
  pub version_is : r.version ≡ version
  pub section_is : r.section ≡ s
  pub left_is : r.left ≡ drop (length (of_session s.session front)) (section_entries s)
  pub text_is : r.text ≡ told_text version (session_told script front s)
  pub tally_is : r.tally ≡ tally_of (session_told script front s)
  pub goes_on : Continues r (trace_of script front)
  pub ended : r.left ≡ [] → r.ahead ≡ 0

-- so it is with each session of the script
abbrev pub AreAsFar : Version → Script → List Entry → List Section → List Run → Type 0
AreAsFar version script front [] [] = Unit {0}
AreAsFar version script front [] (r ∷ rs) = ⊥
AreAsFar version script front (s ∷ ss) [] = ⊥
AreAsFar version script front (s ∷ ss) (r ∷ rs) = IsAsFar version script front s r × AreAsFar version script front ss rs

-- the base rows that a refresh of the session with this number has read, which no reply tells yet
abbrev pub ahead_of : ℕ → List Run → ℕ
ahead_of n runs = sum_by (λ r. cond (r.section.session == n) r.ahead 0) runs

-- the base rows that the replies to a session tell under this front of a journal, and those read ahead
abbrev pub read_by : Script → List Entry → List Run → ℕ → ℕ
read_by script front runs n = reads_of (told_in n (replies_of (trace_of script front))) + ahead_of n runs

-- the counter of each session rose by the base rows that it has read
abbrev pub CountedSoFar : Script → List Entry → List Run → List ℕ → List ℕ → Type 0
CountedSoFar script front runs old new = new ≡ map (λ p. p.1 + read_by script front runs p.0) (enumerate_from 0 old)

-- the tallies of all sessions together
abbrev pub total : List Run → Tally
total runs =
    record { refused = sum_by (λ r. r.tally.refused) runs; rewritten = sum_by (λ r. r.tally.rewritten) runs; read = sum_by (λ r. r.tally.read) runs }

-- how many commands these sections have
abbrev pub command_count : List Section → ℕ
command_count sections = sum_by (λ s. length s.commands) sections

-- the place of the session with the number n, or how many there are
abbrev pub place_of : ℕ → List Run → ℕ
place_of n [] = 0
place_of n (r ∷ rs) = cond (r.section.session == n) 0 (suc (place_of n rs))

-- The session with the number n is among these, a part of it is left, the trace goes on from its last part, and the session creates no
-- view over one that the trace creates.
pub record HasNext (n : ℕ) (runs : List Run) (trace : List Event) : Type 0 where
  pub run : Run
  pub there : slice_get runs (place_of n runs) ≡ Some run
  pub entry : Entry
  pub later : List Entry
  pub left_is : run.left ≡ entry ∷ later
  pub goes_on : Continues run trace
  pub over_tables : AreOverTables trace run.section

-- Of these sessions the one with the number n alone has taken its next part, and its counter alone rose: by the base rows
-- that were read for that part.
pub record IsTaken (n : ℕ) (runs runs_after : List Run) (trace trace_after : List Event) (reads reads_after : List ℕ) : Type 0 where
  pub run : Run
  pub there : slice_get runs (place_of n runs) ≡ Some run
  pub after : Run
  pub runs_are : runs_after ≡ slice_set runs (place_of n runs) after
  pub count : ℕ
  pub reads_are : reads_after ≡ slice_set reads n count
  pub takes : Takes run after trace trace_after (slice_index reads n) count

-- The script has run whole in its own order, its replies are told in this version, and its trace left this SCN.
pub record HasRun (version : Version) (script : Script) (runs : List Run) (journal : List Entry) (scn : ℕ) : Type 0 where
  pub journal_is : journal ≡ order_of script
  pub far : AreAsFar version script (order_of script) script.sections runs
  pub scn_is : scn ≡ (state_of (trace_of script (order_of script))).catalog.scn
