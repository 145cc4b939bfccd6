-- What holds of the legal journals of a script, of its own order, and of the replies under them.
use Rattle.std.specs.List.{All, list_all}
use Rattle.std.specs.Prelude.{Bool, List, None, Option, Some, [], cond, count_by, filter, find, flat_map, length, map, slice_get, sum_by, take, true, ℕ, ◌++◌, ◌-◌, ◌==◌, ◌∷◌, ◌≡◌, ◌≤◌}
use Rattle.wh_base.specs.Lists.{repeated}
use Rattle.wh_base.specs.Parts.{parts_of, section_entries}
use Rattle.wh_base.specs.declared.statements.Command.{Command}
use Rattle.wh_base.specs.declared.statements.Entry.{Entry}
use Rattle.wh_base.specs.declared.statements.Event.{Event}
use Rattle.wh_base.specs.declared.statements.Script.{Script}
use Rattle.wh_base.specs.declared.statements.Section.{Section}
use Rattle.wh_base.specs.declared.values.Version.{Version}
use Rattle.def_journal.specs.Jobs.{accepted_submits, is_own}
use Rattle.def_journal.specs.Journal.{Told, command_of, given_by, is_legal, of_session, order_of, own_entries, replies_of, reply_to, session_numbers, trace_of}
use Rattle.def_transcript.specs.Texts.{first_lines, journal_line, lines_text, reply_lines}
use Rattle.def_transcript.specs.Transcript.{transcript}

-- the first number that stands there twice
abbrev pub number_twice : List ℕ → Option ℕ
number_twice ns = repeated (λ m n. m == n) ns

-- the replies to the commands of a session
abbrev pub told_in : ℕ → List Told → List Told
told_in n told = filter (λ t. t.id.session == n) told

-- the lines of these replies in this version, one reply after another
abbrev pub told_text : Version → List Told → List ℕ
told_text version told = lines_text (flat_map (λ t. reply_lines version t.id t.reply) told)

-- the replies to the commands of a session under a journal
abbrev pub session_told : Script → List Entry → Section → List Told
session_told script journal s = told_in s.session (replies_of (trace_of script journal))

-- the entry is a part of a command among these, the first of which has the number n, and the session does it itself
pub record Names (session n : ℕ) (commands : List Command) (e : Entry) : Type 0 where
  pub own : e.session ≡ session
  pub alone : e.worker ≡ 0
  pub command : Command
  pub at : slice_get commands (e.command - n) ≡ Some command
  pub from : n ≤ e.command
  pub first : 1 ≤ e.part
  pub last : e.part ≤ parts_of command

-- behind these entries the entry is the next part of its session: as many of the session's parts stand before it as it
-- has before it, and its command is the one at its number
pub record IsNext (script : Script) (front : List Entry) (e : Entry) : Type 0 where
  pub section : Section
  pub found : find (λ s. s.session == e.session) script.sections ≡ Some section
  pub before : of_session e.session front ≡ take (length (of_session e.session front)) (section_entries section)
  pub next : slice_get (section_entries section) (length (of_session e.session front)) ≡ Some e
  pub names : Names section.session 1 section.commands e
  pub command_is : command_of script e ≡ names.command

-- where no SUBMIT of the script is accepted there are no jobs, so no worker has an entry or a reply
pub record Laws : Type 0 where
  -- a script's own order is legal, where each section has a number of its own and there are no jobs
  pub legal : (script : Script) → accepted_submits script ≡ [] → number_twice (session_numbers script) ≡ None → is_legal script (order_of script) ≡ true
  -- the entries that a section's session makes itself stand in its order
  pub own_parts : (script : Script) (journal : List Entry) → is_legal script journal ≡ true → All (λ s. own_entries s.session journal ≡ section_entries s) script.sections
  -- without jobs there are no others
  pub all_own : (script : Script) (journal : List Entry) → accepted_submits script ≡ [] → is_legal script journal ≡ true → list_all is_own journal ≡ true
  -- and each entry is the next part of its session
  pub next_part : (script : Script) (front rest : List Entry) (e : Entry) → accepted_submits script ≡ [] → is_legal script (front ++ e ∷ rest) ≡ true → IsNext script front e
  -- an event adds its reply, where it gives one
  pub told_of : (trace : List Event) (e : Event) → replies_of (trace ++ e ∷ []) ≡ replies_of trace ++ given_by e (reply_to trace e)
  -- and that only to the replies of its own session
  pub told_in_of : (n : ℕ) (trace : List Event) (e : Event) → told_in n (replies_of (trace ++ e ∷ [])) ≡ told_in n (replies_of trace) ++ cond (e.entry.session == n) (given_by e (reply_to trace e)) []
  -- without jobs the transcript is the line of its version, the text of each section's replies, in the order in which they were
  -- given, and the journal's line
  pub transcript_by_sessions : (version : Version) (script : Script) (journal : List Entry) → accepted_submits script ≡ [] → is_legal script journal ≡ true
      → transcript version script journal ≡ lines_text (first_lines version) ++ (flat_map (λ s. told_text version (session_told script journal s)) script.sections ++ lines_text (journal_line journal ∷ []))
  -- the same where the replies are held section by section
  pub transcript_by_lists : (version : Version) (script : Script) (journal : List Entry) (told : List (List Told)) → accepted_submits script ≡ [] → is_legal script journal ≡ true → told ≡ map (session_told script journal) script.sections
      → transcript version script journal ≡ lines_text (first_lines version) ++ (flat_map (told_text version) told ++ lines_text (journal_line journal ∷ []))
  -- each reply is one of exactly one section: where each section has a number of its own, a sum over all replies is that of the
  -- sums over each section's, and so it is with how many pass a test
  pub sum_by_sections : (f : Told → ℕ) (script : Script) (journal : List Entry) → is_legal script journal ≡ true → number_twice (session_numbers script) ≡ None
      → sum_by f (replies_of (trace_of script journal)) ≡ sum_by (λ s. sum_by f (session_told script journal s)) script.sections
  pub count_by_sections : (p : Told → Bool) (script : Script) (journal : List Entry) → is_legal script journal ≡ true → number_twice (session_numbers script) ≡ None
      → count_by p (replies_of (trace_of script journal)) ≡ sum_by (λ s. count_by p (session_told script journal s)) script.sections
