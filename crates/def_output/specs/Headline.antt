-- What the headline says beside the output: what a run on threads may write, and that a transcript tells its journal.
use Rattle.std.specs.List.{list_all}
use Rattle.std.specs.Prelude.{IsTrue, List, Some, ℕ, ◌≡◌}
use Rattle.wh_base.specs.declared.statements.Entry.{Entry}
use Rattle.wh_base.specs.declared.statements.Script.{Script}
use Rattle.wh_base.specs.declared.values.Version.{Version}
use Rattle.def_journal.specs.Journal.{is_legal}
use Rattle.def_transcript.specs.Transcript.{transcript}
use Rattle.def_output.specs.Checking.{entry_fits, last_line, read_journal}

-- ---- the output of a run on threads

-- The bytes written are the transcript, in this version, of the script under a journal that is legal for it, and their last line names
-- this journal. The counters rise by `reads_at (Some (script, journal))`.
pub record IsRun (version : Version) (script : Script) (written : List ℕ) (journal : List Entry) : Type 0 where
  pub legal : IsTrue (is_legal script journal)
  pub named : read_journal (last_line written) ≡ Some journal
  pub transcript : written ≡ transcript version script journal

-- P of what such a run may write, and of the journal that it names.
pub record SomeRun (version : Version) (script : Script) (P : List ℕ → List Entry → Type 0) : Type 0 where
  pub written : List ℕ
  pub journal : List Entry
  pub is_run : IsRun version script written journal
  pub holds : P written journal

-- The law that the last line of a transcript gives its journal back, where the numbers of its entries fit.
abbrev pub TellsItsJournal : Type 0
TellsItsJournal = (version : Version) (script : Script) (journal : List Entry) → IsTrue (list_all entry_fits journal) → read_journal (last_line (transcript version script journal)) ≡ Some journal
