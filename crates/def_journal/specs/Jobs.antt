-- The jobs of a script: which SUBMITs are accepted, which entries of workers a journal may have for them, and who does what is left.
use Rattle.std.specs.List.{enumerate_from, list_all, list_any}
use Rattle.std.specs.Prelude.{Bool, List, [], cond, false, filter, flat_map, nat_le, not, true, ℕ, ◌&&◌, ◌++◌, ◌==◌, ◌||◌, ◌∷◌}
use Rattle.wh_base.specs.declared.statements.Command.{Command}
use Rattle.wh_base.specs.declared.statements.Entry.{Entry}
use Rattle.wh_base.specs.declared.statements.Id.{Id}
use Rattle.wh_base.specs.declared.statements.Script.{Script}
use Rattle.wh_base.specs.declared.statements.Section.{Section}
use Rattle.wh_base.specs.declared.statements.SessionStatement.TheVariants.{EndReadOnly, ReadOnly}
use Rattle.wh_base.specs.declared.statements.SessionStatement.{SessionStatement}
use Rattle.wh_base.specs.declared.statements.Statement.TheVariants as about
use Rattle.wh_base.specs.declared.statements.Command.TheVariants as commands

-- ---- entries

-- The entry is one of a session's own; every other is a worker's.
abbrev pub is_own : Entry → Bool
is_own e = e.worker == 0

-- The same session, command, part and worker.
abbrev pub same_entry : Entry → Entry → Bool
same_entry a b = (a.session == b.session) && ((a.command == b.command) && ((a.part == b.part) && (a.worker == b.worker)))

-- The same entries in the same order.
abbrev pub same_entries : List Entry → List Entry → Bool
same_entries [] [] = true
same_entries [] (b ∷ bs) = false
same_entries (a ∷ as') [] = false
same_entries (a ∷ as') (b ∷ bs) = same_entry a b && same_entries as' bs

-- The entry is one of this command of a session, whoever does it.
abbrev pub is_of : Id → Entry → Bool
is_of id e = (e.session == id.session) && (e.command == id.command)

-- ---- accepted SUBMITs

-- After this setting of the session a READ ONLY image is kept, where before it one was kept or not.
abbrev pub kept_after_setting : Bool → SessionStatement → Bool
kept_after_setting kept ReadOnly = true
kept_after_setting kept EndReadOnly = false
kept_after_setting kept setting = kept

-- The same after any command.
abbrev pub kept_after : Bool → Command → Bool
kept_after kept (commands.Block b) = kept
kept_after kept (commands.Other (about.Session setting)) = kept_after_setting kept setting
kept_after kept (commands.Other statement) = kept
kept_after kept (commands.Submit statement) = kept

-- The command is a SUBMIT.
abbrev pub is_submit : Command → Bool
is_submit (commands.Block b) = false
is_submit (commands.Other statement) = false
is_submit (commands.Submit statement) = true

-- The SUBMITs of these commands that are accepted, where an image is kept before the first or not: those before which none is
-- kept. So the session's own commands tell it, whatever the journal is.
abbrev pub accepted_from : ℕ → Bool → List (ℕ × Command) → List Id
accepted_from session kept [] = []
accepted_from session kept (p ∷ ps) =
    cond (is_submit p.1 && not kept) (record { session = session; command = p.0; worker = 0 } ∷ []) [] ++ accepted_from session (kept_after kept p.1) ps

-- The accepted SUBMITs of a section.
abbrev pub accepted_in : Section → List Id
accepted_in s = accepted_from s.session false (enumerate_from 1 s.commands)

-- The accepted SUBMITs of a script; each makes a job.
abbrev pub accepted_submits : Script → List Id
accepted_submits script = flat_map accepted_in script.sections

-- ---- the entries of workers

-- The worker that does what is left once all sessions and workers have ended.
abbrev pub closer : ℕ
closer = 9

-- Part 1 of the SUBMIT by the session, and then begin and install of its job, both by one worker.
abbrev pub is_job : List Entry → Bool
is_job (a ∷ b ∷ c ∷ []) =
    (is_own a && (a.part == 1)) && (((b.part == 2) && (c.part == 3)) && (not (is_own b) && (b.worker == c.worker)))
is_job es = false

-- The entries of an accepted SUBMIT are these and no others.
abbrev pub is_done : List Entry → Id → Bool
is_done journal id = is_job (filter (is_of id) journal)

-- The entries of a worker: begin and install of one job after another.
abbrev pub take_turns : List Entry → Bool
take_turns [] = true
take_turns (a ∷ []) = false
take_turns (a ∷ b ∷ es) = ((a.session == b.session) && (a.command == b.command)) && (((a.part == 2) && (b.part == 3)) && take_turns es)

-- The entries that are this worker's.
abbrev pub by_worker : List Entry → ℕ → List Entry
by_worker journal w = filter (λ e. e.worker == w) journal

-- A session's own entry, or that of a worker of the script, or of the closer.
abbrev pub is_worker_of : Script → Entry → Bool
is_worker_of script e = nat_le e.worker script.workers || (e.worker == closer)

-- A worker's entry is for an accepted SUBMIT.
abbrev pub is_for : List Id → Entry → Bool
is_for accepted e = is_own e || list_any (λ id. is_of id e) accepted

-- Each accepted SUBMIT is done once, after its part 1, by one worker, that does nothing else between begin and install; what the closer
-- does comes last; and workers have no other entries.
abbrev pub jobs_are_legal : Script → List Entry → Bool
jobs_are_legal script journal =
    let accepted = accepted_submits script in
    list_all (is_done journal) accepted
    && (list_all (is_for accepted) journal
    && (list_all (is_worker_of script) journal
    && (list_all (λ e. is_own e || take_turns (by_worker journal e.worker)) journal
    && same_entries journal (filter (λ e. not (e.worker == closer)) journal ++ by_worker journal closer))))

-- ---- the order of a script

-- Begin and install of a job, by the closer.
abbrev pub closed : Entry → List Entry
closed e = record e { part = 2; worker = closer } ∷ record e { part = 3; worker = closer } ∷ []

-- The jobs of the accepted SUBMITs among these entries, in their order, by the closer.
abbrev pub closing : Script → List Entry → List Entry
closing script own = flat_map closed (filter (λ e. list_any (λ id. is_of id e) (accepted_submits script)) own)
