-- The base rows that the replies of a session, or of a worker, say were read.
use Rattle.std.specs.Prelude.{List, filter, sum_by, ℕ, ◌==◌}
use Rattle.wh_base.specs.Parts.{bearer}
use Rattle.wh_base.specs.declared.replies.Reply.{Reply}
use Rattle.wh_base.specs.declared.replies.Reply.TheVariants.{Commit, Explain, Purge, Refuse, Validate}
use Rattle.wh_base.specs.declared.statements.Entry.{Entry}
use Rattle.wh_base.specs.declared.statements.Script.{Script}
use Rattle.def_journal.specs.Journal.{Told, replies_of, trace_of}
use Rattle.wh_base.specs.declared.replies.Reply.TheVariants as reply

-- The READ number of a reply.
abbrev pub read_of : Reply → ℕ
read_of (Commit r) = r.read
read_of (reply.Catalog r) = r.read
read_of (Purge r) = 0
read_of (reply.Answer r) = r.read
read_of (reply.Refresh r) = r.read
read_of (reply.View r) = 0
read_of (reply.Log r) = 0
read_of (Explain r) = 0
read_of (reply.Rewrite r) = 0
read_of (Validate r) = r.read
read_of (Refuse r) = r.read
read_of (reply.RefreshList r) = r.read
read_of reply.Submit = 0

-- The sum of the READ numbers of these replies.
abbrev pub reads_of : List Told → ℕ
reads_of told = sum_by (λ t. read_of t.reply) told

-- The replies to the commands of a session, without those of its jobs; and under 64 and a worker's number those of the jobs that it did.
abbrev pub told_to : ℕ → List Told → List Told
told_to session told = filter (λ t. bearer t.id.session t.id.worker == session) told

-- The sum of the READ numbers in the replies of a session, or of a worker, for a script under a journal.
abbrev pub session_reads : Script → List Entry → ℕ → ℕ
session_reads script journal session = reads_of (told_to session (replies_of (trace_of script journal)))
