-- The transcript of a script under a journal, in each of its two versions.
use Rattle.std.specs.Prelude.{Bool, List, [], filter, flat_map, length, map, ℕ, ◌&&◌, ◌++◌, ◌==◌, ◌∷◌}
use Rattle.wh_base.specs.Lists.{count_from}
use Rattle.wh_base.specs.declared.statements.Entry.{Entry}
use Rattle.wh_base.specs.declared.statements.Id.{Id}
use Rattle.wh_base.specs.declared.statements.Script.{Script}
use Rattle.wh_base.specs.declared.statements.Section.{Section}
use Rattle.wh_base.specs.declared.values.Version.{Version}
use Rattle.def_journal.specs.Journal.{Told, replies_of, trace_of}
use Rattle.def_transcript.specs.Texts.{first_lines, journal_line, lines_text, reply_lines}

-- The same session and command, whoever does it.
abbrev pub same_id : Id → Id → Bool
same_id a b = (a.session == b.session) && (a.command == b.command)

-- The commands of a section, in script order.
abbrev pub section_ids : Section → List Id
section_ids s = map (λ n. record { session = s.session; command = n; worker = 0 }) (count_from 1 (length s.commands))

-- The lines of the replies to this command; that of a job comes after that of its SUBMIT.
abbrev pub lines_of : Version → List Told → Id → List (List ℕ)
lines_of version given id = flat_map (λ g. reply_lines version g.id g.reply) (filter (λ g. same_id g.id id) given)

-- In the second version a line that says so; then the replies session by session, in script order whatever the journal says, and
-- then the journal line.
abbrev pub transcript_lines : Version → Script → List Entry → List (List ℕ)
transcript_lines version script journal =
    let given = replies_of (trace_of script journal) in
    first_lines version ++ (flat_map (lines_of version given) (flat_map section_ids script.sections) ++ journal_line journal ∷ [])

-- The same as bytes.
abbrev pub transcript : Version → Script → List Entry → List ℕ
transcript version script journal = lines_text (transcript_lines version script journal)
