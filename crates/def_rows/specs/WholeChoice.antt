-- The transcript of a script as it is where every class of rewrite is built, and where each answer has the rows of its own plan:
-- so the examples try each class and the rows that it gives. The program itself answers by the classes that are built so far.
use Rattle.std.specs.Prelude.{List, None, Ok, Option, Result, Some, [], codes, drop, flat_map, ℕ, ◌++◌, ◌∷◌}
use Rattle.wh_base.specs.Lists.{◌>>=◌}
use Rattle.wh_base.specs.Parts.{entry_bearer}
use Rattle.wh_base.specs.declared.queries.StarQuery.{StarQuery}
use Rattle.wh_base.specs.declared.replies.Reply.{Reply}
use Rattle.wh_base.specs.declared.replies.Reply.TheVariants as reply
use Rattle.wh_base.specs.declared.statements.Asked.{Asked}
use Rattle.wh_base.specs.declared.statements.BadScript.{BadScript}
use Rattle.wh_base.specs.declared.statements.Command.{Command}
use Rattle.wh_base.specs.declared.statements.Command.TheVariants as commands
use Rattle.wh_base.specs.declared.statements.Entry.{Entry}
use Rattle.wh_base.specs.declared.statements.Event.{Event}
use Rattle.wh_base.specs.declared.statements.Script.{Script}
use Rattle.wh_base.specs.declared.statements.Statement.TheVariants.{ExplainQuery, Select}
use Rattle.wh_base.specs.declared.values.Version.{Version}
use Rattle.wh_base.specs.declared.values.Version.TheVariants.{One}
use Rattle.def_choice.specs.Choice.{asked_scn, every_class, plan_meaning, plan_reads}
use Rattle.def_history.specs.Catalog.{Catalog}
use Rattle.def_journal.specs.Answers.{by_query, chosen, explained, plan_line}
use Rattle.def_journal.specs.Journal.{Told, event_step, given_by, order_of, state_after, trace_of}
use Rattle.def_journal.specs.State.{Session, State, empty_state, image_of, session_of}
use Rattle.def_output.specs.Checking.{difference, difference_line, given_journal, given_version, line_text}
use Rattle.def_output.specs.Output.{Checking, Ordering, script_given}
use Rattle.def_rows.specs.Lines.{lines_text}
use Rattle.def_transcript.specs.Texts.{first_lines, journal_line}
use Rattle.def_transcript.specs.Transcript.{lines_of, section_ids}

-- ANSWER with the plan that is chosen among all classes, and the rows that this plan gives.
abbrev pub answer_by_plan : Catalog → Session → Asked → StarQuery → Reply
answer_by_plan c x a q =
    let p = chosen every_class c x a q in
    reply.Answer (record { scn = asked_scn c q; plan = plan_line c p; read = plan_reads c q p; rows = plan_meaning c q p })

-- The reply of an event.
abbrev pub whole_reply : State → Event → Option Reply
whole_reply s e = of_command e.command
  where
    x : Session
    x = session_of s (entry_bearer e.entry)

    of_command : Command → Option Reply
    of_command (commands.Other (Select a)) = (by_query s (image_of s x) a (answer_by_plan (image_of s x) x a)).reply
    of_command (commands.Other (ExplainQuery a)) = (by_query s (image_of s x) a (explained every_class (image_of s x) x a)).reply
    of_command _ = (event_step s e).reply

-- The replies of a trace that begins at this state.
abbrev pub whole_replies : State → List Event → List Told
whole_replies s [] = []
whole_replies s (e ∷ es) = given_by e (whole_reply s e) ++ whole_replies (state_after s e) es

-- The transcript of the script under this journal, in this version.
abbrev pub whole_transcript : Version → Script → List Entry → List ℕ
whole_transcript version script journal =
    let given = whole_replies empty_state (trace_of script journal) in
    lines_text (first_lines version ++ (flat_map (lines_of version given) (flat_map section_ids script.sections) ++ journal_line journal ∷ []))

-- That of a script in its own order, for the bytes of the script, or its first fault.
abbrev pub whole_output_in : Version → List ℕ → Result (List ℕ) BadScript
whole_output_in version bytes = script_given (Ordering version) bytes >>= (λ p. Ok (whole_transcript version p.0 (order_of p.0)))

-- The same in the first version, in which most examples are written.
abbrev pub whole_output : List ℕ → Result (List ℕ) BadScript
whole_output bytes = whole_output_in One bytes

-- What `check` tells of a script and of a transcript with such plans.
abbrev pub whole_check_line : Script → List ℕ → Option (List Entry) → List ℕ
whole_check_line script given None = codes "check no journal"
whole_check_line script given (Some journal) = difference_line (difference 0 (whole_transcript (given_version given) script journal) given)

abbrev pub whole_check : List ℕ → Result (List ℕ) BadScript
whole_check bytes =
    script_given Checking bytes
    >>= (λ p. let given = drop p.1 bytes in Ok (line_text (whole_check_line p.0 given (given_journal p.0 given))))
