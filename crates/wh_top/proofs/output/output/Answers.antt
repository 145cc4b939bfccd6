use Rattle.std.proofs.Common.{◌∙◌, ap, ◌++◌, ◌∷◌, []}
use Rattle.def_transcript.specs.Texts.{journal_line, lines_text}
use Rattle.wh_top.proofs.Outputs.{output_ran}
use Rattle.wh_top.proofs.output.output.Goals as goal

pub returns-clause-output : goal.returns-clause-output
returns-clause-output g c =
    let ran = c.in_ok-sessions.ensures.ran in
    let text = c.in_ok-text.text.items in
    output_ran c.args.version c.args.script _ _ _ text c.push_journal.new.out.items c.requires.runnable ran c.in_ok-text.ensures (c.in_ok-push_journal.ensures ∙ ap (λ es. text ++ lines_text (journal_line es ∷ [])) c.as_slice.ensures.items)
