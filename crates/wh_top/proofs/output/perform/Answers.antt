use Rattle.std.proofs.Common.{◌≡◌, ◌∙◌, ap, subst, sym, arith, length}
use Rattle.def_journal.specs.Journal.{is_legal}
use Rattle.wh_top.specs.Running.{AreAsFar, HasRun}
use Rattle.wh_top.proofs.Outputs.{has_run, order_legal, output_counted, written_back}
use Rattle.wh_top.proofs.output.perform.Goals as goal

pub take_parts-requires-clause-legal : goal.take_parts-requires-clause-legal
take_parts-requires-clause-legal g c =
    ap (λ s. is_legal s c.in_ok-journal.journal) c.of-whole.ensures
    ∙ ap (is_legal c.args.script) (c.in_ok-journal.ensures.whole c.requires.runnable.no_jobs)
    ∙ order_legal c.args.script c.requires.runnable

pub returns-clause-ran : goal.returns-clause-ran
returns-clause-ran g c =
    let whole = c.of-whole.result.value in
    let journal = c.in_ok-journal.journal in
    let runs = c.take_parts.new.sessions in
    let made = c.in_ok-sessions.sessions in
    let count : made.len ≡ length made.items = omega (arith, made.ok) in
    let same : length runs ≡ length made.items = omega (arith, c.take_parts.auto.sessions) in
    let back = written_back made.len runs made.items count same in
    let far = subst (λ v. AreAsFar v whole journal whole.sections runs) c.of-told.ensures c.in_ok-scn.ensures.far in
    let ran = has_run c.args.version c.args.script whole journal runs c.in_ok-scn.scn c.of-whole.ensures (c.in_ok-journal.ensures.whole c.requires.runnable.no_jobs) far c.in_ok-scn.ensures.scn in
    subst (λ rs. HasRun c.args.version c.args.script rs journal c.in_ok-scn.scn) (sym back) ran

pub returns-clause-counted : goal.returns-clause-counted
returns-clause-counted g c =
    let whole = c.of-whole.result.value in
    let journal = c.in_ok-journal.journal in
    let runs = c.take_parts.new.sessions in
    let far = subst (λ v. AreAsFar v whole journal whole.sections runs) c.of-told.ensures c.in_ok-scn.ensures.far in
    output_counted c.args.version c.args.script whole journal runs c.args.reads.now c.take_parts.new.reads c.requires.runnable c.of-whole.ensures (c.in_ok-journal.ensures.whole c.requires.runnable.no_jobs) far c.in_ok-scn.ensures.counted
