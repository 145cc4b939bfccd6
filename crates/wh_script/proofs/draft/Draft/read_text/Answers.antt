use Rattle.std.proofs.lemmas.Result.{err_from_is_err_and}
use Rattle.wh_script.proofs.Texts.{text-refused, text-taken}
use Rattle.wh_script.proofs.draft.Draft.read_text.Goals as goal

pub returns-in_err-text-clause-taken : goal.returns-in_err-text-clause-taken
returns-in_err-text-clause-taken c =
    let p = err_from_is_err_and c.from_residual.result c.from_residual.ensures.1 in
    rw (p.1, p.2) (text-refused c.args.bytes.now c.args.valid c.args.end c.args.mark.place c.args.self c.loop-text.text _ c.requires.later c.loop-text.invariant.same c.in_err-text.ensures.next)

pub returns-clause-taken : goal.returns-clause-taken
returns-clause-taken c = text-taken c.args.bytes.now c.args.valid c.args.end c.args.mark.place c.loop-text.text.at c.args.self c.loop-text.text.draft c.requires.later c.loop-text-test.false c.loop-text.invariant.same
