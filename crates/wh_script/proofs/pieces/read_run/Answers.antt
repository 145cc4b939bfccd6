use Rattle.std.proofs.Common.{refl, ◌+◌}
use Rattle.wh_script.proofs.Walks.{run-fault, run-step}
use Rattle.wh_script.proofs.pieces.read_run.Goals as goal

pub returns-in-Ok : goal.returns-in-Ok
returns-in-Ok c =
    let at = c.args.at.now in
    run-step at.bytes.now at.valid at.mark.place c.args.size (at.mark.place + c.args.size) c.args.draft c.in-Ok.draft c.mark_at.result c.requires.within c.requires.size c.requires.some refl c.in-Ok.ensures.taken
    (c.mark_at.ensures.place, c.mark_at.ensures.line, c.in-Ok.ensures.built)

pub returns-in-Err : goal.returns-in-Err
returns-in-Err c =
    let at = c.args.at.now in
    run-fault at.bytes.now at.valid at.mark.place c.args.size (at.mark.place + c.args.size) c.args.draft c.in-Err.fault c.requires.size c.requires.some refl c.in-Err.ensures.taken
