use Rattle.std.proofs.Common.{◌/◌}
use Rattle.wh_segment.proofs.Replacing.{last_offset, last_put_chunks, last_put_list, on_err, set_kept, other_chunks, other_list, other_offset}
use Rattle.wh_segment.proofs.chunk_list.set_and_fill_last.Goals as goal

pub set_beside-requires : goal.set_beside-requires
set_beside-requires g c = other_offset _ c.args.others.now c.args.last.now c.args.place c.requires.full c.requires.there c.if-place-others.true

pub returns-then-place-others-clause-ok : goal.returns-then-place-others-clause-ok
returns-then-place-others-clause-ok g c =
    other_list _ c.args.others.now c.args.last.now c.set_beside.new.last c.set_beside.new.self c.args.place c.args.item c.args.more
    c.requires.full c.requires.there c.if-place-others.true c.in_ok-set_beside.ensures.ok c.in_ok-set_beside.ensures.more

pub returns-then-place-others-clause-full : goal.returns-then-place-others-clause-full
returns-then-place-others-clause-full g c =
    other_chunks _ c.args.others.now c.args.last.now c.set_beside.new.last c.set_beside.new.self c.args.place c.args.item c.args.more
    c.requires.full c.requires.room c.if-place-others.true c.in_ok-set_beside.ensures.ok c.in_ok-set_beside.ensures.more

pub set_and_push-requires : goal.set_and_push-requires
set_and_push-requires g c =
    last_offset c.args.others.now c.args.last.now c.args.place c.requires.full c.requires.there c.if-place-others.false

pub returns-clause-ok : goal.returns-clause-ok
returns-clause-ok g c =
    last_put_list c.args.others.now c.args.last.now c.set_and_push.new.self c.args.place c.args.item c.args.more c.requires.full c.requires.there c.if-place-others.false c.in_ok-set_and_push.ensures.ok

pub returns-clause-full : goal.returns-clause-full
returns-clause-full g c =
    last_put_chunks c.args.others.now c.args.last.now c.set_and_push.new.self c.args.place c.args.item c.args.more c.requires.full c.requires.there c.requires.room c.if-place-others.false c.in_ok-set_and_push.ensures.ok

pub returns-in_err-set_beside-clause-err : goal.returns-in_err-set_beside-clause-err
returns-in_err-set_beside-clause-err g c = on_err c.from_residual.result (set_kept _ c.args.others.now (c.args.place / 1024) c.set_beside.new.self c.in_err-set_beside.ensures.err)

pub returns-in_err-set_beside-clause-same : goal.returns-in_err-set_beside-clause-same
returns-in_err-set_beside-clause-same g c = on_err c.from_residual.result c.in_err-set_beside.ensures.same

pub returns-in_err-set_and_push-clause-same : goal.returns-in_err-set_and_push-clause-same
returns-in_err-set_and_push-clause-same g c = on_err c.from_residual-in_err-set_and_push.result c.in_err-set_and_push.ensures.err
