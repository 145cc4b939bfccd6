use Rattle.std.proofs.Common.{rules}
use Rattle.wh_top.proofs.Inputs.{counted_where, fault_where, written_where}
use Rattle.wh_top.proofs.top.order.Goals as goal

pub returns-in-Ok-write_all-clause-counted : goal.returns-in-Ok-write_all-clause-counted
returns-in-Ok-write_all-clause-counted g c written = counted_where c.args.version (g.S.Source.left c.args.source.now) c.in-Ok.script c.args.reads.now c.output.new.reads c.in-Ok.ensures.script c.in-Ok-output.ensures.counted

pub returns-clause-counted : goal.returns-clause-counted
returns-clause-counted g c written = counted_where c.args.version (g.S.Source.left c.args.source.now) c.in-Ok.script c.args.reads.now c.output.new.reads c.in-Ok.ensures.script c.in-Ok-output.ensures.counted

pub returns-in-Err-Bad-clause-fault : goal.returns-in-Err-Bad-clause-fault
returns-in-Err-Bad-clause-fault g c other =
    let found = fault_where c.args.version (g.S.Source.left c.args.source.now) in
    search (rules, found, other)

pub returns-in-Ok-write_all-clause-done : goal.returns-in-Ok-write_all-clause-done
returns-in-Ok-write_all-clause-done g c done =
    written_where c.args.version (g.S.Source.left c.args.source.now) c.in-Ok.script c.in-Ok-output.text.items _ c.in-Ok.ensures.script c.in-Ok-output.ensures.output (search rules)

pub returns-clause-part : goal.returns-clause-part
returns-clause-part g c failed =
    written_where c.args.version (g.S.Source.left c.args.source.now) c.in-Ok.script c.in-Ok-output.text.items _ c.in-Ok.ensures.script c.in-Ok-output.ensures.output (search rules)
